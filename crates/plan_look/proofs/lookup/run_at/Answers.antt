-- `run_at`: a header, then a run by its lengths. Assumes nothing.
use Prim.Native.Nat.{◌-◌}
use lib.ListN.{length}
use Rattle.std.proofs.lemmas.Result.{err_from_is_err_and}
use Rattle.stages.proofs.Headers.{headed}
use Rattle.stages.proofs.Parts.{part-short}
use Rattle.plan_look.proofs.Lookups.{looked-part, run-headless, run-refused, run-given}
use Rattle.plan_look.proofs.lookup.run_at.Goals as goal

pub slice_bounds-find_run-count : goal.slice_bounds-find_run-count
slice_bounds-find_run-count c = (headed c.header_of.ensures c.in_ok-header.was).inside

pub slice_bounds-find_run-start : goal.slice_bounds-find_run-start
slice_bounds-find_run-start c = (headed c.header_of.ensures c.in_ok-header.was).inside

pub find_run-requires : goal.find_run-requires
find_run-requires c =
    let split = c.in_ok-header.header.end.byte in
    let short = part-short c.args.body.now split (length c.args.body.now - split) in
    (looked-part c.requires.0 short, (headed c.header_of.ensures c.in_ok-header.was).few, c.requires.1)

pub returns-in_err-header : goal.returns-in_err-header
returns-in_err-header c =
    let p = err_from_is_err_and c.from_residual.result c.from_residual.ensures.1 in
    rw (p.1, p.2) (run-headless _ _ _ _ c.in_err-header.ensures)

pub returns-in_err-run : goal.returns-in_err-run
returns-in_err-run c =
    let p = err_from_is_err_and c.from_residual-in_err-run.result c.from_residual-in_err-run.ensures.1 in
    rw (p.1, p.2, ← c.plan_end-second.ensures) (run-refused _ _ _ _ c.in_ok-header.ensures c.in_err-run.ensures)

pub returns : goal.returns
returns c = rw (← c.plan_end-second.ensures) (run-given _ _ _ _ c.in_ok-header.ensures c.in_ok-run.ensures)
