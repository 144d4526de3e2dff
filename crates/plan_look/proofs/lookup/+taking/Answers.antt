-- What the numbers through a place are refused by, before any sum: what the callees ensure is handed to the law of its stage. Assumes nothing.
use Prim.Native.Nat.{◌-◌}
use mathlib.Core.Path.{sym, ap}
use native.Mathlib.Omega.{arith}
use lib.ListN.{length}
use Rattle.meaning.specs.Answer.{number}
use Rattle.std.proofs.lemmas.Result.{err_from_is_err_and}
use Rattle.judge.proofs.PlanLaws.{at-bad, at-reference, at-runs}
use Rattle.stages.proofs.Parts.{part-short}
use Rattle.plan_look.proofs.Lookups.{looked-part, run-headed, run-looked}
use Rattle.plan_look.proofs.Takings.{taking-bad, taking-apart, taking-short, taking-reference, taking-no-run, taking-at-run}
use Rattle.plan_look.proofs.lookup.+taking.Goals as goal

pub returns-then-body-lt4 : goal.returns-then-body-lt4
returns-then-body-lt4 t c =
    let is = at-reference _ _ _ _ _ (sym c.in-Reference.ensures) in
    taking-short _ _ _ _ _ is.0 c.if-body-lt4.true

pub taking-requires : goal.taking-requires
taking-requires t c =
    let is = at-reference _ _ _ _ _ (sym c.in-Reference.ensures) in
    let short = part-short c.args.body.now 4 (length c.args.body.now - 4) in
    (omega (arith, is.1), (looked-part c.requires.0 short, omega (arith, is.1, c.requires.1)))

pub returns-in-Bad : goal.returns-in-Bad
returns-in-Bad t c = taking-bad _ _ _ _ (at-bad _ _ _ (sym c.in-Bad.ensures))

pub returns-in_err-total_plan-in-Code : goal.returns-in_err-total_plan-in-Code
returns-in_err-total_plan-in-Code t c =
    let told = ap number c.in_err-total_plan-in-Code.ensures in
    let p = err_from_is_err_and c.from_residual.result c.from_residual.ensures.1 in
    rw (p.1, p.2) (taking-apart _ _ _ _ _ _ c.stage_at.ensures c.in-Code.is told)

pub returns-in_ok-total_plan-in-Code : goal.returns-in_ok-total_plan-in-Code
returns-in_ok-total_plan-in-Code t c =
    taking-apart _ _ _ _ _ _ c.stage_at.ensures c.in-Code.is (ap number c.in_ok-total_plan-in-Code.ensures)

pub returns-else-body-lt4 : goal.returns-else-body-lt4
returns-else-body-lt4 t c =
    let is = at-reference _ _ _ _ _ (sym c.in-Reference.ensures) in
    taking-reference _ _ _ _ _ is.0 c.if-body-lt4.false c.taking.ensures

-- ---- runs

pub run_at-requires : goal.run_at-requires
run_at-requires t c =
    let is = at-runs _ _ _ _ _ (sym c.in-Runs.ensures) in
    (c.requires.0, omega (arith, is.1, c.requires.1))

pub returns-in_err-header-in-Runs : goal.returns-in_err-header-in-Runs
returns-in_err-header-in-Runs t c =
    let is = at-runs _ _ _ _ _ (sym c.in-Runs.ensures) in
    let p = err_from_is_err_and c.from_residual-in_err-header-in-Runs.result c.from_residual-in_err-header-in-Runs.ensures.1 in
    rw (p.1, p.2) (taking-no-run _ _ _ _ _ _ is.0 c.in_err-header-in-Runs.ensures)

pub slice_bounds-values-count : goal.slice_bounds-values-count
slice_bounds-values-count t c = (run-headed _ _ _ _ c.in_ok-header-in-Runs.ensures).after

pub slice_bounds-values-start : goal.slice_bounds-values-start
slice_bounds-values-start t c = (run-headed _ _ _ _ c.in_ok-header-in-Runs.ensures).after

pub slice_bounds-values-end : goal.slice_bounds-values-end
slice_bounds-values-end t c = (run-headed _ _ _ _ c.in_ok-header-in-Runs.ensures).inside

pub taking-requires-in-Runs : goal.taking-requires-in-Runs
taking-requires-in-Runs t c =
    let is = at-runs _ _ _ _ _ (sym c.in-Runs.ensures) in
    let short = part-short c.args.body.now 8 (c.in_ok-header-in-Runs.header.end.byte - 8) in
    (omega (arith, is.1), (run-looked _ _ _ _ c.in_ok-header-in-Runs.ensures c.requires.0 short, omega (arith, is.1, c.requires.1)))

pub returns-in_ok-header-in-Runs : goal.returns-in_ok-header-in-Runs
returns-in_ok-header-in-Runs t c =
    let is = at-runs _ _ _ _ _ (sym c.in-Runs.ensures) in
    taking-at-run _ _ _ _ _ _ is.0 c.in_ok-header-in-Runs.ensures c.taking-in-Runs.ensures
