-- One number by a plan: what the callees ensure is handed to the law of its stage. Assumes nothing.
use Prim.Native.Nat.{◌-◌}
use mathlib.Core.Path.{sym}
use native.Mathlib.Omega.{arith}
use lib.ListN.{length}
use Rattle.std.proofs.lemmas.Result.{err_from_is_err_and}
use Rattle.judge.proofs.PlanLaws.{at-bad, at_code, at-reference, at-differences, at-runs}
use Rattle.stages.proofs.Parts.{part-short}
use Rattle.plan_look.proofs.Lookups.{looked-part, look-bad, look-code, look-short, reference-refused, reference-sum}
use Rattle.plan_look.proofs.Lookups.{differences-first, differences-last, differences-sum, look-no-run, look-at-run, run-headed, run-looked}
use Rattle.plan_look.proofs.lookup.+lookup_plan.Goals as goal

pub returns-then-body-lt4 : goal.returns-then-body-lt4
returns-then-body-lt4 t c =
    let is = at-reference _ _ _ _ _ (sym c.in-Reference.ensures) in
    look-short _ _ _ _ _ is.0 c.if-body-lt4.true

pub lookup_plan-requires : goal.lookup_plan-requires
lookup_plan-requires t c =
    let is = at-reference _ _ _ _ _ (sym c.in-Reference.ensures) in
    let short = part-short c.args.body.now 4 (length c.args.body.now - 4) in
    (omega (arith, is.1), (looked-part c.requires.0 short, omega (arith, is.1)))

pub total_plan-requires : goal.total_plan-requires
total_plan-requires t c =
    let is = at-differences _ _ _ _ _ (sym c.in-Differences.ensures) in
    (c.requires.0, omega (arith, is.1))

pub taking-requires : goal.taking-requires
taking-requires t c =
    let is = at-differences _ _ _ _ _ (sym c.in-Differences.ensures) in
    (c.requires.0, omega (arith, is.1))

pub returns-in-Bad : goal.returns-in-Bad
returns-in-Bad t c = look-bad _ _ _ _ (at-bad _ _ _ (sym c.in-Bad.ensures))

pub returns-in-Code : goal.returns-in-Code
returns-in-Code t c =
    let is = at_code _ _ _ _ (sym c.in-Code.ensures) in
    look-code _ _ _ _ _ _ is.0 c.lookup_code.ensures

pub returns-in_err-x-in-Reference : goal.returns-in_err-x-in-Reference
returns-in_err-x-in-Reference t c =
    let is = at-reference _ _ _ _ _ (sym c.in-Reference.ensures) in
    let p = err_from_is_err_and c.from_residual.result c.from_residual.ensures.1 in
    rw (p.1, p.2) (reference-refused _ _ _ _ _ is.0 c.if-body-lt4.false c.word_at-m.ensures c.in_err-x-in-Reference.ensures)

pub returns-in_ok-x-in-Reference : goal.returns-in_ok-x-in-Reference
returns-in_ok-x-in-Reference t c =
    let is = at-reference _ _ _ _ _ (sym c.in-Reference.ensures) in
    rw c.ok_or.ensures.value
    (reference-sum _ _ _ _ _ is.0 c.if-body-lt4.false c.word_at-m.ensures _ c.in_ok-x-in-Reference.ensures c.checked_add.ensures)

pub returns-in_err-taking-in-Err : goal.returns-in_err-taking-in-Err
returns-in_err-taking-in-Err t c =
    let is = at-differences _ _ _ _ _ (sym c.in-Differences.ensures) in
    let p = err_from_is_err_and c.from_residual-in_err-taking-in-Err.result c.from_residual-in_err-taking-in-Err.ensures.1 in
    rw (p.1, p.2) (differences-first _ _ _ _ _ is.0 _ c.in-Err.ensures c.in_err-taking-in-Err.ensures)

pub returns-in_ok-taking-in-Err : goal.returns-in_ok-taking-in-Err
returns-in_ok-taking-in-Err t c =
    let is = at-differences _ _ _ _ _ (sym c.in-Differences.ensures) in
    differences-last _ _ _ _ _ is.0 c.in-Err.ensures c.in_ok-taking-in-Err.ensures

pub returns-in-Ok : goal.returns-in-Ok
returns-in-Ok t c =
    let is = at-differences _ _ _ _ _ (sym c.in-Differences.ensures) in
    differences-sum _ _ _ _ _ is.0 c.in-Ok.ensures c.number_of.ensures

-- ---- runs

pub run_at-requires : goal.run_at-requires
run_at-requires t c =
    let is = at-runs _ _ _ _ _ (sym c.in-Runs.ensures) in
    (c.requires.0, omega (arith, is.1))

pub returns-in_err-header-in-Runs : goal.returns-in_err-header-in-Runs
returns-in_err-header-in-Runs t c =
    let is = at-runs _ _ _ _ _ (sym c.in-Runs.ensures) in
    let p = err_from_is_err_and c.from_residual-in_err-header-in-Runs.result c.from_residual-in_err-header-in-Runs.ensures.1 in
    rw (p.1, p.2) (look-no-run _ _ _ _ _ _ is.0 c.in_err-header-in-Runs.ensures)

pub slice_bounds-values-count : goal.slice_bounds-values-count
slice_bounds-values-count t c = (run-headed _ _ _ _ c.in_ok-header-in-Runs.ensures).after

pub slice_bounds-values-start : goal.slice_bounds-values-start
slice_bounds-values-start t c = (run-headed _ _ _ _ c.in_ok-header-in-Runs.ensures).after

pub slice_bounds-values-end : goal.slice_bounds-values-end
slice_bounds-values-end t c = (run-headed _ _ _ _ c.in_ok-header-in-Runs.ensures).inside

pub lookup_plan-requires-in-Runs : goal.lookup_plan-requires-in-Runs
lookup_plan-requires-in-Runs t c =
    let is = at-runs _ _ _ _ _ (sym c.in-Runs.ensures) in
    let short = part-short c.args.body.now 8 (c.in_ok-header-in-Runs.header.end.byte - 8) in
    (omega (arith, is.1), (run-looked _ _ _ _ c.in_ok-header-in-Runs.ensures c.requires.0 short, omega (arith, is.1, c.requires.1)))

pub returns-in_ok-header-in-Runs : goal.returns-in_ok-header-in-Runs
returns-in_ok-header-in-Runs t c =
    let is = at-runs _ _ _ _ _ (sym c.in-Runs.ensures) in
    look-at-run _ _ _ _ _ _ is.0 c.in_ok-header-in-Runs.ensures c.lookup_plan-in-Runs.ensures
