-- `plan_end` falls in the stages that may come; a plan's size is told stage by stage. Assumes nothing.
use mathlib.Core.Path.{sym, ap}
use native.Mathlib.Omega.{arith}
use Rattle.meaning.specs.Plan.{plan_size}
use Rattle.judge.proofs.PlanLaws.{at-bad, at_code, at-runs, over}
use Rattle.judge.proofs.StageLaws.{two_ends}
use Rattle.judge.proofs.stage.+plan_end.Goals as goal

pub overflow_add-result : goal.overflow_add-result
overflow_add-result t c = omega (arith, at_code _ _ _ _ (sym c.in-Code.ensures))

pub plan_end-requires-in-Reference : goal.plan_end-requires-in-Reference
plan_end-requires-in-Reference t c = let o = over c.stage_at.ensures c.in-Reference.is in omega arith

pub plan_end-second-requires : goal.plan_end-second-requires
plan_end-second-requires t c = omega (arith, at-runs _ _ _ _ _ (sym c.in-Runs.ensures))

pub plan_end-requires : goal.plan_end-requires
plan_end-requires t c = omega (arith, at-runs _ _ _ _ _ (sym c.in-Runs.ensures))

pub returns-in-Bad : goal.returns-in-Bad
unfolding plan_size
returns-in-Bad t c = omega (arith, ap plan_size (at-bad _ _ _ (sym c.in-Bad.ensures)))

pub returns-in-Code : goal.returns-in-Code
unfolding plan_size
returns-in-Code t c = omega (arith, ap plan_size (at_code _ _ _ _ (sym c.in-Code.ensures)).0)

pub returns-in-Reference : goal.returns-in-Reference
returns-in-Reference t c = let o = over c.stage_at.ensures c.in-Reference.is in omega (arith, c.plan_end-in-Reference.ensures)

pub returns-in-Runs : goal.returns-in-Runs
unfolding plan_size
returns-in-Runs t c =
    let g = at-runs _ _ _ _ _ (sym c.in-Runs.ensures) in
    omega (arith, ap plan_size g.0, two_ends _ _ _ _ _ c.plan_end-second.ensures c.plan_end.ensures)
