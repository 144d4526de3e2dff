-- `judge_plan` refuses in the definition's order. Assumes nothing.
use mathlib.Core.Path.{refl}
use Rattle.meaning.specs.Plan.{plan_of, judge_plan}
use Rattle.judge.proofs.FrontLaws.{need-passed, need-refused}
use Rattle.judge.proofs.judge_plan.Goals as goal

pub returns-then-not-well_formed : goal.returns-then-not-well_formed
unfolding judge_plan
returns-then-not-well_formed c = need-refused _ _ _ _ c.well_formed-2.ensures c.if-not-well_formed.true

pub returns-then-not-passes_plan : goal.returns-then-not-passes_plan
unfolding judge_plan plan_of
returns-then-not-passes_plan c =
    need-passed _ _ _ _ _ c.well_formed-2.ensures c.if-not-well_formed.false
    (need-refused _ _ _ _ c.passes_plan.ensures c.if-not-passes_plan.true)

pub returns-else-not-passes_plan : goal.returns-else-not-passes_plan
unfolding judge_plan plan_of
returns-else-not-passes_plan c =
    need-passed _ _ _ _ _ c.well_formed-2.ensures c.if-not-well_formed.false
    (need-passed _ _ _ _ _ c.passes_plan.ensures c.if-not-passes_plan.false refl)
