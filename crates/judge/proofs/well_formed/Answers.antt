-- `well_formed` asks for the length, for a good plan and for zeros after it. Assumes nothing.
use Rattle.std.proofs.Common.{rules, ◌∙◌, ne_eqb}
use Rattle.judge.proofs.FrontLaws.{formed-short, formed-is}
use Rattle.judge.proofs.well_formed.Goals as goal

pub returns-then-plan-eq-PLAN_BYTES : goal.returns-then-plan-eq-PLAN_BYTES
returns-then-plan-eq-PLAN_BYTES c = formed-is _ c.if-plan-eq-PLAN_BYTES.true c.good_end.ensures (search rules)

pub returns-else-plan-eq-PLAN_BYTES : goal.returns-else-plan-eq-PLAN_BYTES
returns-else-plan-eq-PLAN_BYTES c = ne_eqb _ _ c.if-plan-eq-PLAN_BYTES.false ∙ formed-short _ c.if-plan-eq-PLAN_BYTES.false
