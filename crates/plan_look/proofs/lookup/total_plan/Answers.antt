-- `total_plan`: a code's sum or a stage's. Assumes nothing.
use mathlib.Core.Path.{sym}
use Rattle.judge.proofs.PlanLaws.{at_code}
use Rattle.plan_look.proofs.Lookups.{code-total}
use Rattle.plan_look.proofs.lookup.total_plan.Goals as goal

pub returns : goal.returns
returns c =
    let is = at_code _ _ _ _ (sym c.in-Code.ensures) in
    code-total _ _ _ _ is.0 _ _ c.total_code.ensures
