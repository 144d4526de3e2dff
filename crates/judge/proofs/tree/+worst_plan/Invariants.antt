-- `worst_plan` falls in the stages that may come; no sum is above what three stages make of the largest code. Assumes nothing.
use Rattle.judge.proofs.tree.+worst_plan.Given as goal

abbrev pub decreases-worst_plan : goal.decreases-worst_plan
decreases-worst_plan l = l.stages
