-- `plan_end` falls in the stages that may come; a plan's size is told stage by stage. Assumes nothing.
use Rattle.judge.proofs.stage.+plan_end.Given as goal

abbrev pub decreases-plan_end : goal.decreases-plan_end
decreases-plan_end l = l.stages
