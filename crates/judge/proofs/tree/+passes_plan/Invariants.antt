-- `passes_plan` falls in the stages that may come, and hands on the kinds as `passes` does. Assumes nothing.
use Rattle.judge.proofs.tree.+passes_plan.Given as goal

abbrev pub decreases-passes_plan : goal.decreases-passes_plan
decreases-passes_plan l = l.stages
