-- One number by a plan: what the callees ensure is handed to the law of its stage. Assumes nothing.
use Rattle.plan_look.proofs.lookup.+lookup_plan.Given as goal

abbrev pub decreases-lookup_plan : goal.decreases-lookup_plan
decreases-lookup_plan l = l.stages
