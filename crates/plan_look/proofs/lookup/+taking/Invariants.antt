-- What the numbers through a place are refused by, before any sum: what the callees ensure is handed to the law of its stage. Assumes nothing.
use Rattle.plan_look.proofs.lookup.+taking.Given as goal

abbrev pub decreases-taking : goal.decreases-taking
decreases-taking l = l.stages
