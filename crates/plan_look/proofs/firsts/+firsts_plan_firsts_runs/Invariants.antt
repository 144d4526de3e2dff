-- The first numbers by a plan: what the callees ensure is handed to the law of its stage. Assumes nothing.
use Prim.Native.Nat.{◌+◌, ◌*◌}
use Rattle.plan_look.proofs.firsts.+firsts_plan_firsts_runs.Given as goal

abbrev pub decreases-firsts_plan : goal.decreases-firsts_plan
decreases-firsts_plan l = 2 * l.stages

abbrev pub decreases-firsts_runs : goal.decreases-firsts_runs
decreases-firsts_runs l = 2 * l.stages + 1
