-- Strict reading by a plan: what the callees ensure is handed to the law of its stage. Assumes nothing.
use Prim.Native.Nat.{◌+◌, ◌*◌}
use Rattle.plan_read.proofs.+read_plan_read_runs.Given as goal

abbrev pub decreases-read_plan : goal.decreases-read_plan
decreases-read_plan l = 2 * l.stages

abbrev pub decreases-read_runs : goal.decreases-read_runs
decreases-read_runs l = 2 * l.stages + 1
