-- Writing by a plan: what the callees ensure is handed to the law of its stage. Assumes nothing.
use Prim.Native.Nat.{◌+◌, ◌*◌}
use Rattle.plan_write.proofs.+write_plan_write_runs.Given as goal

abbrev pub decreases-write_plan : goal.decreases-write_plan
decreases-write_plan l = 2 * l.stages

abbrev pub decreases-write_runs : goal.decreases-write_runs
decreases-write_runs l = 2 * l.stages + 1
