-- `read_list`: the whole plan, from the first place on. Assumes nothing.
use native.Mathlib.Omega.{arith}
use Rattle.meaning.specs.Plan.{plan_of}
use Rattle.stages.proofs.Rooms.{top-room}
use Rattle.plan_read.proofs.read_list.Goals as goal

pub read_plan-requires : goal.read_plan-requires
read_plan-requires c = record { short = c.requires.0; few = c.requires.1; within = omega (arith, c.requires.2, top-room c.args.n) }

pub returns : goal.returns
unfolding plan_of
returns c = c.read_plan.ensures
