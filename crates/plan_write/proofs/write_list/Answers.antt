-- `write_list`: the whole plan, from the first place on. Assumes nothing.
use native.Mathlib.Nat.{zero-add}
use native.Mathlib.Omega.{arith}
use Rattle.meaning.specs.Plan.{plan_of}
use Rattle.stages.proofs.Rooms.{top-room}
use Rattle.plan_write.proofs.write_list.Goals as goal

pub write_plan-requires : goal.write_plan-requires
write_plan-requires c =
    let (few, long, near) = c.requires in
    let top = top-room c.args.n in
    record { within = omega (arith, long); below = omega (arith, few, near); small = omega (arith, few); few = few }

pub returns : goal.returns
unfolding plan_of
returns c =
    let s = c.write_plan.ensures in
    record { ends = s.ends; bytes = s.bytes; kept = rw (zero-add c.args.n) at s.kept }
