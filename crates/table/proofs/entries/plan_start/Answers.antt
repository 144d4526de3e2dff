-- `plan_start` passes the kind of an entry. Assumes nothing.
use native.Mathlib.Omega.{arith}
use Rattle.table.proofs.Slots.{slot-within}
use Rattle.table.proofs.entries.plan_start.Goals as goal

pub slot_of-start-requires : goal.slot_of-start-requires
slot_of-start-requires c = omega (arith, slot-within c.requires)

pub returns : goal.returns
returns c = omega (arith, slot-within c.requires)
