-- `kind_at` reads the first byte of an entry. Assumes nothing.
use native.Mathlib.Omega.{arith}
use Rattle.table.proofs.Slots.{slot-within}
use Rattle.table.proofs.EntryLaws.{kind-here}
use Rattle.table.proofs.entries.kind_at.Goals as goal

pub slot_of-requires : goal.slot_of-requires
slot_of-requires c = omega (arith, slot-within c.requires)

pub bounds-sheet-slot_of : goal.bounds-sheet-slot_of
bounds-sheet-slot_of c = omega (arith, slot-within c.requires)

pub returns : goal.returns
returns c = kind-here c.args.sheet.now c.args.column c.requires.below c.slot_of.ensures
