-- `body_start` has passed the bodies below k. Assumes nothing.
use native.Mathlib.Omega.{arith}
use Rattle.meaning.specs.Sheet.{edition_of}
use Rattle.table.proofs.Slots.{slot_small}
use Rattle.table.proofs.EntryLaws.{body-first, body-turn, body_end}
use Rattle.table.proofs.entries.body_start.Goals as goal

pub slot_of-at-requires : goal.slot_of-at-requires
slot_of-at-requires c = omega (arith, slot_small (edition_of c.args.sheet.now) c.column_count-columns.result)

pub loop-k-init : goal.loop-k-init
loop-k-init c = body-first c.requires c.column_count-columns.ensures c.slot_of-at.ensures

pub overflow_add-at : goal.overflow_add-at
overflow_add-at c = omega arith

pub loop-k-preserved : goal.loop-k-preserved
loop-k-preserved c = body-turn c.loop-k.invariant c.loop-k-test.true c.size_at.ensures

pub returns : goal.returns
returns c = body_end c.loop-k.invariant c.loop-k-test.false
