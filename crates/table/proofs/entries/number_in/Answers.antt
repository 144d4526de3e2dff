-- `number_in` reads the four bytes of an entry from a place on. Assumes nothing.
use Prim.Native.Nat.{ℕ, ◌+◌}
use mathlib.Core.Path.{ap, ◌∙◌}
use native.Mathlib.Omega.{arith}
use Rattle.std.proofs.Common.{rules}
use Rattle.meaning.specs.Bytes.{word_at}
use Rattle.table.proofs.Slots.{slot-within}
use Rattle.table.proofs.entries.number_in.Goals as goal

pub slot_of-start-requires : goal.slot_of-start-requires
slot_of-start-requires c = omega (arith, slot-within c.requires.0)

pub overflow_add-byte : goal.overflow_add-byte
overflow_add-byte c = omega (arith, slot-within c.requires.0)

pub word_at-requires : goal.word_at-requires
word_at-requires c = omega (arith, slot-within c.requires.0)

pub returns : goal.returns
returns c = (c.word_at.ensures ∙ ap (λ (j : ℕ). word_at c.args.sheet.now (j + c.args.place)) c.slot_of-start.ensures, search rules)
