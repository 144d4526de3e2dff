-- `slot_of` asks by the sheet's own edition. Assumes nothing.
use Prim.Native.Nat.{ℕ, ◌<◌, ◌^◌}
use mathlib.Core.Path.{ap, sym, ◌∙◌, subst}
use Rattle.table.specs.Offsets.{entry_offset}
use Rattle.table.proofs.entries.slot_of.Goals as goal

pub entry_start-requires : goal.entry_start-requires
entry_start-requires c = subst (λ (e : ℕ). entry_offset e c.args.column < 2 ^ 64) (sym c.edition_of.ensures) c.requires.1

pub returns : goal.returns
returns c = c.entry_start.ensures ∙ ap (λ (e : ℕ). entry_offset e c.args.column) c.edition_of.ensures
