-- `size_at` reads an entry's body length. Assumes nothing.
use mathlib.Core.Path.{refl, ◌∙◌}
use Rattle.table.proofs.EntryLaws.{size-here}
use Rattle.table.proofs.entries.size_at.Goals as goal

pub returns : goal.returns
returns c = (c.number_in.ensures.0 ∙ size-here c.args.sheet.now c.args.column c.requires.below refl, c.number_in.ensures.1)
