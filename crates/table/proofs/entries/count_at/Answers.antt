-- `count_at` reads an entry's count. Assumes nothing.
use mathlib.Core.Path.{refl, ◌∙◌}
use Rattle.table.proofs.EntryLaws.{count-here}
use Rattle.table.proofs.entries.count_at.Goals as goal

pub returns : goal.returns
returns c = c.number_in.ensures.0 ∙ count-here c.args.sheet.now c.args.column c.requires.below refl
