-- `entry_size` is what the edition says. Assumes nothing.
use mathlib.Core.Path.{refl}
use Rattle.meaning.specs.Sheet.{entry_size}
use Rattle.table.proofs.entries.entry_size.Goals as goal

pub returns : goal.returns
unfolding entry_size
returns c = refl
