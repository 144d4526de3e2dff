-- `read_again`: what was read before is read again. Assumes nothing.
use Rattle.sheet.proofs.BoardLaws.{known-here, known-readable, again}
use Rattle.sheet.proofs.boards.read_again.Goals as goal

pub entry_at-entry-requires : goal.entry_at-entry-requires
entry_at-entry-requires c = known-here c.requires

pub read_column-requires : goal.read_column-requires
read_column-requires c = known-readable c.requires c.entry_at-entry.ensures

pub returns : goal.returns
returns c = again c.requires c.entry_at-entry.ensures c.read_column.ensures c.unwrap_or.ensures
