-- No byte is no field. Assumes nothing.
use Rattle.meaning.specs.Bytes.{number_of}
use borrow.Author.Rules.{rules}
use Rattle.groups.proofs.group.fields_at.Goals as goal

pub returns-then-bytes-eq0 : goal.returns-then-bytes-eq0
unfolding number_of
returns-then-bytes-eq0 c = search rules
