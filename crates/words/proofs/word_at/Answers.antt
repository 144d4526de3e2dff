use Rattle.meaning.specs.Bytes.{word_at}
use Rattle.words.proofs.word_at.Goals as goal

pub returns : goal.returns
unfolding word_at
returns c = c.number_at.ensures
