-- A word is a number in 4 bytes. Assumes nothing.
use Rattle.meaning.specs.Bytes.{word}
use Rattle.words.proofs.put_word.Goals as goal

pub returns : goal.returns
unfolding word
returns c = c.put_number.ensures
