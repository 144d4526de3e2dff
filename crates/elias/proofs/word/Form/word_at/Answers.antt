-- `word_at` meets its contract. Assumes nothing.
use Rattle.meaning.specs.Elias.{gamma_word}
use Rattle.elias.proofs.word.Form.word_at.Goals as goal

pub returns-in-Gamma : goal.returns-in-Gamma
unfolding gamma_word
returns-in-Gamma g c = rw c.in-Gamma.is c.gamma_in.ensures
