-- The words are counted one by one, and those that end before the k-th one are passed (`PassSo`). Assumes nothing.
use Rattle.bits.proofs.Counts.{PassSo}
use Rattle.bits.proofs.words_of.pass_words.Given as goal

abbrev pub invariant-loop-i : goal.invariant-loop-i
invariant-loop-i l = PassSo l.bytes l.first l.words l.k l.passed l.through l.i
