-- The words are counted one by one (`CountSo`). Assumes nothing.
use Rattle.bits.proofs.Counts.{CountSo}
use Rattle.bits.proofs.words_of.ones_in.Given as goal

abbrev pub invariant-loop-i : goal.invariant-loop-i
invariant-loop-i l = CountSo l.bytes l.first l.words l.ones l.i
