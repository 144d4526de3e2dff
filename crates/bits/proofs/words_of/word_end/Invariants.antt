-- Each byte, from the end on, goes below those behind it (`EndSo`). Assumes nothing.
use Rattle.bits.proofs.Ends.{EndSo}
use Rattle.bits.proofs.words_of.word_end.Given as goal

abbrev pub invariant-loop-i : goal.invariant-loop-i
invariant-loop-i l = EndSo l.bytes l.i-start l.i l.x
