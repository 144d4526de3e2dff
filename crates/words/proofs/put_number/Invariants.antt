-- What is still to be put, put from here on, makes the whole. Assumes nothing.
use Rattle.words.proofs.Puts.{NumberSo}
use Rattle.words.proofs.put_number.Given as goal

abbrev pub invariant-loop-i : goal.invariant-loop-i
invariant-loop-i l = NumberSo l.x l.bytes l.first l.initial.out l.out l.rest l.i
