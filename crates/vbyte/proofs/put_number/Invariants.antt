-- What is still to be put of the number, put from here on, makes the whole. Assumes nothing.
use Rattle.vbyte.proofs.Puts.{PutSo}
use Rattle.vbyte.proofs.put_number.Given as goal

abbrev pub invariant-loop-i : goal.invariant-loop-i
invariant-loop-i l = PutSo l.x l.start l.initial.out l.out l.rest l.i
