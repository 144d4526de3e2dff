-- `put_block` puts numbers while they fit; a bit of the control byte falls with each (`Puts`). Assumes nothing.
use Rattle.g8iu.proofs.Puts.{PutSo}
use Rattle.g8iu.proofs.putting.put_block.Given as goal

abbrev pub invariant-loop-i : goal.invariant-loop-i
invariant-loop-i l = PutSo l.list l.fn.at.byte l.initial.out l.out l.control l.used l.i
