-- `write` puts block after block: what is still to be written, put from here on, makes the whole (`Writes`). Assumes nothing.
use Rattle.std.proofs.Common.{length}
use Rattle.g8iu.proofs.Writes.{WriteSo}
use Rattle.g8iu.proofs.write.Given as goal

abbrev pub invariant-loop-rest : goal.invariant-loop-rest
invariant-loop-rest l = WriteSo l.list l.initial.to l.initial.out l.out l.rest l.to

abbrev pub decreases-loop-rest : goal.decreases-loop-rest
decreases-loop-rest l = length l.rest
