-- Each mask that is taken is one turn (`TakesBatch`). Assumes nothing.
use Rattle.groups.proofs.Taking.{TakesBatch}
use Rattle.groups.proofs.whole.Bounds.take_batch.Given as goal

abbrev pub invariant-loop-i : goal.invariant-loop-i
invariant-loop-i l = TakesBatch l.body l.at.head.byte l.i l.masks l.to.byte l.batch
