-- `push` meets its contract: a turn of the loop changes nothing of what the output will hold. Assumes nothing.
use Rattle.elias.proofs.Pushing.{Emits}
use Rattle.elias.proofs.output.Pending.push.Given as goal

abbrev pub invariant-loop-count : goal.invariant-loop-count
invariant-loop-count l = Emits l.initial.out l.bits l.initial.count l.initial.byte l.out l.count l.byte

abbrev pub decreases-loop-count : goal.decreases-loop-count
decreases-loop-count l = l.count
