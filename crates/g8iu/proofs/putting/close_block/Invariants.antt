-- `close_block` puts the control byte and then zeros: what is left of them makes the whole. Assumes nothing.
use Rattle.std.proofs.Common.{◌+◌, ◌-◌, replicate}
use Rattle.leaves.proofs.Putting.{Left}
use Rattle.g8iu.proofs.putting.close_block.Given as goal

abbrev pub invariant-loop-i : goal.invariant-loop-i
invariant-loop-i l = Left (replicate (8 - l.used) 0) (l.data + l.used) l.initial.out (replicate (8 - l.i) 0) l.out (l.data + l.i)
