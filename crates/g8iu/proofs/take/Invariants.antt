-- `take` takes block after block as long as they are plain (`Takes`). Assumes nothing.
use Prim.Native.Nat.{◌-◌}
use Rattle.g8iu.proofs.Takes.{Going}
use Rattle.g8iu.proofs.take.Given as goal

abbrev pub invariant-loop-next : goal.invariant-loop-next
invariant-loop-next l = Going l.body l.left l.at l.initial.work l.first l.room l.end l.work l.next.number l.to l.spare

abbrev pub decreases-loop-next : goal.decreases-loop-next
decreases-loop-next l = l.end - l.next.number
