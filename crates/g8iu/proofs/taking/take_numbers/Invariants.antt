-- `take_numbers` takes one number after another from the data as one number (`Numbers`). Assumes nothing.
use Prim.Native.Nat.{◌-◌}
use Rattle.g8iu.proofs.Numbers.{NumbersSo}
use Rattle.g8iu.proofs.taking.take_numbers.Given as goal

abbrev pub invariant-loop-coming : goal.invariant-loop-coming
invariant-loop-coming l = NumbersSo l.body (l.data - 1) l.ends l.sizes.most l.sizes.least l.initial.out l.initial.next l.out l.rest l.coming l.next

abbrev pub decreases-loop-coming : goal.decreases-loop-coming
decreases-loop-coming l = l.coming
