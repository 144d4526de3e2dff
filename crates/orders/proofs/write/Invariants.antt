-- `write` has taken apart the orders before i. Assumes nothing.
use Rattle.orders.proofs.Taken.{Apart}
use Rattle.orders.proofs.write.Given as goal

abbrev pub invariant-loop-i : goal.invariant-loop-i
invariant-loop-i l = Apart l.orders l.kinds l.plans l.counts l.i
