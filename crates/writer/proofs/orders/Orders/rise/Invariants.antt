-- `rise` has asked the lists below k. Assumes nothing.
use Rattle.writer.proofs.Turns.{RisingBelow}
use Rattle.writer.proofs.orders.Orders.rise.Given as goal

abbrev pub invariant-loop-k : goal.invariant-loop-k
invariant-loop-k l = RisingBelow l.edition l.self l.from l.k
