-- `judge` has judged the plans below k. Assumes nothing.
use Rattle.table.proofs.InTurn.{PassedBelow}
use Rattle.writer.specs.Orders.{list_judged, columns_of}
use Rattle.writer.proofs.orders.Orders.judge.Given as goal

abbrev pub invariant-loop-k : goal.invariant-loop-k
invariant-loop-k l = PassedBelow list_judged (columns_of l.self) l.k
