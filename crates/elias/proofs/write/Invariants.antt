-- `write` meets its contract: what the output will hold is settled at each turn. Assumes nothing.
use Rattle.elias.proofs.Lists.{Writes}
use Rattle.elias.proofs.write.Given as goal

abbrev pub invariant-loop-x : goal.invariant-loop-x
invariant-loop-x l = Writes l.form l.list l.initial.wait.at.byte l.initial.out l.out l.wait l.x-index
