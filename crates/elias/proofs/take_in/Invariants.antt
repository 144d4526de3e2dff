-- `take_in` meets its contract, by what its loop knows. Assumes nothing.
use Rattle.elias.proofs.Taking.{Taking}
use Rattle.elias.proofs.take_in.Given as goal

abbrev pub invariant-loop-i : goal.invariant-loop-i
invariant-loop-i g l = Taking l.form l.body l.left l.at l.initial.work l.first l.work l.i l.index
