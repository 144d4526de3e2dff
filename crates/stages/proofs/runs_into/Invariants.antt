-- `runs_into`: what is still to be stored, stored from here, is the whole. Assumes nothing.
use Rattle.stages.proofs.RunLoop.{Running}
use Rattle.stages.proofs.runs_into.Given as goal

abbrev pub invariant-loop-i : goal.invariant-loop-i
invariant-loop-i l = Running l.initial.work l.first l.n l.work l.v l.k l.j l.i
