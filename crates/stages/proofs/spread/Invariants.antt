-- `spread`: the runs laid so far stand in work, as far as the goal. Assumes nothing.
use Rattle.stages.proofs.Unrolls.{Spreading}
use Rattle.stages.proofs.spread.Given as goal

abbrev pub invariant-loop-j : goal.invariant-loop-j
invariant-loop-j l = Spreading l.initial.work l.first l.n l.goal l.k l.work l.done l.j
