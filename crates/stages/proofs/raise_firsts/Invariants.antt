-- `raise_firsts`: the first sums are stored, and what is still to come is what is made of the numbers from here. Assumes nothing.
use Rattle.stages.proofs.Scans.{raised_by, Tested}
use Rattle.stages.proofs.raise_firsts.Given as goal

abbrev pub invariant-loop-i : goal.invariant-loop-i
invariant-loop-i l = Tested raised_by l.initial.work l.first l.n l.m l.work l.m l.i
