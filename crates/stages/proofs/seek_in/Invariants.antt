-- `seek_in`: the first j lengths have been passed. Assumes nothing.
use Rattle.stages.proofs.Seekings.{Seeking}
use Rattle.stages.proofs.seek_in.Given as goal

abbrev pub invariant-loop-j : goal.invariant-loop-j
invariant-loop-j l = Seeking l.lengths l.n l.goal l.initial.end l.end l.j
