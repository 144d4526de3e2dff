-- `sum_firsts`: as `raise_firsts`; the state is the sum so far. Assumes nothing.
use Rattle.meaning.specs.Stages.{sums_from}
use Rattle.stages.proofs.Scans.{Tested}
use Rattle.stages.proofs.sum_firsts.Given as goal

abbrev pub invariant-loop-i : goal.invariant-loop-i
invariant-loop-i l = Tested sums_from l.initial.work l.first l.n 0 l.work l.s l.i
