-- `gaps_into`: as `less_into`; the state is the number before. Assumes nothing.
use Prim.Native.Nat.{◌+◌}
use Rattle.meaning.specs.Stages.{less_before}
use Rattle.stages.proofs.Scans.{Scanning}
use Rattle.stages.proofs.gaps_into.Given as goal

abbrev pub invariant-loop-i : goal.invariant-loop-i
invariant-loop-i l = Scanning less_before l.initial.work (l.first + l.n) l.first l.n 0 l.work l.v l.i
