-- `less_into`: the first numbers are stored, and what is still to come is what is made of the numbers from here. Assumes nothing.
use Prim.Native.Nat.{◌+◌}
use Rattle.stages.proofs.Scans.{less_by, Scanning}
use Rattle.stages.proofs.less_into.Given as goal

abbrev pub invariant-loop-i : goal.invariant-loop-i
invariant-loop-i l = Scanning less_by l.initial.work (l.first + l.n) l.first l.n l.m l.work l.m l.i
