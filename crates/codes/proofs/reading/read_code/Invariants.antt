-- i numbers have been read and stand in work. Assumes nothing.
use Prim.Native.Nat.{◌-◌}
use Rattle.codes.proofs.Readings.{Reading}
use Rattle.codes.proofs.reading.read_code.Given as goal

abbrev pub invariant-loop-i : goal.invariant-loop-i
invariant-loop-i l = Reading l.code l.body l.n l.initial.work l.first l.work l.i l.at l.spare

abbrev pub decreases-loop-i : goal.decreases-loop-i
decreases-loop-i l = l.n - l.i
