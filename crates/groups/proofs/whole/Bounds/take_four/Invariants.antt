-- A turn reads one number (`FourSo`). Assumes nothing.
use Prim.Native.Nat.{◌+◌}
use Rattle.groups.proofs.Taking.{FourSo}
use Rattle.groups.proofs.whole.Bounds.take_four.Given as goal

abbrev pub invariant-loop-i : goal.invariant-loop-i
invariant-loop-i l = FourSo l.body l.fn.c l.fn.from.byte l.i l.fields (l.to + l.i) l.numbers
