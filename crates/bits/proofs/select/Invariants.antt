-- `select` passes stretches of 8 words, and finds the bit in the one that holds it (`SelectSo`). Assumes nothing.
use Prim.Native.Nat.{◌*◌}
use Rattle.bits.proofs.Selecting.{SelectSo}
use Rattle.bits.proofs.select.Given as goal

abbrev pub invariant-loop-stretch : goal.invariant-loop-stretch
invariant-loop-stretch l = SelectSo l.bytes l.k (64 * l.stretch) l.left
