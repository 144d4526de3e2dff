-- The bits that hold the one are halved until one is left (`HalfSo`). Assumes nothing.
use Prim.Native.Nat.{◌-◌}
use Rattle.meaning.specs.Limits.{no_place}
use Rattle.bits.proofs.Halves.{HalfSo}
use Rattle.bits.proofs.words_of.bit_in.Given as goal

abbrev pub invariant-loop-half : goal.invariant-loop-half
invariant-loop-half l = HalfSo no_place l.word l.k l.rest l.left l.bit (6 - l.half-index)
