-- The bits that hold the one are halved until one is left (`HalfSo`). Assumes nothing.
use native.Mathlib.Omega.{arith}
use Rattle.bits.proofs.Halves.{halved, half-lower, half-upper, half-end}
use Rattle.bits.proofs.words_of.bit_in.Goals.{then-ones-left, else-ones-left}
use Rattle.bits.proofs.words_of.bit_in.Goals as goal

pub loop-half-preserved : goal.loop-half-preserved
loop-half-preserved c =
    let so = halved c.loop-half.invariant c.loop-half-test.true in
    elim c.if-ones-left.branch [
      | then-ones-left w ↦ rw (w.rest-is, w.left-is, w.bit-is) (half-upper so (omega (arith, w.if-ones-left.true)))
      | else-ones-left w ↦ rw (w.rest-is, w.left-is, w.bit-is) (half-lower so w.if-ones-left.false)
    ]

pub returns : goal.returns
returns c = half-end c.loop-half.invariant (omega (arith, c.loop-half-test.false))
