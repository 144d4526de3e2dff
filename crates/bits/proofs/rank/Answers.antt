-- `rank` refuses in the definition's order, and counts the words before the bit's own and the bits below it. Assumes nothing.
use Prim.Native.Nat.{ℕ}
use mathlib.Core.Path.{sym, ap, ◌∙◌}
use native.Mathlib.Omega.{arith}
use Rattle.meaning.specs.Answer.{given}
use Rattle.bits.proofs.Asked.{rank-long, rank-past, rank-within}
use Rattle.bits.proofs.Ranking.{rank-counted, rank-few}
use Rattle.bits.proofs.rank.Goals as goal

pub returns-then-len-gt-MOST_BYTES : goal.returns-then-len-gt-MOST_BYTES
returns-then-len-gt-MOST_BYTES c = sym (rank-long c.args.bytes.now c.args.bit.index (omega (arith, c.if-len-gt-MOST_BYTES.true)))

pub returns-then-len-index : goal.returns-then-len-index
returns-then-len-index c = sym (rank-past c.args.bytes.now c.args.bit.index c.if-len-gt-MOST_BYTES.false c.if-len-index.true)

pub overflow_add-ones : goal.overflow_add-ones
overflow_add-ones c =
    let few = rank-few c.args.bytes.now c.args.bit.index (λ i. (c.type_inv.bytes i).fits) c.ones_in-before.ensures c.word_near-own.ensures in
    omega (arith, few, c.if-len-gt-MOST_BYTES.false, c.if-len-index.false)

pub returns : goal.returns
returns c =
    ap (λ (n : ℕ). given n) (rank-counted c.args.bytes.now c.args.bit.index (λ i. (c.type_inv.bytes i).fits) c.ones_in-before.ensures c.word_near-own.ensures)
    ∙ sym (rank-within c.args.bytes.now c.args.bit.index c.if-len-gt-MOST_BYTES.false c.if-len-index.false)
