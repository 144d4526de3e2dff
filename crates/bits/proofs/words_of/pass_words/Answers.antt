-- The words are counted one by one, and those that end before the k-th one are passed (`PassSo`). Assumes nothing.
use native.Mathlib.Omega.{arith}
use Rattle.bits.proofs.Counts.{pass-start, pass-turn, pass-stay, count-few, word-few}
use Rattle.bits.proofs.words_of.pass_words.Goals.{then-through-k, else-through-k}
use Rattle.bits.proofs.words_of.pass_words.Goals as goal

pub loop-i-init : goal.loop-i-init
loop-i-init c = pass-start (λ i. (c.type_inv.bytes i).fits) c.requires

pub overflow_add-through : goal.overflow_add-through
overflow_add-through c =
    let so = c.loop-i.invariant.count in
    omega (arith, count-few so, so.short, so.most, word-few so c.loop-i-test.true c.word_near-word.ensures)

pub loop-i-preserved : goal.loop-i-preserved
loop-i-preserved c =
    elim c.if-through-k.branch [
      | then-through-k w ↦ rw w.passed-is (pass-turn c.loop-i.invariant c.loop-i-test.true c.word_near-word.ensures (omega (arith, w.if-through-k.true)))
      | else-through-k w ↦ rw w.passed-is (pass-stay c.loop-i.invariant c.loop-i-test.true c.word_near-word.ensures w.if-through-k.false)
    ]
