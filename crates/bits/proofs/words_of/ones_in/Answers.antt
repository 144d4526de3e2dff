-- The words are counted one by one (`CountSo`). Assumes nothing.
use native.Mathlib.Omega.{arith}
use Rattle.bits.proofs.Counts.{count-start, count-few, word-few, count_turn}
use Rattle.bits.proofs.words_of.ones_in.Goals as goal

pub loop-i-init : goal.loop-i-init
loop-i-init c = count-start (λ i. (c.type_inv.bytes i).fits) c.requires

pub overflow_add-ones : goal.overflow_add-ones
overflow_add-ones c =
    let so = c.loop-i.invariant in
    omega (arith, count-few so, so.short, so.most, word-few so c.loop-i-test.true c.word_near-word.ensures)

pub loop-i-preserved : goal.loop-i-preserved
loop-i-preserved c = count_turn c.loop-i.invariant c.loop-i-test.true c.word_near-word.ensures
