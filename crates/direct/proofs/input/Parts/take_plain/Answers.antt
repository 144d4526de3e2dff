-- `take_plain` meets its contract: each turn takes one plain number (`Plains`). Assumes nothing.
use mathlib.Core.Path.{◌≡◌}
use native.Mathlib.Omega.{arith}
use Rattle.direct.proofs.Fits.{data-few}
use Rattle.direct.proofs.Nexts.{onward-begun}
use Rattle.direct.proofs.Plains.{plain-far, plain_word, plain_turn}
use Rattle.direct.proofs.input.Parts.take_plain.Goals as goal

pub data_at-data-requires : goal.data_at-data-requires
data_at-data-requires c = omega (arith, data-few c.args.self.now.fit c.args.self.now.small)

pub returns-then-end-to : goal.returns-then-end-to
returns-then-end-to c =
    onward-begun c.loop-i.invariant.onward c.min-most.ensures c.take_ones-ones.ensures c.from.ensures c.taken.ensures

pub returns-then-zeros-gt3 : goal.returns-then-zeros-gt3
returns-then-zeros-gt3 c =
    onward-begun c.loop-i.invariant.onward c.min-most.ensures c.take_ones-ones.ensures c.from-then-zeros-gt3.ensures c.taken-then-zeros-gt3.ensures

pub overflow_add-data : goal.overflow_add-data
overflow_add-data c = omega (arith, plain-far c.loop-i.invariant c.if-end-to.false)

pub word_at-requires : goal.word_at-requires
word_at-requires c = plain_word c.loop-i.invariant c.if-end-to.false

pub returns-then-x-smallest : goal.returns-then-x-smallest
returns-then-x-smallest c =
    onward-begun c.loop-i.invariant.onward c.min-most.ensures c.take_ones-ones.ensures c.from-then-x-smallest.ensures c.taken-then-x-smallest.ensures

pub loop-i-preserved : goal.loop-i-preserved
loop-i-preserved c =
    plain_turn c.loop-i.invariant c.if-end-to.false c.if-zeros-gt3.false c.zeros_near-zeros.ensures c.word_at.ensures c.if-x-smallest.false
    c.loop-i-test.true

pub returns : goal.returns
returns c =
    let all : c.min-most.result ≡ c.loop-i.i = omega (arith, c.loop-i-test.false, c.loop-i.auto, c.take_ones-ones.ensures.took.few) in
    onward-begun c.loop-i.invariant.onward c.min-most.ensures c.take_ones-ones.ensures c.from-2.ensures (rw all at c.taken-2.ensures)
