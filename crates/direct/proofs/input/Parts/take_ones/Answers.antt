-- `take_ones` meets its contract: each turn takes eight numbers of one byte (`Ones`). Assumes nothing.
use native.Mathlib.Omega.{arith}
use Rattle.direct.proofs.Fits.{data-few}
use Rattle.direct.proofs.Ones.{ones-start, ones-byte, ones-far, ones-room, ones-inside, ones-turn, ones_none}
use Rattle.direct.proofs.input.Parts.take_ones.Goals as goal

pub data_at-data-requires : goal.data_at-data-requires
data_at-data-requires c = omega (arith, data-few c.args.self.now.fit c.args.self.now.small)

pub returns-then-to-ne0 : goal.returns-then-to-ne0
returns-then-to-ne0 c = ones_none c.taken.ensures

pub loop-n-init : goal.loop-n-init
loop-n-init c =
    ones-start c.args.self.now.fit c.args.self.now.small c.requires c.min-most.ensures c.data_at-data.ensures
    c.saturating_sub.ensures c.min-limit.ensures c.if-to-ne0.false

pub bounds-self-to : goal.bounds-self-to
bounds-self-to c = ones-byte c.loop-n.invariant c.loop-n-test.true

pub overflow_add-byte : goal.overflow_add-byte
overflow_add-byte c = omega (arith, ones-far c.loop-n.invariant c.loop-n-test.true)

pub take_eight-requires : goal.take_eight-requires
take_eight-requires c =
    (ones-inside c.loop-n.invariant c.loop-n-test.true c.if-self-to.false, ones-room c.loop-n.invariant c.loop-n-test.true)

pub loop-n-preserved : goal.loop-n-preserved
loop-n-preserved c = ones-turn c.loop-n.invariant c.loop-n-test.true c.if-self-to.false c.take_eight.ensures
