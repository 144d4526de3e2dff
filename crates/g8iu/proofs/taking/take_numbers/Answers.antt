-- `take_numbers` takes one number after another from the data as one number (`Numbers`). Assumes nothing.
use native.Mathlib.Nat.{add-sub_cancel}
use native.Mathlib.Omega.{arith}
use Rattle.g8iu.proofs.Numbers.{numbers-start, numbers-index, numbers-less}
use Rattle.g8iu.proofs.Numbers.{numbers-fault, numbers-few, numbers-turn, numbers-waste, numbers-end}
use Rattle.g8iu.proofs.taking.take_numbers.Goals as goal

pub loop-coming-init : goal.loop-coming-init
loop-coming-init c = rw add-sub_cancel (numbers-start c.requires (λ i. (c.type_inv.body i).fits) c.eight_at-rest.ensures)

pub bounds-sizes-f : goal.bounds-sizes-f
bounds-sizes-f c = numbers-index c.loop-coming.invariant c.loop-coming-test.true

pub bounds-sizes-f-in-loop-coming : goal.bounds-sizes-f-in-loop-coming
bounds-sizes-f-in-loop-coming c = numbers-index c.loop-coming.invariant c.loop-coming-test.true

pub returns-then-x-sizes : goal.returns-then-x-sizes
returns-then-x-sizes c = rw add-sub_cancel at (numbers-fault c.loop-coming.invariant c.loop-coming-test.true c.if-x-sizes.true)

pub overflow_shr-rest : goal.overflow_shr-rest
overflow_shr-rest c = omega (arith, numbers-few c.loop-coming.invariant c.loop-coming-test.true c.if-x-sizes.false)

pub overflow_shr-coming : goal.overflow_shr-coming
overflow_shr-coming c = omega (arith, numbers-few c.loop-coming.invariant c.loop-coming-test.true c.if-x-sizes.false)

pub loop-coming-smaller : goal.loop-coming-smaller
loop-coming-smaller c = numbers-less c.loop-coming.invariant c.loop-coming-test.true

pub loop-coming-preserved : goal.loop-coming-preserved
loop-coming-preserved c = numbers-turn c.loop-coming.invariant c.loop-coming-test.true c.if-x-sizes.false

pub returns-then-rest-ne0 : goal.returns-then-rest-ne0
returns-then-rest-ne0 c = rw add-sub_cancel at (numbers-waste c.loop-coming.invariant c.loop-coming-test.false c.if-rest-ne0.true)

pub returns : goal.returns
returns c = rw add-sub_cancel at (numbers-end c.loop-coming.invariant c.loop-coming-test.false (omega (arith, c.if-rest-ne0.false)))
