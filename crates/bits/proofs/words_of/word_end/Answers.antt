-- Each byte, from the end on, goes below those behind it (`EndSo`). Assumes nothing.
use Prim.Native.Nat.{◌-◌}
use native.Mathlib.Omega.{arith}
use Rattle.bits.proofs.Ends.{end-start, end_fits, end-turn, end-end}
use Rattle.bits.proofs.words_of.word_end.Goals as goal

pub loop-i-init : goal.loop-i-init
loop-i-init c = end-start c.args.bytes.now c.args.at.byte c.requires

pub overflow_mul-x : goal.overflow_mul-x
overflow_mul-x c = omega (arith, end_fits c.loop-i.invariant c.loop-i-test.true)

pub overflow_add-x : goal.overflow_add-x
overflow_add-x c = omega (arith, end_fits c.loop-i.invariant c.loop-i-test.true, c.type_inv.bytes (c.loop-i.i - 1))

pub loop-i-preserved : goal.loop-i-preserved
loop-i-preserved c = end-turn c.loop-i.invariant c.loop-i-test.true (omega arith) c.from.ensures

pub returns : goal.returns
returns c = end-end c.loop-i.invariant c.loop-i-test.false
