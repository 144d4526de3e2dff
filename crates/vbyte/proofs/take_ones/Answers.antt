-- `vbyte::take_ones` meets its contract: each turn takes four numbers of one byte. Assumes nothing.
use mathlib.Core.Path.{refl}
use native.Mathlib.Omega.{arith}
use Rattle.vbyte.proofs.Takes.{ones-more}
use Rattle.vbyte.proofs.take_ones.Goals as goal

pub returns-then-not-take_four : goal.returns-then-not-take_four
returns-then-not-take_four c = ones-more c.loop-n.invariant (omega arith) (rw c.if-not-take_four.true at c.take_four.ensures) (omega arith)

pub loop-n-preserved : goal.loop-n-preserved
loop-n-preserved c = ones-more c.loop-n.invariant (omega arith) (rw c.if-not-take_four.false at c.take_four.ensures) refl
