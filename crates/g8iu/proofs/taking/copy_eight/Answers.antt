-- `copy_eight` stores one element after another (`Eights`). Assumes nothing.
use mathlib.Core.Path.{refl}
use Rattle.g8iu.proofs.Eights.{eight-turn, eight-end}
use Rattle.g8iu.proofs.taking.copy_eight.Goals as goal

pub loop-i-preserved : goal.loop-i-preserved
loop-i-preserved c = eight-turn c.loop-i.invariant c.loop-i-test.true refl

pub returns : goal.returns
returns c = eight-end c.loop-i.invariant c.loop-i-test.false
