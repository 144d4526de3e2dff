-- `vbyte::take` meets its contract: numbers of one byte, and then each turn takes one number. Assumes nothing.
use mathlib.Core.Path.{◌≡◌, refl}
use native.Mathlib.Omega.{arith}
use Rattle.vbyte.proofs.Takes.{onward-turn, onward-end}
use Rattle.vbyte.proofs.take.Goals as goal

pub returns-in_default : goal.returns-in_default
returns-in_default c = onward-end c.loop-i.invariant c.take_ones-ones.ensures refl (omega arith) c.from.ensures c.taken.ensures

pub loop-i-preserved : goal.loop-i-preserved
loop-i-preserved c = onward-turn c.loop-i.invariant c.loop-i-test.true _ c.number_at.ensures c.in-Ok.is

pub returns : goal.returns
returns c =
    let l = c.loop-i in
    let all : l.i ≡ c.min-most.result = omega arith in
    onward-end l.invariant c.take_ones-ones.ensures refl (omega arith) c.from-2.ensures (rw (← all) at c.taken-2.ensures)
