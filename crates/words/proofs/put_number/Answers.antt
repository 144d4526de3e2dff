-- What is still to be put, put from here on, makes the whole; a turn puts one byte. Assumes nothing.
use mathlib.Core.Path.{refl}
use Rattle.words.proofs.Puts.{number-start, number-long, number-turn, number-end}
use Rattle.words.proofs.put_number.Goals as goal

pub loop-i-init : goal.loop-i-init
loop-i-init c =
    let a = c.args in
    number-start a.x a.bytes a.at.byte a.out.now

pub loop-i-preserved : goal.loop-i-preserved
loop-i-preserved c = number-turn c.loop-i.invariant c.loop-i-test.true refl c.put.ensures

pub shape_of-out : goal.shape_of-out
shape_of-out c = number-long c.loop-i.invariant

pub returns : goal.returns
returns c = number-end c.loop-i.invariant c.loop-i-test.false
