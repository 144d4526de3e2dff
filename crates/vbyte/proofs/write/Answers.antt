-- What is still to be written, written from here on, makes the whole; a turn writes one number. Assumes nothing.
use Rattle.std.proofs.Common.{arith}
use Rattle.meaning.specs.VByte.{vbyte}
use Rattle.leaves.proofs.Joined.{joined-rest, joined-past}
use Rattle.leaves.proofs.Putting.{left-turn, left_end}
use Rattle.vbyte.proofs.Laws.{most}
use Rattle.vbyte.proofs.write.Goals as goal

pub put_number-to-requires : goal.put_number-to-requires
put_number-to-requires c = omega (arith, c.loop-x.invariant.ends, most c.args.list.now, c.requires.short)

pub loop-x-preserved : goal.loop-x-preserved
loop-x-preserved c =
    let l = c.loop-x in
    left-turn l.invariant (joined-rest vbyte c.args.list.now 0 l.x-index c.loop-x-test.true) c.put_number-to.ensures

pub returns : goal.returns
returns c = left_end c.loop-x.invariant (joined-past vbyte c.args.list.now c.loop-x.x-index c.loop-x-test.false)
