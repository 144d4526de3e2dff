-- What is still to be put, put from here on, makes the whole; a turn puts one number. Assumes nothing.
use Rattle.std.proofs.Common.{get_or, arith}
use Rattle.leaves.proofs.Putting.{left-start, left-long, left-turn, left_end}
use Rattle.words.proofs.DataBytes.{data-most, data-rest, data-past}
use Rattle.words.proofs.Puts.{put-few}
use Rattle.words.proofs.put_data.Goals as goal

pub loop-x-init : goal.loop-x-init
loop-x-init c = left-start _ _ _

pub put_fewest-to-requires : goal.put_fewest-to-requires
put_fewest-to-requires c = omega (arith, c.loop-x.invariant.ends, data-most c.args.list.now)

pub loop-x-preserved : goal.loop-x-preserved
loop-x-preserved c =
    let l = c.loop-x in
    let s = c.args.list.now in
    left-turn l.invariant (data-rest s l.x-index c.loop-x-test.true) (put-few (get_or s l.x-index 0) c.put_fewest-to.ensures)

pub shape_of-out : goal.shape_of-out
shape_of-out c = left-long c.loop-x.invariant

pub returns : goal.returns
returns c = left_end c.loop-x.invariant (data-past c.args.list.now c.loop-x.x-index c.loop-x-test.false)
