-- The lengths of the numbers so far. Assumes nothing.
use Rattle.std.proofs.Common.{get_or, arith, sym}
use Rattle.words.proofs.DataBytes.{held, data-next, data-empty}
use Rattle.words.proofs.data_length.Goals as goal

pub loop-x-init : goal.loop-x-init
loop-x-init c = (sym data-empty, omega arith)

pub overflow_add-size : goal.overflow_add-size
overflow_add-size c = let h = held (get_or c.args.list.now c.loop-x.x-index 0) in omega (arith, c.byte_length-size.ensures)

pub loop-x-preserved : goal.loop-x-preserved
loop-x-preserved c =
    let l = c.loop-x in
    let h = held (get_or c.args.list.now l.x-index 0) in
    let n = data-next c.args.list.now l.x-index c.loop-x-test.true in
    let e = c.byte_length-size.ensures in
    (omega (arith, l.invariant.0), omega arith)
