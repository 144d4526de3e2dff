-- The lines that are still to be put, put from here on, make the whole; a turn puts one. Assumes nothing.
use native.Mathlib.Omega.{arith}
use lib.ListN.{length}
use Rattle.meaning.specs.Texts.{counting, number_line}
use Rattle.texts.proofs.Listings.{counting-next, counting-end}
use Rattle.texts.proofs.Putting.{turns-start, turns_next, turns-end}
use Rattle.texts.proofs.columns.put_numbers.Goals as goal

pub loop-i-init : goal.loop-i-init
loop-i-init c =
    let list = c.args.list.now in
    turns-start (length list) 16 (counting number_line 0 list) c.args.page.now

pub put_number_line-requires : goal.put_number_line-requires
put_number_line-requires c = (omega arith, omega (arith, c.loop-i.invariant.short))

pub loop-i-preserved : goal.loop-i-preserved
loop-i-preserved c =
    let l = c.loop-i in
    let more = c.loop-i-test.true in
    turns_next l.invariant more (counting-next number_line c.args.list.now l.i 0 more) c.put_number_line.ensures

pub returns : goal.returns
returns c =
    let done = c.loop-i-test.false in
    turns-end c.loop-i.invariant done (counting-end number_line c.args.list.now c.loop-i.i done)
