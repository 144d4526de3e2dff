-- The words that are still to be put, put from here on, make the whole; a turn puts one. Assumes nothing.
use mathlib.Core.List.{map}
use native.Mathlib.Omega.{arith}
use lib.ListN.{length}
use Rattle.meaning.specs.Texts.{digits}
use Rattle.texts.specs.Listing.{words}
use Rattle.texts.proofs.Listings.{smalls-next, smalls-end}
use Rattle.texts.proofs.Putting.{turns-start, turns_next, turns-end}
use Rattle.texts.proofs.columns.put_smalls.Goals as goal

pub loop-b-init : goal.loop-b-init
loop-b-init c =
    let bytes = c.args.bytes.now in
    turns-start (length bytes) 21 (words (map digits bytes)) c.args.page.now

pub number-requires : goal.number-requires
number-requires c = omega (arith, c.loop-b.invariant.short)

pub loop-b-preserved : goal.loop-b-preserved
loop-b-preserved c =
    let l = c.loop-b in
    let more = c.loop-b-test.true in
    turns_next l.invariant more (smalls-next c.args.bytes.now l.b-index more) c.number.ensures

pub returns : goal.returns
returns c =
    let done = c.loop-b-test.false in
    turns-end c.loop-b.invariant done (smalls-end c.args.bytes.now c.loop-b.b-index done)
