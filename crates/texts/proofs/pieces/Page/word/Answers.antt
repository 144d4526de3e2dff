-- What is still to be put, put from here on, makes the whole word. Assumes nothing.
use native.Mathlib.Omega.{arith}
use lib.ListN.{length, drop_of_length-le}
use Rattle.texts.proofs.Putting.{widened, turns-start, turns_next, turns-end, rest-next}
use Rattle.texts.proofs.pieces.Page.word.Goals as goal

pub loop-b-init : goal.loop-b-init
loop-b-init c = turns-start (length c.args.word.now) 1 c.args.word.now c.args.self.now

pub byte-requires : goal.byte-requires
byte-requires c = omega (arith, c.loop-b.invariant.short, c.loop-b.invariant.below, c.requires)

pub loop-b-preserved : goal.loop-b-preserved
loop-b-preserved c =
    let l = c.loop-b in
    turns_next l.invariant c.loop-b-test.true (rest-next c.args.word.now l.b-index c.loop-b-test.true) c.byte.ensures

pub returns : goal.returns
returns c =
    let done = c.loop-b-test.false in
    widened (turns-end c.loop-b.invariant done (drop_of_length-le c.args.word.now done)) (omega arith)
