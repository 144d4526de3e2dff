-- `tally_in` has counted the endings below i. Assumes nothing.
use native.Mathlib.Omega.{arith}
use Rattle.sheet.proofs.Endings.{tally-first, tally-turn, tally-over, tally-end}
use Rattle.sheet.proofs.boards.tally_in.Goals as goal

pub loop-ending-init : goal.loop-ending-init
loop-ending-init c = tally-first

pub returns-then-ending-gt-NEVER_ENDED : goal.returns-then-ending-gt-NEVER_ENDED
returns-then-ending-gt-NEVER_ENDED c = rw c.into.ensures (tally-over c.loop-ending.invariant c.loop-ending-test.true c.if-ending-gt-NEVER_ENDED.true)

pub with_ending-tally-requires : goal.with_ending-tally-requires
with_ending-tally-requires c =
    record { most = omega (arith, c.if-ending-gt-NEVER_ENDED.false); room = omega (arith, c.loop-ending.invariant.many) }

pub loop-ending-preserved : goal.loop-ending-preserved
loop-ending-preserved c = tally-turn c.loop-ending.invariant c.loop-ending-test.true c.if-ending-gt-NEVER_ENDED.false c.with_ending-tally.ensures

pub returns : goal.returns
returns c = tally-end c.loop-ending.invariant c.loop-ending-test.false
