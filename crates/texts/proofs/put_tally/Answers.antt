-- The four lines one after the other. Assumes nothing.
use native.Mathlib.Omega.{arith}
use Rattle.meaning.specs.Texts.{text, board_lines}
use Rattle.leaves.proofs.Putting.{wrote_after}
use Rattle.texts.proofs.put_tally.Goals as goal

pub returns : goal.returns
unfolding board_lines text
returns c =
    let two = wrote_after c.line-3.ensures.wrote c.line-4.ensures.wrote in
    record { wrote = wrote_after c.line.ensures.wrote (wrote_after c.line-2.ensures.wrote two); short = omega arith; same = omega arith }
