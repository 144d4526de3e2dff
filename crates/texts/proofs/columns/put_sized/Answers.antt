-- The words one after the other, and the line feed. Assumes nothing.
use native.Mathlib.Omega.{arith}
use Rattle.meaning.specs.Texts.{text}
use Rattle.texts.specs.Listing.{sized}
use Rattle.texts.proofs.Lines.{line-next, line-last}
use Rattle.texts.proofs.columns.put_sized.Goals as goal

pub returns : goal.returns
unfolding sized text
returns c =
    let size = line-next c.next-2.ensures.wrote (line-next c.number-2.ensures.wrote (line-last c.end.ensures.wrote)) in
    let all = line-next c.next.ensures.wrote (line-next c.number.ensures.wrote size) in
    record { wrote = all.put; short = omega arith; same = omega arith }
