-- The words one after the other. Assumes nothing.
use native.Mathlib.Omega.{arith}
use Rattle.meaning.specs.Texts.{text}
use Rattle.texts.specs.Listing.{named}
use Rattle.texts.proofs.Lines.{word-last, word_next}
use Rattle.leaves.proofs.Putting.{wrote_after}
use Rattle.texts.proofs.columns.put_named.Goals as goal

pub returns : goal.returns
unfolding named text
returns c =
    let after = word_next c.number.ensures.wrote (word_next c.put_kind.ensures.wrote (word-last c.next.ensures.wrote)) in
    record { wrote = wrote_after c.word.ensures.wrote after.put; short = omega arith; same = omega arith }
