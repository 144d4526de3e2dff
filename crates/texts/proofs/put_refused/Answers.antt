-- The line's words one after the other. Assumes nothing.
use native.Mathlib.Omega.{arith}
use Rattle.meaning.specs.Texts.{text, refused_or}
use Rattle.texts.proofs.Lines.{line_first, line-next, line-last}
use Rattle.texts.proofs.put_refused.Goals as goal

pub returns : goal.returns
unfolding refused_or text
returns c =
    let column = line-next c.next.ensures.wrote (line-next c.number-2.ensures.wrote (line-last c.end.ensures.wrote)) in
    rw (← c.from.ensures)
    (record { wrote = line_first c.word.ensures.wrote (line-next c.number.ensures.wrote column); short = omega arith; same = omega arith })
