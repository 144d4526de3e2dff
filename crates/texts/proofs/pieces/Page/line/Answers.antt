-- A line of a word and a number, word by word. Assumes nothing.
use native.Mathlib.Omega.{arith}
use Rattle.texts.proofs.Lines.{line_first, line-next, line-last}
use Rattle.texts.proofs.pieces.Page.line.Goals as goal

pub returns : goal.returns
returns c =
    let rest = line-next c.number.ensures.wrote (line-last c.end.ensures.wrote) in
    record { wrote = line_first c.word.ensures.wrote rest; short = omega arith; same = omega arith }
