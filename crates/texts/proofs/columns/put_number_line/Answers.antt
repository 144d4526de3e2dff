-- A line of two numbers: a place has at most 4 digits, and a number at most 10. Assumes nothing.
use native.Mathlib.Omega.{arith}
use Rattle.meaning.specs.Texts.{number_line}
use Rattle.texts.proofs.Digits.{digits-few}
use Rattle.texts.proofs.Lines.{line_first, line-next, line-last}
use Rattle.texts.proofs.columns.put_number_line.Goals as goal

pub returns : goal.returns
unfolding number_line
returns c =
    let a = c.args in
    let rest = line-next c.number.ensures.wrote (line-last c.end.ensures.wrote) in
    let few = digits-few 4 a.place (omega arith) (omega (arith, c.requires)) in
    let few₂ = digits-few 10 a.x (omega arith) (omega arith) in
    record { wrote = line_first c.digits.ensures.wrote rest; short = omega arith; same = omega arith }
