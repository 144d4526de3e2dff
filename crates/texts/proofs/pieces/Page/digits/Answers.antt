-- The library's digits are the defined ones. Assumes nothing.
use mathlib.Core.Path.{◌∙◌}
use native.Mathlib.Omega.{arith}
use Rattle.texts.proofs.Digits.{digits-decimal, digits-few}
use Rattle.texts.proofs.Putting.{widened}
use Rattle.texts.proofs.pieces.Page.digits.Goals as goal

pub returns : goal.returns
returns c =
    let is = c.as_bytes.ensures.value ∙ c.format.ensures.text ∙ digits-decimal c.args.x (omega arith) in
    widened (rw is at c.word.ensures) (digits-few 20 c.args.x (omega arith) (omega arith))
