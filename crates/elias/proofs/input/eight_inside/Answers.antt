-- `eight_inside` meets its contract. Assumes nothing.
use mathlib.Core.Path.{◌∙◌}
use native.Mathlib.Omega.{arith}
use Rattle.std.proofs.lemmas.Result.{MatchResult-at_ok}
use Rattle.elias.proofs.Windows.{inside}
use Rattle.elias.proofs.input.eight_inside.Goals as goal

pub returns : goal.returns
returns c =
    let a = c.args in
    let whole = MatchResult-at_ok _ _ _ c.unwrap.ensures c.try_from.ensures.1 in
    whole.same ∙ inside a.body.now a.at.byte (omega arith)
