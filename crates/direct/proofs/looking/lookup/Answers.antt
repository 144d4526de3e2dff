-- `lookup` meets its contract: the header first. Assumes nothing.
use mathlib.Core.Path.{◌∙◌}
use Rattle.std.proofs.lemmas.Result.{err_from_is_err_and}
use Rattle.direct.proofs.Fits.{heading-none}
use Rattle.direct.proofs.Looks.{look-unfit, look-fits}
use Rattle.direct.proofs.looking.lookup.Goals as goal

pub returns-in_err-of : goal.returns-in_err-of
returns-in_err-of c =
    let none = heading-none _ c.of.ensures.told c.in_err-of.was in
    let p = err_from_is_err_and c.from_residual.result c.from_residual.ensures.1 in
    rw (p.1, p.2, none.1) (look-unfit _ _ none.0)

pub returns : goal.returns
returns c = rw (← c.in_ok-of.ensures.same) (c.look.ensures ∙ look-fits c.in_ok-of.field-0.fit _)
