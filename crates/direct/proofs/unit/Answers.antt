-- `unit` meets its contract: the unit is the number whose first byte is there. Assumes nothing.
use Rattle.std.proofs.lemmas.Result.{err_from_is_err_and}
use Rattle.direct.proofs.Fits.{heading-none}
use Rattle.direct.proofs.Nexts.{unit-unfit, unit-refused, unit-here}
use Rattle.direct.proofs.unit.Goals as goal

pub returns-in_err-of : goal.returns-in_err-of
returns-in_err-of c =
    let none = heading-none _ c.of.ensures.told c.in_err-of.was in
    let p = err_from_is_err_and c.from_residual.result c.from_residual.ensures.1 in
    rw (p.1, p.2) (unit-unfit _ c.args.left c.args.at none.0 none.1)

pub returns-in_err-read : goal.returns-in_err-read
returns-in_err-read c =
    let p = err_from_is_err_and c.from_residual-in_err-read.result c.from_residual-in_err-read.ensures.1 in
    rw (p.1, p.2, ← c.in_ok-of.ensures.same) (unit-refused _ c.args.left c.args.at c.in_ok-of.field-0.fit _ c.next_number.ensures c.in_err-read.was)

pub returns : goal.returns
returns c =
    rw (c.from.ensures, ← c.in_ok-of.ensures.same) (unit-here _ c.args.left c.args.at c.in_ok-of.field-0.fit _ c.next_number.ensures c.in_ok-read.was)
