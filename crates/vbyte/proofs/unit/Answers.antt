-- `vbyte::unit` meets its contract: the unit is the number at its offset. Assumes nothing.
use Rattle.std.proofs.lemmas.Result.{err_from_is_err_and}
use Rattle.vbyte.proofs.Steps.{unit-given, unit-refused}
use Rattle.vbyte.proofs.unit.Goals as goal

pub returns-in_err-value : goal.returns-in_err-value
returns-in_err-value c =
    let a = c.args in
    let p = err_from_is_err_and c.from_residual.result c.from_residual.ensures.1 in
    rw (p.1, p.2) (unit-refused a.body.now a.left a.at _ c.number_at.ensures c.in_err-value.was)

pub returns : goal.returns
returns c =
    let a = c.args in
    unit-given a.body.now a.left a.at _ c.number_at.ensures c.in_ok-value.was c.from.ensures
