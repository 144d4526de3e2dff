-- `unit` tests the offset and the control byte, then takes the block there into the array (`Standing`). Assumes nothing.
use native.Mathlib.Omega.{arith}
use Rattle.std.specs.Prelude.{◌≡◌, None}
use Rattle.std.proofs.Common.{sym, leb-true}
use Rattle.std.proofs.lemmas.Result.{err_from_is_err_and}
use Rattle.meaning.specs.declared.Refusal.TheVariants.{Broken}
use Rattle.meaning.proofs.UnitAnswers.{is-refused}
use Rattle.g8iu.proofs.Standing.{standing, unit-short, unit-barred, unit-asks, unit-fault, unit-next}
use Rattle.g8iu.proofs.unit.Goals as goal

pub returns-then-not-has_block : goal.returns-then-not-has_block
returns-then-not-has_block c = is-refused (unit-short _ _ _ (sym c.if-not-has_block.ensures))

pub returns-then-not-is_allowed : goal.returns-then-not-is_allowed
returns-then-not-is_allowed c =
    let inside = leb-true _ _ (sym c.if-not-has_block.ensures) in
    is-refused (unit-barred _ _ _ inside (sym c.if-not-is_allowed.ensures))

pub take_ends-requires : goal.take_ends-requires
take_ends-requires c =
    let so = standing c.args.at c.if-not-has_block.ensures (c.type_inv.body _).fits c.if-not-is_allowed.ensures in
    unit-asks so (rw c.from-ends.ensures)

pub returns-in_err-end : goal.returns-in_err-end
returns-in_err-end c =
    let is : c.take_ends.result ≡ None = grind arith in
    let err : c.in_err-end.field-0.0 ≡ Broken = grind arith in
    let so = standing c.args.at c.if-not-has_block.ensures (c.type_inv.body _).fits c.if-not-is_allowed.ensures in
    let p = err_from_is_err_and c.from_residual.result c.from_residual.ensures.1 in
    rw (p.1, p.2, err) (is-refused (unit-fault so c.take_ends.ensures is))

pub returns : goal.returns
returns c =
    let so = standing c.args.at c.if-not-has_block.ensures (c.type_inv.body _).fits c.if-not-is_allowed.ensures in
    unit-next so c.take_ends.ensures (grind arith) c.from.ensures
