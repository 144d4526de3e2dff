-- `check` asks in the document's order: the table, the work, the bodies in turn. Assumes nothing.
use mathlib.Core.Path.{sym, ◌∙◌}
use native.Mathlib.Omega.{arith}
use lib.ListN.{length}
use Rattle.std.proofs.lemmas.Result.{err_from_is_err_and}
use Rattle.sheet.proofs.Checks.{most-small, check-unsound, check-short, check-bodies}
use Rattle.sheet.proofs.check.Goals as goal

pub returns-in_err-sound : goal.returns-in_err-sound
returns-in_err-sound c =
    let a = c.args in
    let p = err_from_is_err_and c.from_residual.result c.from_residual.ensures.1 in
    rw (p.1, p.2) (sym (check-unsound a.sheet.now (length a.work.now) _ _ (sym c.in_err-sound.ensures)))

pub largest_count-most-requires : goal.largest_count-most-requires
largest_count-most-requires c = sym c.in_ok-sound.ensures

pub overflow_mul-most : goal.overflow_mul-most
overflow_mul-most c =
    let sounds = sym c.in_ok-sound.ensures in
    omega (arith, c.largest_count-most.ensures, most-small _ sounds)

pub returns-then-work-most : goal.returns-then-work-most
returns-then-work-most c =
    let sounds = sym c.in_ok-sound.ensures in
    let a = c.args in
    rw c.into.ensures (sym (check-short a.sheet.now (length a.work.now) sounds (omega (arith, c.if-work-most.true, c.largest_count-most.ensures))))

pub check_columns-requires : goal.check_columns-requires
check_columns-requires c =
    let sounds = sym c.in_ok-sound.ensures in
    record { sounds = sounds; room = omega (arith, c.if-work-most.false, c.largest_count-most.ensures) }

pub returns : goal.returns
returns c =
    let sounds = sym c.in_ok-sound.ensures in
    let a = c.args in
    c.check_columns.ensures
    ∙ sym (check-bodies a.sheet.now (length a.work.now) sounds (omega (arith, c.if-work-most.false, c.largest_count-most.ensures)))
