-- `unit` meets its contract. Assumes nothing.
use mathlib.Core.Path.{refl, sym}
use native.Mathlib.Omega.{arith}
use Rattle.std.proofs.lemmas.Result.{err_from_is_err_and}
use Rattle.meaning.proofs.UnitAnswers.{is-read, is-refused}
use Rattle.elias.proofs.Forms.{found, unit-given, unit-refused}
use Rattle.elias.proofs.unit.Goals as goal

pub overflow_sub-numbers : goal.overflow_sub-numbers
overflow_sub-numbers c = (found c.args.form c.args.body.now c.args.at.bit.index c.requires (sym c.in_ok-word.ensures)).some

pub overflow_cast-numbers : goal.overflow_cast-numbers
overflow_cast-numbers c = let there = found c.args.form c.args.body.now c.args.at.bit.index c.requires (sym c.in_ok-word.ensures) in omega arith

pub overflow_add-index : goal.overflow_add-index
overflow_add-index c = let there = found c.args.form c.args.body.now c.args.at.bit.index c.requires (sym c.in_ok-word.ensures) in omega arith

pub returns-in_err-word : goal.returns-in_err-word
returns-in_err-word c =
    let a = c.args in
    let p = err_from_is_err_and c.from_residual.result c.from_residual.ensures.1 in
    rw (p.1, p.2) (is-refused (unit-refused a.form a.body.now a.left a.at (sym c.in_err-word.ensures)))

pub returns : goal.returns
returns c =
    let a = c.args in
    is-read (rw c.from-next.ensures (unit-given a.form a.body.now a.left a.at (sym c.in_ok-word.ensures))) (omega arith) refl
