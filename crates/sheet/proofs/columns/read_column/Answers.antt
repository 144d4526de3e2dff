-- `read_column` lends the plan's and the body's parts, and asks the list whether it is of its kind. Assumes nothing.
use mathlib.Core.Path.{sym, ◌∙◌}
use Rattle.std.proofs.lemmas.Result.{err_from_is_err_and}
use Rattle.sheet.proofs.Entered.{body-short}
use Rattle.sheet.proofs.ReadColumns.{column-stop, column-kept, column-other}
use Rattle.sheet.proofs.columns.read_column.Goals as goal

pub plan_of-plan-requires : goal.plan_of-plan-requires
plan_of-plan-requires c = c.requires.plan_fits

pub body_of-body-requires : goal.body_of-body-requires
body_of-body-requires c = c.requires.body_fits

pub read_list-requires : goal.read_list-requires
read_list-requires c =
    let a = c.args in
    (body-short a.sheet.now a.entry c.requires.short c.body_of-body.ensures, c.requires.few, c.requires.room)

pub returns-then-of_kind : goal.returns-then-of_kind
returns-then-of_kind c =
    let a = c.args in
    column-kept a.sheet.now a.entry c.plan_of-plan.ensures c.body_of-body.ensures c.read_list.ensures c.in_ok-n.was c.edition_of.ensures
    (sym c.if-of_kind.true ∙ c.of_kind.ensures)

pub returns-in_err-n : goal.returns-in_err-n
returns-in_err-n c =
    let a = c.args in
    let p = err_from_is_err_and c.from_residual.result c.from_residual.ensures.1 in
    rw (p.1, p.2) (column-stop a.sheet.now a.entry c.plan_of-plan.ensures c.body_of-body.ensures c.read_list.ensures c.in_err-n.was)

pub returns : goal.returns
returns c =
    let a = c.args in
    column-other a.sheet.now a.entry c.plan_of-plan.ensures c.body_of-body.ensures c.read_list.ensures c.in_ok-n.was c.edition_of.ensures
    (sym c.if-of_kind.false ∙ c.of_kind.ensures)
