-- `fetch` hands back the body that the entry names. Assumes nothing.
use mathlib.Core.Path.{sym}
use Rattle.std.proofs.lemmas.Result.{err_from_is_err_and}
use Rattle.table.proofs.ColumnLaws.{fetch-body, fetch-refused}
use Rattle.table.proofs.fetch.Goals as goal

pub returns-in_err-entry : goal.returns-in_err-entry
returns-in_err-entry c =
    let p = err_from_is_err_and c.from_residual.result c.from_residual.ensures.1 in
    rw (p.1, p.2) (sym (fetch-refused c.args.sheet.now c.args.column _ c.in_err-entry.ensures))

pub returns : goal.returns
returns c = sym (fetch-body c.in_ok-entry.ensures c.body_of.ensures)
