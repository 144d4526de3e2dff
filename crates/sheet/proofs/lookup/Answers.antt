-- `lookup` hands the plan's and the body's parts of the column on. Assumes nothing.
use mathlib.Core.Path.{sym, ◌∙◌}
use Rattle.meaning.specs.Stages.{look}
use Rattle.std.proofs.lemmas.Result.{err_from_is_err_and}
use Rattle.sheet.proofs.Entered.{of-column, body-short, count-few, sheet-short, opened-here, opened-column}
use Rattle.sheet.proofs.LookSheets.{look_none, look-past, look-there}
use Rattle.sheet.proofs.lookup.Goals as goal

pub returns-then-found-place : goal.returns-then-found-place
returns-then-found-place c =
    let opened = c.in_ok-found.ensures in
    let a = c.args in
    sym (look-past a.sheet.now a.column a.place.number _ (opened-column opened) c.if-found-place.true)

pub plan_of-requires : goal.plan_of-requires
plan_of-requires c = c.in_ok-found.ensures.entry.plan_fits

pub body_of-requires : goal.body_of-requires
body_of-requires c = c.in_ok-found.ensures.entry.body_fits

pub lookup_list-requires : goal.lookup_list-requires
lookup_list-requires c =
    let opened = c.in_ok-found.ensures in
    record {
      short = body-short c.args.sheet.now c.in_ok-found.found (sheet-short opened.entry (opened-here opened)) c.body_of.ensures;
      few = count-few opened.entry (opened-here opened);
      inside = c.if-found-place.false;
    }

pub returns-in_err-found : goal.returns-in_err-found
returns-in_err-found c =
    let a = c.args in
    let p = err_from_is_err_and c.from_residual.result c.from_residual.ensures.1 in
    rw (p.1, p.2) (sym (look_none a.sheet.now a.column a.place.number _ c.in_err-found.ensures))

pub returns : goal.returns
returns c =
    let opened = c.in_ok-found.ensures in
    let a = c.args in
    c.lookup_list.ensures
    ∙ of-column a.sheet.now c.in_ok-found.found (λ p b n. look p b n a.place.number) c.plan_of.ensures c.body_of.ensures
    ∙ sym (look-there a.sheet.now a.column a.place.number _ (opened-column opened) c.if-found-place.false)
