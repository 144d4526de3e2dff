-- `sound` asks in the document's order: 1; 2; the plans in turn. Assumes nothing.
use mathlib.Core.Path.{sym, ◌∙◌}
use Rattle.table.proofs.Sounds.{holds, refused-sheet, refused-table, by-plans}
use Rattle.table.proofs.sound.Goals as goal

pub returns-then-not-is_sheet : goal.returns-then-not-is_sheet
returns-then-not-is_sheet c = rw c.into.ensures (sym (refused-sheet c.args.sheet.now (sym c.if-not-is_sheet.ensures)))

pub table_holds-requires : goal.table_holds-requires
table_holds-requires c = sym c.if-not-is_sheet.ensures

pub returns-then-not-table_holds : goal.returns-then-not-table_holds
returns-then-not-table_holds c =
    rw c.into-then-not-table_holds.ensures
    (sym (refused-table c.args.sheet.now (sym c.if-not-is_sheet.ensures) (sym c.if-not-table_holds.ensures)))

pub plans_pass-requires : goal.plans_pass-requires
plans_pass-requires c = (holds c.args.sheet.now (sym c.if-not-table_holds.ensures)).whole

pub returns : goal.returns
returns c =
    c.plans_pass.ensures
    ∙ sym (by-plans c.args.sheet.now (sym c.if-not-is_sheet.ensures) (sym c.if-not-table_holds.ensures))
