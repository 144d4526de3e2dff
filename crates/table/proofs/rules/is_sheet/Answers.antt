-- `is_sheet` asks in the definition's order. Assumes nothing.
use mathlib.Core.Path.{◌∙◌}
use Rattle.table.proofs.RuleLaws.{other-size, other-edition, by_count}
use Rattle.table.proofs.rules.is_sheet.Goals as goal

pub returns-then-sheet-lt2 : goal.returns-then-sheet-lt2
returns-then-sheet-lt2 c = other-size c.args.sheet.now c.then-sheet-lt2.either

pub returns-then-is_edition : goal.returns-then-is_edition
returns-then-is_edition c =
    by_count c.args.sheet.now c.if-sheet-lt2.false c.if-sheet-gt-MOST_BYTES.false c.edition_of.ensures c.is_edition.ensures
    c.if-is_edition.true c.column_count.ensures.0

pub returns-else-is_edition : goal.returns-else-is_edition
returns-else-is_edition c =
    c.if-is_edition.false
    ∙ other-edition c.args.sheet.now c.if-sheet-lt2.false c.if-sheet-gt-MOST_BYTES.false c.edition_of.ensures c.is_edition.ensures c.if-is_edition.false
