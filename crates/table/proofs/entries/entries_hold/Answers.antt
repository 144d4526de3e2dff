-- `entries_hold` asks each entry. Assumes nothing.
use mathlib.Core.Path.{sym, ◌∙◌}
use mathlib.Core.Bool.{true, false}
use native.Mathlib.Omega.{arith}
use borrow.Author.Tests.{tests}
use Rattle.std.proofs.Common.{rules}
use Rattle.std.proofs.lemmas.Iterator.{cases_from_all, YieldsList-from_range}
use Rattle.meaning.specs.Sheet.{columns_of}
use Rattle.meaning.proofs.Every.{Place, all-places}
use Rattle.table.specs.Offsets.{blank_column}
use Rattle.table.specs.Rules.{entry_holds}
use Rattle.table.proofs.Columns.{column-count}
use Rattle.table.proofs.entries.entries_hold.Goals as goal

pub returns : goal.returns
returns c =
    let cs = columns_of c.args.sheet.now in
    all-places entry_holds cs blank_column c.column_count.result c.all.result (c.column_count.ensures.0 ∙ sym (column-count c.args.sheet.now))
    (cases_from_all _ _ _ (Place entry_holds cs blank_column true) (Place entry_holds cs blank_column false) c.all.ensures.ran
    (YieldsList-from_range 0 c.column_count.result c.column_count.result (cc) (omega arith))
    (λ x q k. search (rules, tests)) (λ x q k. search (rules, tests)))
