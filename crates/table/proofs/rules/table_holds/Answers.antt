-- `table_holds` asks in the definition's order. Assumes nothing.
use mathlib.Core.Path.{◌∙◌}
use native.Mathlib.Omega.{arith}
use borrow.Author.Rules.{rules}
use Rattle.meaning.specs.Sheet.{edition_of}
use Rattle.table.proofs.Slots.{slot_small}
use Rattle.table.proofs.Sounds.{is-sheet}
use Rattle.table.proofs.RuleLaws.{table-short, table-whole, table-broken, table_filled}
use Rattle.table.proofs.rules.table_holds.Goals as goal

pub column_count-columns-requires : goal.column_count-columns-requires
column_count-columns-requires c = (is-sheet c.args.sheet.now c.requires).least

pub slot_of-requires : goal.slot_of-requires
slot_of-requires c =
    let least = (is-sheet c.args.sheet.now c.requires).least in
    omega (arith, slot_small (edition_of c.args.sheet.now) c.column_count-columns.result)

pub returns-then-sheet-slot_of : goal.returns-then-sheet-slot_of
returns-then-sheet-slot_of c = table-short c.args.sheet.now c.column_count-columns.ensures.0 c.slot_of.ensures c.if-sheet-slot_of.true

pub entries_hold-requires : goal.entries_hold-requires
entries_hold-requires c = table-whole c.args.sheet.now c.column_count-columns.ensures.0 c.slot_of.ensures c.if-sheet-slot_of.false

pub returns-else-entries_hold : goal.returns-else-entries_hold
returns-else-entries_hold c =
    c.if-entries_hold.false
    ∙ table-broken c.args.sheet.now c.column_count-columns.ensures.0 c.slot_of.ensures c.if-sheet-slot_of.false c.entries_hold.ensures c.if-entries_hold.false

pub body_start-requires : goal.body_start-requires
body_start-requires c = (table-whole c.args.sheet.now c.column_count-columns.ensures.0 c.slot_of.ensures c.if-sheet-slot_of.false, search rules)

pub returns-then-entries_hold : goal.returns-then-entries_hold
returns-then-entries_hold c =
    table_filled c.args.sheet.now c.column_count-columns.ensures.0 c.slot_of.ensures c.if-sheet-slot_of.false
    c.entries_hold.ensures c.if-entries_hold.true c.body_start.ensures
