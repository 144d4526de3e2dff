-- `column_at` asks whether the sheet is sound, then whether the column is there. Assumes nothing.
use mathlib.Core.Path.{sym}
use native.Mathlib.Omega.{arith}
use Rattle.std.proofs.lemmas.Result.{err_from_is_err_and}
use Rattle.table.proofs.ColumnLaws.{column-unsound, column-none, column-there}
use Rattle.table.proofs.Sounds.{sound-sheet}
use Rattle.table.proofs.column_at.Goals as goal

pub returns-in_err-sound : goal.returns-in_err-sound
returns-in_err-sound c =
    let p = err_from_is_err_and c.from_residual.result c.from_residual.ensures.1 in
    rw (p.1, p.2) (column-unsound c.args.sheet.now c.args.column _ _ (sym c.in_err-sound.ensures))

pub column_count-requires : goal.column_count-requires
column_count-requires c = (sound-sheet c.args.sheet.now (sym c.in_ok-sound.ensures)).least

pub returns-then-column_count-column : goal.returns-then-column_count-column
returns-then-column_count-column c = column-none c.args.sheet.now c.args.column (sym c.in_ok-sound.ensures) (omega arith)

pub entry_at-requires : goal.entry_at-requires
entry_at-requires c = record { sounds = sym c.in_ok-sound.ensures; exists = omega arith }

pub returns : goal.returns
returns c =
    let sounds = sym c.in_ok-sound.ensures in
    record { told = column-there c.args.sheet.now c.args.column sounds (omega arith); entry = c.entry_at.ensures }
