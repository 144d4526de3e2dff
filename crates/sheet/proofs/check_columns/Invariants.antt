-- `check_columns` has read the columns below one. Assumes nothing.
use Rattle.sheet.proofs.Checks.{Checking}
use Rattle.sheet.proofs.check_columns.Given as goal

abbrev pub invariant-loop-column : goal.invariant-loop-column
invariant-loop-column l = Checking l.sheet l.initial.work l.column-end l.work l.column
