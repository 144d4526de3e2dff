-- `tally_in` has counted the first endings. Assumes nothing.
use Rattle.sheet.proofs.Endings.{Tallying}
use Rattle.sheet.proofs.boards.tally_in.Given as goal

abbrev pub invariant-loop-ending : goal.invariant-loop-ending
invariant-loop-ending l = Tallying l.endings l.tally l.ending-index
