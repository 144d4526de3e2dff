-- The columns that are still to be put, put from here on, make the whole; a turn puts one. Assumes only the laws of the codes.
use Rattle.texts.proofs.Sheets.{Listing}
use Rattle.texts.proofs.put_columns.Given as goal

abbrev pub invariant-loop-k : goal.invariant-loop-k
invariant-loop-k l = Listing l.sheet l.initial.work l.initial.list l.columns l.initial.page l.work l.list l.page l.k
