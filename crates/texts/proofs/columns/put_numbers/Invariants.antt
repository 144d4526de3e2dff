-- The lines that are still to be put, put from here on, make the whole; a turn puts one. Assumes nothing.
use lib.ListN.{length, drop}
use Rattle.meaning.specs.Texts.{counting, number_line}
use Rattle.texts.proofs.Putting.{Turning}
use Rattle.texts.proofs.columns.put_numbers.Given as goal

abbrev pub invariant-loop-i : goal.invariant-loop-i
invariant-loop-i l =
    Turning (length l.list) 16 (counting number_line 0 l.list) l.initial.page (counting number_line l.i (drop l.i l.list)) l.page l.i
