-- What is still to be put, put from here on, makes the whole word. Assumes nothing.
use lib.ListN.{length, drop}
use Rattle.texts.proofs.Putting.{Turning}
use Rattle.texts.proofs.pieces.Page.word.Given as goal

abbrev pub invariant-loop-b : goal.invariant-loop-b
invariant-loop-b l = Turning (length l.word) 1 l.word l.initial.self (drop l.b-index l.word) l.self l.b-index
