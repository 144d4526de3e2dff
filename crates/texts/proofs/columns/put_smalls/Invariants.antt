-- The words that are still to be put, put from here on, make the whole; a turn puts one. Assumes nothing.
use mathlib.Core.List.{map}
use lib.ListN.{length, drop}
use Rattle.meaning.specs.Texts.{digits}
use Rattle.texts.specs.Listing.{words}
use Rattle.texts.proofs.Putting.{Turning}
use Rattle.texts.proofs.columns.put_smalls.Given as goal

abbrev pub invariant-loop-b : goal.invariant-loop-b
invariant-loop-b l =
    Turning (length l.bytes) 21 (words (map digits l.bytes)) l.initial.page
    (words (map digits (drop l.b-index l.bytes))) l.page l.b-index
