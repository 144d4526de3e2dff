-- What the answers of this crate tell, and the test of a code's way.
use Rattle.std.specs.Prelude.{ℕ, Bool, true, false}
use Rattle.meaning.specs.Codes.{Way, by_units, directly}
use Rattle.meaning.specs.declared.Place.{Place}

-- a run is told by its number among the runs
abbrev pub run_told : Place → ℕ
run_told j = j.number

-- whether a code is looked up directly
abbrev pub is_direct : Way → Bool
is_direct by_units = false
is_direct (directly look) = true
