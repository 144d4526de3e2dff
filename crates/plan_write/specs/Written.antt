-- What writing by a plan asks and leaves.
use Rattle.std.specs.Prelude.{ℕ, ◌+◌, ◌^◌, ◌≤◌, ◌<◌, ◌≡◌, List, length, take}
use Rattle.std.proofs.lemmas.List.Edits.{sets}
use Rattle.meaning.specs.Limits.{most_numbers}
use Rattle.meaning.specs.Plan.{Plan}
use Rattle.meaning.specs.Stages.{write}
use Rattle.meaning.specs.declared.Offset.{Offset}
use Rattle.stages.specs.Room.{room, cap}

-- there is room in work for the list and its scratch, no offset passes the largest number, and a body's length fits 4 bytes
pub record Fit (stages n from at len : ℕ) : Type 0 where
  pub within : from + room stages n ≤ len
  pub below : at + cap stages n < 2 ^ 63
  pub small : cap stages n < 2 ^ 32
  pub few : n ≤ most_numbers

-- the same for a run stage's list, whose inner plans have so many stages left
pub record FitRuns (stages n from at len : ℕ) : Type 0 where
  pub within : from + (n + n + room stages n) ≤ len
  pub below : at + (8 + (cap stages n + cap stages n)) < 2 ^ 63
  pub small : 8 + (cap stages n + cap stages n) < 2 ^ 32
  pub few : n ≤ most_numbers

-- the plan's bytes of the list stand in the output from an offset on, as far as they lie within it, and r is where they end; work is kept up to a place
pub record Written (p : Plan) (xs : List ℕ) (keep at : ℕ) (w w' o o' : List ℕ) (r : Offset) : Type 0 where
  pub ends : r.byte ≡ at + length (write p xs)
  pub bytes : o' ≡ sets o at (write p xs)
  pub kept : take keep w' ≡ take keep w
