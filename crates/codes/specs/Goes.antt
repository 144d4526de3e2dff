-- What a stretch of units answers: numbers passed, or the refusal of the first unit.
use Rattle.std.specs.Prelude.{ℕ, ◌≤◌, ◌<◌, max, ◌≡◌, List, length, take, Result, Ok, Err}
use Rattle.std.proofs.lemmas.List.Edits.{sets}
use Rattle.meaning.specs.Answer.{refused}
use Rattle.meaning.specs.Codes.{Code}
use Rattle.meaning.specs.Limits.{unit_places}
use Rattle.meaning.specs.Places.{Spare, Took}
use Rattle.meaning.specs.Units.{Stretch}
use Rattle.meaning.specs.Says.{refusal_number}
use Rattle.meaning.specs.declared.Position.{Position}
use Rattle.meaning.specs.declared.Refusal.{Refusal}
use Rattle.meaning.specs.declared.Taken.{Taken}

-- one number at least, and no more than there is room for, or one unit's; as many as there is room for stand in work from a place on
pub record Passed (c : Code) (body : List ℕ) (left : ℕ) (p : Position) (room from : ℕ) (work work' : List ℕ) (r : Taken) : Type 0 where
  pub numbers : List ℕ
  pub last : List ℕ
  pub are : Stretch (c.unit body) c.joins left p numbers r.units last r.next
  pub counted : length numbers ≡ r.count
  pub some : 0 < r.count
  pub few : r.count ≤ max room unit_places
  pub here : work' ≡ sets work from (take room numbers)
  pub leaves : Spare c.joins last r.spare

abbrev pub Says : Code → List ℕ → ℕ → Position → ℕ → ℕ → List ℕ → List ℕ → Result Taken Refusal → Type 0
Says c body left p room from work work' (Ok r) = Passed c body left p room from work work' r
Says c body left p room from work work' (Err e) = (c.unit body left p ≡ refused (refusal_number e)) × (work' ≡ work)

-- r says what was passed from p on, or the refusal of the unit there
pub record Goes (c : Code) (body : List ℕ) (left : ℕ) (p : Position) (room from : ℕ) (work work' : List ℕ) (r : Result Taken Refusal) : Type 0 where
  pub says : Says c body left p room from work work' r

-- the same after `plain` was taken: where that is nothing, the unit is read
abbrev pub Follows : Code → List ℕ → ℕ → Position → ℕ → ℕ → Taken → List ℕ → List ℕ → Result Taken Refusal → Type 0
Follows c body left p room from plain work work' r =
    (before : List ℕ) → Took c body left p room from before work plain → Goes c body left p room from before work' r
