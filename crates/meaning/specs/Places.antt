-- What contracts say of slices: bounds on their elements, and what a reading leaves in the work slice.
use Rattle.std.specs.Prelude.{ℕ, ◌+◌, ◌-◌, ◌*◌, ◌^◌, ◌<◌, ◌≤◌, ◌≡◌, Bool, List, ltb, length, get_or, take, drop, replicate, Result, Ok}
use Rattle.std.proofs.lemmas.List.Edits.{sets}
use Rattle.meaning.specs.Answer.{Answer, given, amount}
use Rattle.meaning.specs.Codes.{Code}
use Rattle.meaning.specs.DataBytes.{byte_length}
use Rattle.meaning.specs.Limits.{most_bytes, unit_places}
use Rattle.meaning.specs.Units.{Stretch}
use Rattle.meaning.specs.Says.{says, says_by, unit_told}
use Rattle.meaning.specs.declared.Offset.{Offset}
use Rattle.meaning.specs.declared.Position.{Position}
use Rattle.meaning.specs.declared.Refusal.{Refusal}
use Rattle.meaning.specs.declared.UnitRead.{UnitRead}
use Rattle.meaning.specs.declared.Taken.{Taken}

-- every element is below m; past the end `get_or` gives 0
abbrev pub Below : ℕ → List ℕ → Type 0
Below m xs = (i : ℕ) → get_or xs i 0 < m

-- n elements of a slice from a place on
abbrev pub part : List ℕ → ℕ → ℕ → List ℕ
part xs from n = take n (drop from xs)

-- r is a unit's answer: what it says is what is to be said, its numbers are in the array, and the places after them are 0
pub record UnitIs (a : Answer (Position × List ℕ)) (r : Result UnitRead Refusal) : Type 0 where
  pub told : says_by unit_told r ≡ a
  pub few : (u : UnitRead) → r ≡ Ok u → u.count ≤ unit_places
  pub clear : (u : UnitRead) → r ≡ Ok u → drop u.count u.numbers ≡ replicate (unit_places - u.count) 0

-- bytes stand in an output from an offset on, as far as they lie within it, and r is where they end
pub record Wrote (bytes : List ℕ) (at : ℕ) (out out' : List ℕ) (r : Offset) : Type 0 where
  pub ends : r.byte ≡ at + length bytes
  pub here : out' ≡ sets out at bytes

-- a list was read into work from a place on: r says how many numbers or the refusal; what stands before the place is kept
pub record Got (a : Answer (List ℕ)) (from : ℕ) (work work' : List ℕ) (r : Result ℕ Refusal) : Type 0 where
  pub told : says r ≡ amount a
  pub here : (xs : List ℕ) → a ≡ given xs → part work' from (length xs) ≡ xs
  pub kept : take from work' ≡ take from work

-- what writing a list asks: no offset passes the largest number
pub record Source (list : List ℕ) (at : ℕ) : Type 0 where
  pub short : at + 9 * length list + 4 < 2 ^ 63

-- what reading asks: work has room for the list, and the body is no longer than a sheet
pub record Target (body work : List ℕ) (from n : ℕ) : Type 0 where
  pub inside : from + n ≤ length work
  pub short : length body ≤ most_bytes

-- a unit of the numbers `before` left so many bytes spare: a next unit may follow it where its first number takes more
abbrev pub Spare : (List ℕ → List ℕ → Bool) → List ℕ → ℕ → Type 0
Spare joins before spare = (xs : List ℕ) → joins before xs ≡ ltb spare (byte_length (get_or xs 0 0))

-- units of a code were taken from p on, where `left` numbers are still to come, into work from a place on, and no more numbers than there is room for.
-- r says how many numbers and units, where the next unit begins and what the last left spare. Nothing is refused: what is not taken stands from there on
pub record Took (c : Code) (body : List ℕ) (left : ℕ) (p : Position) (room from : ℕ) (work work' : List ℕ) (r : Taken) : Type 0 where
  pub numbers : List ℕ
  pub last : List ℕ
  pub are : Stretch (c.unit body) c.joins left p numbers r.units last r.next
  pub counted : length numbers ≡ r.count
  pub few : r.count ≤ room
  pub here : work' ≡ sets work from numbers
  pub leaves : Spare c.joins last r.spare

-- so many numbers of so many units were taken from p on, the last unit left so many bytes spare, and the next unit is at q; where none was taken, the
-- position stays as it was given
pub record Ends (p : Position) (count units spare : ℕ) (q : Position) (r : Taken) : Type 0 where
  pub counted : r.count ≡ count
  pub passed : r.units ≡ units
  pub leaves : r.spare ≡ spare
  pub stays : count ≡ 0 → r.next ≡ p
  pub goes : 0 < count → r.next ≡ q
