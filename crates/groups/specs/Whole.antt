-- Whole groups, taken where the data is there even of four numbers of four bytes.
use Rattle.std.specs.Prelude.{ℕ, ◌+◌, ◌≡◌, List, Option, Some, None, take, drop}
use Rattle.meaning.specs.Answer.{given}
use Rattle.meaning.specs.Bytes.{number_of}
use Rattle.meaning.specs.Codes.{Code}
use Rattle.meaning.specs.DataBytes.{byte_length}
use Rattle.meaning.specs.Groups.{fours, group_from}
use Rattle.meaning.specs.declared.Offset.{Offset}
use Rattle.meaning.specs.declared.Position.{Position}

-- x stands at an offset in f + 1 bytes, and needs so many
pub record Field (body : List ℕ) (at f x : ℕ) : Type 0 where
  pub is : x ≡ number_of (take (f + 1) (drop at body))
  pub fewest : byte_length x ≡ f + 1

-- the four numbers of a control byte stand in four places, and their data ends at an offset; or the places are left as they were
abbrev pub FourTaken : List ℕ → ℕ → ℕ → List ℕ → List ℕ → Option Offset → Type 0
FourTaken body c from w w' (Some end) = group_from fours body 4 c from ≡ given (end.byte, w')
FourTaken body c from w w' None = w' ≡ w

-- a code's unit of so many numbers stands in as many places, and the next unit is at a position; or the places are left as they were
abbrev pub UnitTaken : Code → ℕ → List ℕ → Position → List ℕ → List ℕ → Option Position → Type 0
UnitTaken code most body at w w' (Some next) = code.unit body most at ≡ given (next, w')
UnitTaken code most body at w w' None = w' ≡ w
