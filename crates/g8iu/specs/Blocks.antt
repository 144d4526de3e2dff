-- One block, as the helper functions take it from a body or put it to an output.
use Rattle.std.specs.Prelude.{ℕ, ◌+◌, ◌-◌, ◌≤◌, ◌<◌, ◌≡◌, Bool, false, ◌&&◌, ◌||◌, List, [], ◌∷◌, leb, eqb, length, get_or, take, drop}
use Rattle.std.specs.Prelude.{Option, Some, None, IsSome, IsNone}
use Rattle.std.specs.Int.Count.{count_trailing_zeros}
use Rattle.std.proofs.lemmas.List.Edits.{sets}
use Rattle.meaning.specs.Answer.{Answer, given, refused, need}
use Rattle.meaning.specs.DataBytes.{data_bytes, data_in}
use Rattle.meaning.specs.G8IU.{fits, block, block_lengths}
use Rattle.meaning.specs.Limits.{broken}
use Rattle.meaning.specs.Lists.{all, sum}
use Rattle.meaning.specs.declared.Place.{Place}

-- the lengths that a control byte says are allowed where `left` numbers are still to come: one at least, none beyond the list, and waste of at most 3
-- unless the list ends there
abbrev pub allowed : ℕ → List ℕ → Bool
allowed left ls = leb 1 (length ls) && (leb (length ls) left && (leb (8 - sum ls) 3 || eqb (length ls) left))

-- the numbers of these lengths, in data whose waste is 0
abbrev pub numbers_in : List ℕ → List ℕ → Answer (List ℕ)
numbers_in ls bytes = need (all (eqb 0) (drop (sum ls) bytes)) broken (data_in ls bytes)

-- the block at an offset of a body: the lengths that its control byte says, its data, and its numbers
abbrev pub lengths_at : List ℕ → ℕ → List ℕ
lengths_at body at = block_lengths (get_or body at 0)

abbrev pub data_at : List ℕ → ℕ → List ℕ
data_at body at = take 8 (drop (at + 1) body)

abbrev pub numbers_at : List ℕ → ℕ → Answer (List ℕ)
numbers_at body at = numbers_in (lengths_at body at) (data_at body at)

-- no number means a block at fault
abbrev pub or_fault : List ℕ → Answer (List ℕ)
or_fault [] = refused broken
or_fault (x ∷ xs) = given (x ∷ xs)

-- the largest number of 1 to 4 bytes, and the smallest that needs them all; no number has 5 to 8 bytes
abbrev pub most_of : List ℕ
most_of = 255 ∷ 65535 ∷ 16777215 ∷ 4294967295 ∷ 0 ∷ 0 ∷ 0 ∷ 0 ∷ []

abbrev pub least_of : List ℕ
least_of = 0 ∷ 256 ∷ 65536 ∷ 16777216 ∷ 1 ∷ 1 ∷ 1 ∷ 1 ∷ []

-- what taking a block by its ends asks: they are the control byte's zeros, there is one at least, and the output has room for 8 numbers
pub record Ending (body : List ℕ) (at ends : ℕ) (most least out : List ℕ) (to : ℕ) : Type 0 where
  pub inside : at + 9 ≤ length body
  pub zeros : ends ≡ 255 - get_or body at 0
  pub some : 0 < ends
  pub highest : most ≡ most_of
  pub lowest : least ≡ least_of
  pub fits : to + 8 ≤ length out

-- the place after the numbers from another on, where there are any
abbrev pub end_of : ℕ → List ℕ → Option Place
end_of to [] = None
end_of to (x ∷ xs) = Some (record { number = to + length (x ∷ xs) })

-- a block's numbers were stored from a place on, and r is the place after them; of a block at fault there are none
pub record BlockIs (body : List ℕ) (at to : ℕ) (out out' : List ℕ) (r : Option Place) : Type 0 where
  pub numbers : List ℕ
  pub are : numbers_at body at ≡ or_fault numbers
  pub here : out' ≡ sets out to numbers
  pub ends : r ≡ end_of to numbers

-- the same, but of a block at fault some may have been stored all the same
pub record BegunIs (body : List ℕ) (at to : ℕ) (out out' : List ℕ) (r : Option Place) : Type 0 where
  pub begun : List ℕ
  pub few : length begun ≤ 8
  pub here : out' ≡ sets out to begun
  pub whole : IsSome r → BlockIs body at to out out' r
  pub faulty : IsNone r → numbers_at body at ≡ refused broken

-- the ends of a plain block at an offset: its waste is at most 3, and its first number did not fit into what the block before left spare
pub record Plain (body : List ℕ) (at spare ends : ℕ) : Type 0 where
  pub inside : at + 9 ≤ length body
  pub zeros : ends ≡ 255 - get_or body at 0
  pub full : 16 ≤ ends
  pub joins : spare ≤ count_trailing_zeros 32 ends

-- the first r numbers of a list were put as a block, as many as fit
pub record PutBlock (list : List ℕ) (at : ℕ) (out out' : List ℕ) (r : ℕ) : Type 0 where
  pub some : 0 < r
  pub within : r ≤ length list
  pub fitted : length (data_bytes (take r list)) ≤ 8
  pub stops : r < length list → fits (take r list) (get_or list r 0) ≡ false
  pub here : out' ≡ sets out at (block (take r list))
