-- What this crate's helper functions ask and answer, in the meaning's words.
use Rattle.std.specs.Prelude.{ℕ, suc, ◌+◌, ◌-◌, ◌*◌, ◌≤◌, ◌≡◌, true, List, leb, length, drop}
use Rattle.meaning.specs.Answer.{Answer, given, bind, need}
use Rattle.meaning.specs.Bits.{pack_low, zeros_first}
use Rattle.meaning.specs.Bytes.{word_at}
use Rattle.meaning.specs.DataBytes.{data_bytes}
use Rattle.meaning.specs.Direct.{flag_bytes, sum_count, last_bits, sum_bytes, parts_fit, flags, number_in, stretch_of, ended_before, stretch_bits, ending_at}
use Rattle.meaning.specs.Codes.{code_direct}
use Rattle.meaning.specs.Limits.{broken}
use Rattle.meaning.specs.Lists.{joined}
use Rattle.meaning.specs.Places.{Took, Ends}
use Rattle.meaning.specs.Positions.{at_bit}
use Rattle.meaning.specs.Rank.{one_at}
use Rattle.meaning.specs.declared.Position.{Position}
use Rattle.meaning.specs.declared.Taken.{Taken}
use Rattle.direct.specs.declared.input.Next.{Next}
use Rattle.direct.specs.declared.looking.Stretch.{Stretch}

-- the parts of d data bytes fit the body
pub record Fit (body : List ℕ) (d : ℕ) : Type 0 where
  pub fits : parts_fit body ≡ true
  pub is : d ≡ word_at body 0

-- the number whose first byte is data byte i, and the data byte after it
unfoldable pub next_in : List ℕ → ℕ → Answer (ℕ × ℕ)
next_in body i =
    let l = suc (zeros_first (drop i (flags body))) in
    need (leb (i + l) (word_at body 0)) broken (bind (number_in body i l) (λ x. given (x, i + l)))

-- the same, as it is read
abbrev pub next_told : Next → ℕ × ℕ
next_told r = (r.number, r.end.index)

-- numbers were taken, and taking goes on from there
pub record Begun (body : List ℕ) (left : ℕ) (at : Position) (room from : ℕ) (work work' : List ℕ) (r : Taken) : Type 0 where
  pub took : Took code_direct body left at room from work work' r
  pub ends : Ends at r.count r.count 0 (at_bit r.next.bit.index) r

-- the stretch that a place is looked up in, and the numbers that end before it, by the sums
pub record Leads (body : List ℕ) (d place : ℕ) (r : Stretch) : Type 0 where
  pub is : r.number ≡ stretch_of body place
  pub before : r.ended ≡ ended_before body r.number
  pub few : r.number ≤ sum_count d
  pub passed : r.ended ≤ place

-- a lookup where the parts fit
unfoldable pub look_fit : List ℕ → ℕ → Answer ℕ
look_fit body place =
    let s = stretch_of body place in
    bind (one_at broken (place - ended_before body s) (stretch_bits body s)) (λ i. ending_at body (512 * s + i))

-- the bits and the sums of a list
abbrev pub flags_of : List ℕ → List ℕ
flags_of xs = pack_low (flag_bytes (length (data_bytes xs))) (joined last_bits xs)

abbrev pub sums_of : List ℕ → List ℕ
sums_of xs = sum_bytes (sum_count (length (data_bytes xs))) (joined last_bits xs)
