-- An answer as a C caller is told it: the refusal's number is returned, 0 is accepted, and the rest comes through pointers, 0 on refusal.
use Rattle.std.specs.Prelude.{ℕ, ◌+◌, ◌≤◌, ◌≡◌, List, length, take, drop}
use Rattle.meaning.specs.Answer.{Answer, given, refused, number, list, amount, filled, Verdict, passed, blamed}
use Rattle.meaning.specs.Operations.{fetch}
use Rattle.meaning.specs.Sheet.{body_begins}
use Rattle.meaning.specs.declared.Tally.{Tally}

-- the number that was given; a refusal comes with 0
abbrev pub value : Answer ℕ → ℕ
value (given n) = n
value (refused e) = 0

-- a verdict's refusal, and the column at fault
abbrev pub refusal : Verdict → ℕ
refusal passed = 0
refusal (blamed e k) = e

abbrev pub faulty : Verdict → ℕ
faulty passed = 0
faulty (blamed e k) = k

-- one number is told
pub record Tells (a : Answer ℕ) (r n : ℕ) : Type 0 where
  pub returned : r ≡ number a
  pub told : n ≡ value a

-- a list goes to the start of an output, and how long it is is told; after a refusal the output is as it was
pub record TellsList (a : Answer (List ℕ)) (r n : ℕ) (out out' : List ℕ) : Type 0 where
  pub returned : r ≡ number a
  pub told : n ≡ value (amount a)
  pub here : out' ≡ filled a out

-- the column at fault is told
pub record Blames (v : Verdict) (r k : ℕ) : Type 0 where
  pub returned : r ≡ refusal v
  pub blamed : k ≡ faulty v

-- the column at fault and the tallies are told
pub record Tallies (b : Verdict × Tally) (r k : ℕ) (t : Tally) : Type 0 where
  pub returned : r ≡ refusal b.0
  pub blamed : k ≡ faulty b.0
  pub tallies : t ≡ b.1

-- the offset that is told with a body
abbrev pub offset_of : Answer (List ℕ) → ℕ → ℕ
offset_of (given body) begins = begins
offset_of (refused e) begins = 0

-- where the body stands is told: that part of the sheet, which lies within it, is the body
pub record Fetches (sheet : List ℕ) (k r from n : ℕ) : Type 0 where
  pub returned : r ≡ number (fetch sheet k)
  pub offset : from ≡ offset_of (fetch sheet k) (body_begins sheet k)
  pub size : n ≡ length (list (fetch sheet k))
  pub part : take n (drop from sheet) ≡ list (fetch sheet k)
  pub inside : from + n ≤ length sheet
