-- The numbers at the first places of a list that is looked up: up to k of them, or up to the first place that refuses.
use Rattle.std.specs.Prelude.{ℕ, zero, suc, ◌+◌, ◌≤◌, ◌<◌, ◌≡◌, List, length, get_or, take, Some, None}
use Rattle.meaning.specs.Answer.{Answer, given, refused, bind}
use Rattle.meaning.specs.Limits.{most_bytes, most_numbers}
use Rattle.meaning.specs.Says.{refusal_number}
use Rattle.meaning.specs.declared.Refusal.{Refusal}
use Rattle.codes.specs.declared.First.{First}

-- the sum of the numbers at the first k places
unfoldable pub total : (ℕ → Answer ℕ) → ℕ → Answer ℕ
total at zero = given 0
total at (suc k) = bind (total at k) (λ s. bind (at k) (λ x. given (s + x)))

-- what a lookup asks: a body no longer than a sheet, and a place of a list no longer than a column
pub record Looked (body : List ℕ) (n place : ℕ) : Type 0 where
  pub short : length body ≤ most_bytes
  pub few : n ≤ most_numbers
  pub inside : place < n

-- what the first k places ask: room for k numbers
pub record Space (body : List ℕ) (n k : ℕ) (work : List ℕ) (from : ℕ) : Type 0 where
  pub short : length body ≤ most_bytes
  pub few : n ≤ most_numbers
  pub inside : k ≤ n
  pub room : from + k ≤ length work

-- r tells how many there are, and the refusal after them; they stand in work from a place on, and what stands before that place is kept
pub record Firsts (at : ℕ → Answer ℕ) (k from : ℕ) (work work' : List ℕ) (r : First) : Type 0 where
  pub most : r.count ≤ k
  pub are : (i : ℕ) → i < r.count → at i ≡ given (get_or work' (from + i) 0)
  pub stops : r.count < k → (e : Refusal) × (r.stop ≡ Some e) × (at r.count ≡ refused (refusal_number e))
  pub all : r.count ≡ k → r.stop ≡ None
  pub kept : take from work' ≡ take from work
