-- A run sought in some lengths, as the meaning's `seek` goes.
use Rattle.std.specs.Prelude.{ℕ, ◌+◌, ◌-◌, ◌≤◌, ◌<◌, ◌≡◌, List, length, get_or, Result, Ok, Err}
use Rattle.meaning.specs.Answer.{Answer, given, refused}
use Rattle.meaning.specs.Says.{refusal_number}
use Rattle.meaning.specs.Stages.{seek}
use Rattle.meaning.specs.declared.Refusal.{Refusal}
use Rattle.stages.specs.declared.Sought.{Sought}
use Rattle.stages.specs.declared.Sought.TheVariants as sought

-- what is sought from run j on, of k that are left: a run found, or sought on after these `count`, or the refusal
abbrev pub sought_from : (ℕ → Answer ℕ) → ℕ → ℕ → ℕ → ℕ → ℕ → Result Sought Refusal → Answer ℕ
sought_from length_at n place k j count (Ok (sought.At i)) = given (j + i.number)
sought_from length_at n place k j count (Ok (sought.After s)) = seek length_at n place (k - count) (j + count) s.number
sought_from length_at n place k j count (Err e) = refused (refusal_number e)

-- the run is one of them, or no more than n numbers stand in them all, one at least in each, and none at the place
abbrev pub Within : ℕ → ℕ → ℕ → ℕ → Result Sought Refusal → Type 0
Within count n place done (Ok (sought.At i)) = i.number < count
Within count n place done (Ok (sought.After s)) = (s.number ≤ n) × (done + count ≤ s.number) × (done ≤ place → s.number ≤ place)
Within count n place done (Err e) = Unit {0}

-- the lengths stand in a list, and begin after `done` numbers of n
pub record Seeks (lengths : List ℕ) (n place done : ℕ) (r : Result Sought Refusal) : Type 0 where
  pub told : (length_at : ℕ → Answer ℕ) (k j : ℕ) → ((i : ℕ) → i < length lengths → length_at (j + i) ≡ given (get_or lengths i 0)) → length lengths ≤ k
      → seek length_at n place k j done ≡ sought_from length_at n place k j (length lengths) r
  pub within : Within (length lengths) n place done r
