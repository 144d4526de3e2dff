-- Runs in work: made behind a list, and spread into one.
use Rattle.std.specs.Prelude.{ℕ, ◌+◌, ◌*◌, ◌≤◌, ◌<◌, ◌≡◌, Bool, true, false, ◌&&◌, List, leb, length, get_or, take}
use Rattle.std.proofs.lemmas.List.Edits.{sets}
use Rattle.meaning.specs.Lists.{all, sum}
use Rattle.meaning.specs.Places.{part}
use Rattle.meaning.specs.Stages.{run_values, run_lengths, unroll}
use Rattle.stages.specs.declared.Laid.{Laid}

-- of n numbers xs that stand from a place on: the runs' lengths stand n places further on, their values 2n, and r says how many there are
pub record RunsMade (xs : List ℕ) (from n : ℕ) (work work' : List ℕ) (r : ℕ) : Type 0 where
  pub many : r ≡ length (run_values xs)
  pub lengths : part work' (from + n) r ≡ run_lengths xs
  pub values : part work' (from + 2 * n) r ≡ run_values xs
  pub kept : take (from + n) work' ≡ take (from + n) work

-- a run of l numbers may follow s of n: no length is zero, no sum is above n
unfoldable pub run_fits : ℕ → ℕ → ℕ → Bool
run_fits n s l = leb 1 l && leb (s + l) n

-- the first j runs of these values and lengths make s numbers of n, and the first `goal` of them were stored from a place on
pub record Laying (vs ls : List ℕ) (n goal from : ℕ) (work work' : List ℕ) (j s : ℕ) : Type 0 where
  pub most : j ≤ length ls
  pub some : all (leb 1) (take j ls) ≡ true
  pub total : s ≡ sum (take j ls)
  pub within : s ≤ n
  pub here : work' ≡ sets work from (take goal (unroll (take j vs) (take j ls)))

-- and where they make fewer, no run comes next or it does not fit
pub record Spread (vs ls : List ℕ) (n goal from : ℕ) (work work' : List ℕ) (r : Laid) : Type 0 where
  pub laid : Laying vs ls n goal from work work' r.runs r.numbers
  pub stops : r.numbers < goal → r.runs < length ls → run_fits n r.numbers (get_or ls r.runs 0) ≡ false
