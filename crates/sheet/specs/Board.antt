-- The board's rules taken apart, and endings counted one by one.
use Rattle.std.specs.Prelude.{ℕ, ◌+◌, ◌≤◌, ◌<◌, ◌^◌, ◌≡◌, Bool, ◌&&◌, List, [], ◌∷◌, leb, eqb, length, take}
use Rattle.meaning.specs.Answer.{Verdict, passed, ask}
use Rattle.meaning.specs.Limits.{rising, bad_board}
use Rattle.meaning.specs.Lists.{all, differ}
use Rattle.meaning.specs.Operations.{check, numbers_at, tally_of, tallied}
use Rattle.meaning.specs.Sheet.{columns_of, column_at, column_count}
use Rattle.meaning.specs.declared.Tally.{Tally}

-- a column of a sheet that passed the check with so much work
pub record Known (sheet : List ℕ) (k work : ℕ) : Type 0 where
  pub checked : check sheet work ≡ passed
  pub exists : k < column_count sheet

-- its n numbers stand at the start of work
pub record ReadAgain (sheet : List ℕ) (k : ℕ) (work : List ℕ) (n : ℕ) : Type 0 where
  pub fits : n ≤ length work
  pub here : take n work ≡ numbers_at sheet k

-- the rules but for the endings: columns 0 and 1 exist with equal counts, column 0 is kind 1 with no equal neighbours
abbrev pub jobs_hold : List ℕ → Bool
jobs_hold sheet =
    leb 2 (length (columns_of sheet))
    && (eqb (column_at sheet 0).count (column_at sheet 1).count
    && (eqb (column_at sheet 0).kind rising && differ (numbers_at sheet 0)))

-- the verdict on some endings, and their tallies
abbrev pub endings_told : List ℕ → Verdict × Tally
endings_told endings = tallied (ask (all (λ e. leb e 256) endings) bad_board) endings

-- how many jobs the tallies count
abbrev pub total : Tally → ℕ
total t = t.passed + t.failed + t.killed + t.unended

-- tallies added up
abbrev pub add_tally : Tally → Tally → Tally
add_tally t u =
    record {
      passed = t.passed + u.passed;
      failed = t.failed + u.failed;
      killed = t.killed + u.killed;
      unended = t.unended + u.unended;
    }

-- an ending, and tallies that can be one more
pub record Countable (t : Tally) (ending : ℕ) : Type 0 where
  pub most : ending ≤ 256
  pub room : total t + 1 < 2 ^ 64

-- one ending more
abbrev pub with_ending : Tally → ℕ → Tally
with_ending t e = add_tally t (tally_of (e ∷ []))
