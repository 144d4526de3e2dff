-- The room that a plan asks: in work, for the list and scratch after it; and in bytes.
use Rattle.std.specs.Prelude.{ℕ, zero, suc, ◌+◌, ◌*◌, ◌≤◌, List, length}
use Rattle.meaning.specs.Limits.{most_bytes, most_numbers}

-- a list of n numbers with its scratch, under so many stages: 7n at three
unfoldable pub room : ℕ → ℕ → ℕ
room zero n = n
room (suc stages) n = n + n + room stages n

-- above the worst size of every plan with at most so many stages over a code
unfoldable pub cap : ℕ → ℕ → ℕ
cap zero n = 9 * n + 4
cap (suc stages) n = 8 + (cap stages n + cap stages n)

-- what reading and lookup by a plan ask
pub record Fits (body work : List ℕ) (stages n from : ℕ) : Type 0 where
  pub short : length body ≤ most_bytes
  pub few : n ≤ most_numbers
  pub within : from + room stages n ≤ length work
