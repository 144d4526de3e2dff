-- Counts: their sums, where lists begin, and the largest. Assumes nothing.
use Prim.Native.Nat.{ℕ, zero, suc, ◌+◌, ◌*◌, ◌≤◌, ◌<◌}
use mathlib.Core.Path.{◌≡◌, refl}
use mathlib.Core.List.{List, [], ◌∷◌}
use native.Mathlib.Numerals.{add-one}
use native.Mathlib.Omega.{arith}
use lib.ListN.{length, get_or, take}
use lib.Seq.{take-suc}
use Rattle.std.specs.Option.{MatchOption, unwrap_or}
use Rattle.std.specs.Prelude.{Option, None, Some}
use Rattle.meaning.specs.Limits.{most_numbers}
use Rattle.meaning.specs.Lists.{sum, largest}
use Rattle.leaves.proofs.Joined.{sum-append}
use Rattle.writer.specs.Orders.{list_start}

pub start-next : (counts : List ℕ) (k : ℕ) → k < length counts → list_start counts (k + 1) ≡ list_start counts k + get_or counts k 0
unfolding sum
start-next counts k h = rw (add-one, take-suc counts k 0 h) (omega (arith, sum-append (take k counts) (get_or counts k 0 ∷ [])))

pub start-most : (counts : List ℕ) (k : ℕ) → list_start counts k ≤ sum counts
unfolding sum
start-most counts zero = omega arith
start-most [] (suc k) = omega arith
start-most (c ∷ counts) (suc k) = omega (arith, start-most counts k)

-- list k lies within the joined lists
pub list-within : (counts : List ℕ) (k : ℕ) → k < length counts → list_start counts k + get_or counts k 0 ≤ sum counts
list-within counts k h = omega (arith, start-next counts k h, start-most counts (k + 1))

-- lists of at most 1,024 numbers begin early
pub start_small : (counts : List ℕ) → ((k : ℕ) → get_or counts k 0 ≤ most_numbers) → (k : ℕ) → list_start counts k ≤ most_numbers * k
unfolding sum
start_small counts h zero = omega arith
start_small [] h (suc k) = omega arith
start_small (c ∷ counts) h (suc k) = omega (arith, h 0, start_small counts (λ (i : ℕ). h (suc i)) k)

-- none is above the largest
pub each-largest : (counts : List ℕ) (k : ℕ) → get_or counts k 0 ≤ largest counts
unfolding largest
each-largest [] k = omega arith
each-largest (c ∷ counts) zero = omega arith
each-largest (c ∷ counts) (suc k) = omega (arith, each-largest counts k)

-- ---- the largest: one of them, and none is above it
abbrev pub Highest : List ℕ → ℕ → Type 0
Highest xs m = ((k : ℕ) → k < length xs → get_or xs k 0 ≤ m) × ((k : ℕ) × (k < length xs) × (get_or xs k 0 ≡ m))

largest-most : (m : ℕ) (xs : List ℕ) → ((k : ℕ) → k < length xs → get_or xs k 0 ≤ m) → largest xs ≤ m
unfolding largest
largest-most m [] h = omega arith
largest-most m (x ∷ xs) h = omega (arith, h 0, largest-most m xs (λ k l. h (suc k) (omega arith)))

pub largest-is : (xs : List ℕ) (o : Option ℕ) → MatchOption o (length xs ≡ 0) (Highest xs) → unwrap_or o 0 ≡ largest xs
unfolding largest
largest-is [] None h = refl
largest-is (x ∷ xs) None h = absurd (omega arith)
largest-is xs (Some m) (h, (k, l, e)) = omega (arith, each-largest xs k, largest-most m xs h)
