-- What a walk over a whole list answers, in the meaning's words. Assumes nothing.
use Prim.Native.Nat.{ℕ, zero, suc, ◌+◌, ◌*◌, ◌≤◌, ◌<◌, min}
use mathlib.Core.Path.{◌≡◌, refl, sym, ap, ◌∙◌}
use mathlib.Core.Bool.{Bool, true, false, ◌&&◌}
use mathlib.Core.List.{List, [], ◌∷◌}
use native.Mathlib.Nat.{suc-add}
use native.Mathlib.Omega.{arith}
use lib.ListN.{length, get_or}
use denote.Param.Members.{Mut}
use denote.Ref.{Bor}
use Rattle.std.specs.Fn.{ComputesOnPairs, Called}
use Rattle.std.specs.List.{IsAllAdjacentAnswer}
use Rattle.std.proofs.lemmas.Fn.{always_returns_same}
use Rattle.std.specs.Option.{MatchOption, unwrap_or}
use Rattle.std.specs.Prelude.{Option, None, Some, sum as summed}
use Rattle.std.proofs.lemmas.List.Sums.{sum_by-cons}
use Rattle.meaning.specs.Limits.{number_limit}
use Rattle.meaning.specs.Lists.{neighbours, sum}
use Rattle.meaning.specs.Places.{Below}
use Rattle.meaning.specs.Stages.{least_of, least}

-- ---- neighbours: whether a test holds of each number and the one before it
module _ (test : ℕ → ℕ → Bool) where
  all-pass : (xs : List ℕ) → ((k d : ℕ) → k + 1 < length xs → true ≡ test (get_or xs k d) (get_or xs (k + 1) d)) → true ≡ neighbours test xs
  unfolding neighbours
  all-pass [] h = refl
  all-pass (x ∷ []) h = refl
  all-pass (x ∷ y ∷ xs) h =
      rw (sym (h 0 0 (omega arith)))
      (all-pass (y ∷ xs) (λ k d l. h (suc k) d (omega arith) ∙ ap (λ i. test (get_or (y ∷ xs) k d) (get_or (x ∷ y ∷ xs) i d)) (suc-add k 1)))

  one-fails : (xs : List ℕ) (k : ℕ) → k + 1 < length xs → false ≡ test (get_or xs k 0) (get_or xs (k + 1) 0) → false ≡ neighbours test xs
  unfolding neighbours
  one-fails [] k l e = absurd (omega arith)
  one-fails (x ∷ []) k l e = absurd (omega arith)
  one-fails (x ∷ y ∷ xs) zero l e = rw (← e)
  one-fails (x ∷ y ∷ xs) (suc k) l e =
      go (test x y) (one-fails (y ∷ xs) k (omega arith) (e ∙ ap (λ i. test (get_or (y ∷ xs) k 0) (get_or (x ∷ y ∷ xs) i 0)) (suc-add k 1)))
    where
      go : (b : Bool) → false ≡ neighbours test (y ∷ xs) → false ≡ b && neighbours test (y ∷ xs)
      go true q = q
      go false q = refl

  tells : (xs : List ℕ) (r : Bool) → IsAllAdjacentAnswer (λ x y b. b ≡ test x y) xs r → r ≡ neighbours test xs
  tells xs true h = all-pass xs h
  tells xs false h = one-fails xs h.0 h.1 (h.2 0)

  -- what `is_sorted_by` answers, where its closure is the test
  pub adjacent-is : (xs : List ℕ) (r : Bool) {F : Type 0} (g : Mut F (Bor ℕ × (Bor ℕ × Unit {0})) Bool) (f : F)
      → ((e : ℕ → ℕ → Bool) → ComputesOnPairs g e f → IsAllAdjacentAnswer (λ x y b. b ≡ e x y) xs r)
      → ((a : Bor ℕ × (Bor ℕ × Unit {0})) (r : Bool) (f' : F) → Called g f a r f' → (r ≡ test a.0.now a.1.0.now) × (f' ≡ f))
      → r ≡ neighbours test xs
  adjacent-is xs r g f cases same = tells xs r (cases test (always_returns_same g _ f same))

-- ---- the least number: one of them, and none is below it
least-over : (m n : ℕ) (xs : List ℕ) → m ≤ n → ((k : ℕ) → k < length xs → m ≤ get_or xs k 0) → m ≤ least_of n xs
unfolding least_of
least-over m n [] b h = b
least-over m n (x ∷ xs) b h = least-over m (min n x) xs (omega (arith, h 0)) (λ k l. h (suc k) (omega arith))

pub least_under : (m : ℕ) (xs : List ℕ) → least_of m xs ≤ m
unfolding least_of
least_under m [] = omega arith
least_under m (x ∷ xs) = omega (arith, least_under (min m x) xs)

least-above : (n : ℕ) (xs : List ℕ) (k : ℕ) → k < length xs → least_of n xs ≤ get_or xs k 0
unfolding least_of
least-above n [] k h = absurd (omega arith)
least-above n (x ∷ xs) zero h = omega (arith, least_under (min n x) xs)
least-above n (x ∷ xs) (suc k) h = least-above (min n x) xs k (omega arith)

abbrev pub Lowest : List ℕ → ℕ → Type 0
Lowest xs m = ((k : ℕ) → k < length xs → m ≤ get_or xs k 0) × ((k : ℕ) × (k < length xs) × (get_or xs k 0 ≡ m))

lowest-is : (xs : List ℕ) (m : ℕ) → Lowest xs m → m ≡ least xs
unfolding least
lowest-is [] m (h, (k, l, e)) = absurd (omega arith)
lowest-is (x ∷ xs) m (h, (zero, l, e)) =
    omega (arith, least-over m x xs (omega arith) (λ k l. h (suc k) (omega arith)), least_under x xs)
lowest-is (x ∷ xs) m (h, (suc k, l, e)) =
    omega (arith, h 0, least-over m x xs (h 0 (omega arith)) (λ k l. h (suc k) (omega arith)), least-above x xs k (omega arith), e)

pub least-is : (xs : List ℕ) (o : Option ℕ) → MatchOption o (length xs ≡ 0) (Lowest xs) → unwrap_or o 0 ≡ least xs
unfolding least
least-is [] None h = refl
least-is (x ∷ xs) None h = absurd (omega arith)
least-is xs (Some m) h = lowest-is xs m h

-- ---- the sum
pub sum-is : (xs : List ℕ) → summed xs ≡ sum xs
unfolding sum
sum-is [] = refl
sum-is (x ∷ xs) = sum_by-cons (λ y. y) x xs ∙ ap (λ s. x + s) (sum-is xs)

pub sum-most : (xs : List ℕ) → Below number_limit xs → sum xs ≤ length xs * number_limit
unfolding sum
sum-most [] h = omega arith
sum-most (x ∷ xs) h = omega (arith, h 0, sum-most xs (λ k. h (suc k)))
