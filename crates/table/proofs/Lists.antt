-- A list taken element by element: a test of all, a sum, the largest. Assumes nothing.
use Prim.Native.Nat.{ℕ, zero, suc, ◌+◌, ◌≤◌, ◌<◌, max}
use mathlib.Core.Path.{◌≡◌, ap, ◌∙◌}
use mathlib.Core.Bool.{Bool, true, false, ◌&&◌}
use mathlib.Core.List.{List, [], ◌∷◌, map}
use native.Mathlib.Numerals.{add-one}
use native.Mathlib.Omega.{arith}
use lib.ListN.{length, get_or, drop, drop_of_length-le}
use lib.Seq.{drop-cons}
use Rattle.meaning.specs.Lists.{all, sum, largest}
use Rattle.meaning.proofs.Tests.{both_true}

module _ {A : Type 0} (test : A → Bool) where
  -- where all hold, each does
  pub each_holds : (cs : List A) (d : A) (i : ℕ) → all test cs ≡ true → i < length cs → test (get_or cs i d) ≡ true
  unfolding all
  each_holds [] d i p h = absurd (omega arith)
  each_holds (x ∷ xs) d zero p h = (both_true (test x) (all test xs) p).0
  each_holds (x ∷ xs) d (suc i) p h = each_holds xs d i (both_true (test x) (all test xs) p).1 (omega arith)

-- those below k hold: what is still to be asked, asked from k on, is the whole
abbrev pub HoldBelow : {A : Type 0} → (A → Bool) → List A → ℕ → Type 0
HoldBelow test cs k = all test cs ≡ all test (drop k cs)

module _ {A : Type 0} (test : A → Bool) (cs : List A) where
  pub hold-end : (k : ℕ) → HoldBelow test cs k → length cs ≤ k → all test cs ≡ true
  unfolding all
  hold-end k so h = so ∙ ap (all test) (drop_of_length-le cs h)

  module _ (d : A) (k : ℕ) (so : HoldBelow test cs k) (h : k < length cs) where
    opened : all test cs ≡ test (get_or cs k d) && all test (drop (suc k) cs)
    unfolding all
    opened = so ∙ ap (all test) (drop-cons cs k d h)

    pub hold-turn : test (get_or cs k d) ≡ true → HoldBelow test cs (k + 1)
    hold-turn e = rw add-one (opened ∙ rw e)

    pub hold-fail : test (get_or cs k d) ≡ false → all test cs ≡ false
    hold-fail e = opened ∙ rw e

-- ---- one more of a list of numbers
module _ {A : Type 0} (f : A → ℕ) (cs : List A) (d : A) (k : ℕ) (h : k < length cs) where
  pub sum-next : sum (map f (drop k cs)) ≡ f (get_or cs k d) + sum (map f (drop (suc k) cs))
  unfolding sum
  sum-next = ap (λ (l : List A). sum (map f l)) (drop-cons cs k d h)

  pub largest-next : largest (map f (drop k cs)) ≡ max (f (get_or cs k d)) (largest (map f (drop (suc k) cs)))
  unfolding largest
  largest-next = ap (λ (l : List A). largest (map f l)) (drop-cons cs k d h)
