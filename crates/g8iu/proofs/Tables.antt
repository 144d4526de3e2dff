-- A rule at every number below a bound, by one test that antt computes. Assumes nothing.
use Prim.Native.Nat.{ℕ, zero, suc, ◌<◌}
use mathlib.Core.Path.{◌≡◌, refl, sym, ap₂, subst}
use mathlib.Core.Bool.{Bool, true, false, ◌&&◌}
use mathlib.Core.List.{List, [], ◌∷◌}
use mathlib.Core.Logic.{inl, inr}
use native.Mathlib.Nat.{not-suc-le-zero, le_of_suc-le-suc, eq-or-lt_of_le}
use lib.Dec.{eqb}
use borrow.Author.Tests.{eqb-true}
use Rattle.meaning.proofs.Tests.{both_true}

-- the test passes at each number below n
abbrev pub each : ℕ → (ℕ → Bool) → Bool
each zero f = true
each (suc n) f = f n && each n f

pub at_each : (n : ℕ) (f : ℕ → Bool) → each n f ≡ true → (k : ℕ) → k < n → f k ≡ true
at_each zero f t k h = absurd (not-suc-le-zero h)
at_each (suc n) f t k h =
    let (here, below) = both_true (f n) (each n f) t in
    elim (eq-or-lt_of_le (le_of_suc-le-suc h)) [ inl e ↦ subst (λ (m : ℕ). f m ≡ true) (sym e) here | inr l ↦ at_each n f below k l ]

-- two lists are the same
abbrev pub same : List ℕ → List ℕ → Bool
same [] [] = true
same [] (y ∷ ys) = false
same (x ∷ xs) [] = false
same (x ∷ xs) (y ∷ ys) = eqb x y && same xs ys

pub same-is : (xs ys : List ℕ) → same xs ys ≡ true → xs ≡ ys
same-is [] [] t = refl
same-is [] (y ∷ ys) t = cc
same-is (x ∷ xs) [] t = cc
same-is (x ∷ xs) (y ∷ ys) t =
    let (a, b) = both_true (eqb x y) (same xs ys) t in
    ap₂ (λ (a : ℕ) (l : List ℕ). a ∷ l) (eqb-true x y a) (same-is xs ys b)
