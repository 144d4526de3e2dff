-- Stage 17: a list's differences, and their sums. Assumes nothing.
use Prim.Native.Nat.{ℕ, suc, ◌+◌, ◌-◌}
use mathlib.Core.Path.{◌≡◌, refl, sym, ap, ap₂, ◌∙◌}
use mathlib.Core.Bool.{true}
use mathlib.Core.List.{List, [], ◌∷◌}
use native.Mathlib.Omega.{arith}
use Rattle.meaning.specs.Answer.{given}
use Rattle.meaning.specs.Limits.{broken, number_limit}
use Rattle.meaning.specs.Lists.{rises}
use Rattle.meaning.specs.Places.{Below}
use Rattle.meaning.specs.Stages.{less_before, sums_from, small, summed}
use Rattle.meaning.proofs.Answers.{need-given}
use Rattle.meaning.proofs.Bounds.{below-cons}
use Rattle.stages.proofs.Lists.{below-small, small-below, rise-apart, rise-zero}

sums-gaps : (p : ℕ) (xs : List ℕ) → rises (p ∷ xs) ≡ true → sums_from p (less_before p xs) ≡ xs
unfolding sums_from less_before
sums-gaps p [] h = refl
sums-gaps p (x ∷ xs) h =
    let (a, b) = rise-apart p x xs h in
    let e : p + (x - p) ≡ x = omega arith in
    ap₂ (λ (y : ℕ) (l : List ℕ). y ∷ l) e (ap (λ (k : ℕ). sums_from k (less_before x xs)) e ∙ sums-gaps x xs b)

pub gaps-sums : (p : ℕ) (gs : List ℕ) → less_before p (sums_from p gs) ≡ gs
unfolding sums_from less_before
gaps-sums p [] = refl
gaps-sums p (g ∷ gs) = let e : p + g - p ≡ g = omega arith in ap₂ (λ (x : ℕ) (l : List ℕ). x ∷ l) e (gaps-sums (p + g) gs)

pub gaps-below : (b p : ℕ) (xs : List ℕ) → Below b xs → Below b (less_before p xs)
unfolding less_before
gaps-below b p [] h = h
gaps-below b p (x ∷ xs) h = below-cons b (x - p) (less_before x xs) (omega (arith, h 0)) (gaps-below b x xs (λ i. h (suc i)))

-- ---- read
pub summed-gaps : (xs : List ℕ) → rises xs ≡ true → Below number_limit xs → summed (less_before 0 xs) ≡ given xs
unfolding summed
summed-gaps xs r h = rw (sums-gaps 0 xs (rise-zero xs r), below-small xs h)

pub record Summed (gs xs : List ℕ) : Type 0 where
  pub is : sums_from 0 gs ≡ xs
  pub below : Below number_limit xs

pub summed-is : (gs xs : List ℕ) → summed gs ≡ given xs → Summed gs xs
unfolding summed
summed-is gs xs e =
    let (s, e₁) = need-given (small (sums_from 0 gs)) broken _ xs e in
    let is : sums_from 0 gs ≡ xs = cc in
    record { is = is; below = small-below xs (ap small (sym is) ∙ s) }
