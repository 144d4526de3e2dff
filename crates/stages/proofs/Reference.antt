-- Stage 16: a list less its least number, and back. Assumes nothing.
use Prim.Native.Nat.{ℕ, ◌+◌, ◌-◌, ◌≤◌, ◌<◌, min}
use mathlib.Core.Path.{◌≡◌, refl, sym, ap, ap₂, ◌∙◌}
use mathlib.Core.Bool.{true}
use mathlib.Core.List.{List, [], ◌∷◌}
use native.Mathlib.Omega.{arith}
use lib.Dec.{eqb}
use lib.ListN.{get_or, get_or-map}
use borrow.Author.Tests.{eq-eqb, eqb-true}
use Rattle.meaning.specs.Answer.{given}
use Rattle.meaning.specs.Limits.{broken, number_limit}
use Rattle.meaning.specs.Lists.{rises}
use Rattle.meaning.specs.Places.{Below}
use Rattle.meaning.specs.Stages.{least_of, least, small, raised}
use Rattle.meaning.proofs.Answers.{need-given}
use Rattle.stages.proofs.Lists.{below-small, small-below, rise-apart, rise-together, rise_one}
use Rattle.stages.proofs.Scans.{less_by, raised_by}
use Rattle.stages.proofs.Walks.{least_under}

pub least-below : (m : ℕ) (xs : List ℕ) → Below m xs → least xs < m
unfolding least
least-below m [] h = h 0
least-below m (x ∷ xs) h = omega (arith, least_under x xs, h 0)

-- a list less a number that is none of its numbers' more, raised by it again
raise-less : (m k : ℕ) (xs : List ℕ) → k ≤ least_of m xs → raised_by k (less_by k xs) ≡ xs
unfolding least_of
raise-less m k [] h = refl
raise-less m k (x ∷ xs) h =
    let u = least_under (min m x) xs in
    let e : k + (x - k) ≡ x = omega arith in
    ap₂ (λ (y : ℕ) (l : List ℕ). y ∷ l) e (raise-less (min m x) k xs h)

raise-least : (xs : List ℕ) → raised_by (least xs) (less_by (least xs) xs) ≡ xs
unfolding least
raise-least [] = refl
raise-least (x ∷ xs) =
    let k = least_of x xs in
    let u = least_under x xs in
    let e : k + (x - k) ≡ x = omega arith in
    ap₂ (λ (y : ℕ) (l : List ℕ). y ∷ l) e (raise-less x k xs (omega arith))

pub less-raise : (m : ℕ) (ys : List ℕ) → less_by m (raised_by m ys) ≡ ys
less-raise m [] = refl
less-raise m (y ∷ ys) = let e : m + y - m ≡ y = omega arith in ap₂ (λ (x : ℕ) (l : List ℕ). x ∷ l) e (less-raise m ys)

pub less-below : (b m : ℕ) (xs : List ℕ) → Below b xs → Below b (less_by m xs)
less-below b m xs h i =
    let z : 0 - m ≡ 0 = omega arith in
    let e : get_or (less_by m xs) i 0 ≡ get_or xs i 0 - m = ap (λ (d : ℕ). get_or (less_by m xs) i d) (sym z) ∙ get_or-map (λ (x : ℕ). x - m) xs i 0 in
    omega (arith, h i)

pub less-rises : (m : ℕ) (xs : List ℕ) → rises xs ≡ true → rises (less_by m xs) ≡ true
less-rises m [] e = e
less-rises m (x ∷ []) e = rise_one (x - m)
less-rises m (x ∷ y ∷ xs) e =
    let (a, b) = rise-apart x y xs e in
    rise-together (x - m) (y - m) (less_by m xs) (omega arith) (less-rises m (y ∷ xs) b)

-- ---- read
pub raised-least : (xs : List ℕ) → Below number_limit xs → raised (least xs) (less_by (least xs) xs) ≡ given xs
unfolding raised
raised-least xs h = rw (raise-least xs, below-small xs h, eq-eqb (least xs) (least xs) refl)

pub record Raised (m : ℕ) (ys xs : List ℕ) : Type 0 where
  pub is : raised_by m ys ≡ xs
  pub lowest : least xs ≡ m
  pub below : Below number_limit xs

pub raised_is : (m : ℕ) (ys xs : List ℕ) → raised m ys ≡ given xs → Raised m ys xs
unfolding raised
raised_is m ys xs e =
    let (s, e₁) = need-given (small (raised_by m ys)) broken _ xs e in
    let (t, e₂) = need-given (eqb (least (raised_by m ys)) m) broken _ xs e₁ in
    let is : raised_by m ys ≡ xs = cc in
    record { is = is; lowest = ap least (sym is) ∙ eqb-true (least (raised_by m ys)) m t; below = small-below xs (ap small (sym is) ∙ s) }
