-- Lists of numbers below 2^32, lists that rise, and what a kind asks by the edition. Assumes nothing.
use Prim.Native.Nat.{ℕ, zero, suc, ◌≤◌, ◌<◌}
use mathlib.Core.Path.{◌≡◌, refl}
use mathlib.Core.Bool.{Bool, true, false, cond}
use mathlib.Core.List.{List, [], ◌∷◌}
use native.Mathlib.Omega.{arith}
use lib.Dec.{leb, ltb, eqb}
use lib.ListN.{length, get_or}
use borrow.Author.Tests.{lt-ltb, ltb-true, le-leb, leb-true, eq-eqb, ne_eqb}
use Rattle.meaning.specs.Limits.{number_limit, rising}
use Rattle.meaning.specs.Lists.{all, neighbours, rises, strict}
use Rattle.meaning.specs.Places.{Below}
use Rattle.meaning.specs.Sheet.{of_kind}
use Rattle.meaning.specs.Stages.{small}
use Rattle.meaning.proofs.Bounds.{below-nil, below-cons}
use Rattle.meaning.proofs.Tests.{both_true, true-both}

pub below-small : (xs : List ℕ) → Below number_limit xs → small xs ≡ true
unfolding small all
below-small [] h = refl
below-small (x ∷ xs) h = rw (lt-ltb x number_limit (h 0)) (below-small xs (λ i. h (suc i)))

pub small-below : (xs : List ℕ) → small xs ≡ true → Below number_limit xs
unfolding small all
small-below [] e = below-nil number_limit (omega arith)
small-below (x ∷ xs) e =
    let (a, b) = both_true (ltb x number_limit) (small xs) e in
    below-cons number_limit x xs (ltb-true x number_limit a) (small-below xs b)

-- ---- rising
pub rise-apart : (x y : ℕ) (xs : List ℕ) → rises (x ∷ y ∷ xs) ≡ true → (x ≤ y) × (rises (y ∷ xs) ≡ true)
unfolding rises neighbours
rise-apart x y xs e = let (a, b) = both_true (leb x y) (rises (y ∷ xs)) e in (leb-true x y a, b)

pub rise-together : (x y : ℕ) (xs : List ℕ) → x ≤ y → rises (y ∷ xs) ≡ true → rises (x ∷ y ∷ xs) ≡ true
unfolding rises neighbours
rise-together x y xs h e = true-both (leb x y) (rises (y ∷ xs)) (le-leb x y h) e

pub rise_one : (x : ℕ) → rises (x ∷ []) ≡ true
unfolding rises neighbours
rise_one x = refl

-- every list that rises, rises after 0
pub rise-zero : (xs : List ℕ) → rises xs ≡ true → rises (0 ∷ xs) ≡ true
rise-zero [] e = rise_one 0
rise-zero (x ∷ xs) e = rise-together 0 x xs (omega arith) e

-- a list that is strict also rises, so that differences serve it
pub strict-rises : (xs : List ℕ) → strict xs ≡ true → rises xs ≡ true
unfolding strict rises neighbours
strict-rises [] e = refl
strict-rises (x ∷ []) e = refl
strict-rises (x ∷ y ∷ xs) e =
    let (a, b) = both_true (ltb x y) (strict (y ∷ xs)) e in
    let above = ltb-true x y a in
    true-both (leb x y) (rises (y ∷ xs)) (le-leb x y (omega arith)) (strict-rises (y ∷ xs) b)

-- and each number of it is below every later one
above-first : (x : ℕ) (xs : List ℕ) → strict (x ∷ xs) ≡ true → (j : ℕ) → j < length xs → x < get_or xs j 0
unfolding strict neighbours
above-first x [] e j h = absurd (omega arith)
above-first x (y ∷ ys) e zero h = ltb-true x y (both_true (ltb x y) (strict (y ∷ ys)) e).0
above-first x (y ∷ ys) e (suc j) h =
    let (a, b) = both_true (ltb x y) (strict (y ∷ ys)) e in
    omega (arith, ltb-true x y a, above-first y ys b j (omega arith))

strict-rest : (x : ℕ) (xs : List ℕ) → strict (x ∷ xs) ≡ true → strict xs ≡ true
unfolding strict neighbours
strict-rest x [] e = refl
strict-rest x (y ∷ ys) e = (both_true (ltb x y) (strict (y ∷ ys)) e).1

pub strict_above : (xs : List ℕ) → strict xs ≡ true → (i j : ℕ) → i < j → j < length xs → get_or xs i 0 < get_or xs j 0
strict_above [] e i j h l = absurd (omega arith)
strict_above (x ∷ xs) e i zero h l = absurd (omega arith)
strict_above (x ∷ xs) e zero (suc j) h l = above-first x xs e j (omega arith)
strict_above (x ∷ xs) e (suc i) (suc j) h l = strict_above xs (strict-rest x xs e) i j (omega arith) (omega arith)

-- ---- kinds
-- what a plan that passes for a kind needs of a list of that kind, in whatever edition
abbrev pub Serves : ℕ → List ℕ → Type 0
Serves kind xs = eqb kind rising ≡ true → rises xs ≡ true

pub kind-serves : (edition kind : ℕ) (xs : List ℕ) → of_kind edition kind xs ≡ true → Serves kind xs
unfolding of_kind
kind-serves edition kind xs e t = by-edition (eqb edition 1) (rw t at e)
  where
    by-edition : (b : Bool) → cond b (rises xs) (strict xs) ≡ true → rises xs ≡ true
    by-edition true q = q
    by-edition false q = strict-rises xs q

-- a list that rises is of its kind in the editions after the first where it is strict
module _ (edition kind : ℕ) (xs : List ℕ) where
  pub of-later : kind ≡ rising → (edition ≡ 1 → ⊥) → {r : Bool} → r ≡ strict xs → r ≡ of_kind edition kind xs
  unfolding of_kind
  of-later h q e = rw (eq-eqb kind rising h, ne_eqb edition 1 q) e
