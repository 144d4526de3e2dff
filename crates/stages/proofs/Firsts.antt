-- The first numbers of a list, up to the first that is too large. Assumes nothing.
use Prim.Native.Nat.{ℕ, zero, suc, ◌≤◌, ◌<◌}
use mathlib.Core.Path.{◌≡◌, refl}
use mathlib.Core.Bool.{Bool, true, false, cond, ◌&&◌}
use mathlib.Core.List.{List, [], ◌∷◌}
use native.Mathlib.Omega.{arith}
use lib.Dec.{ltb}
use lib.ListN.{length, get_or}
use borrow.Author.Tests.{ltb-true, ltb-false}
use Rattle.meaning.specs.Limits.{number_limit}
use Rattle.meaning.specs.Lists.{all}
use Rattle.meaning.specs.Stages.{small}
use Rattle.meaning.proofs.Tests.{by-test}
use Rattle.stages.specs.Firsts.{first_small}

pub first-most : (xs : List ℕ) → first_small xs ≤ length xs
unfolding first_small
first-most [] = omega arith
first-most (x ∷ xs) = go (first-most xs) (ltb x number_limit)
  where
    go : first_small xs ≤ length xs → (b : Bool) → cond b (suc (first_small xs)) 0 ≤ suc (length xs)
    go m true = omega arith
    go m false = omega arith

-- none is too large, or one is
pub all_small : (xs : List ℕ) → length xs ≤ first_small xs → small xs ≡ true
unfolding small all first_small
all_small [] h = refl
all_small (x ∷ xs) h = go (all_small xs) (ltb x number_limit) h
  where
    go : (length xs ≤ first_small xs → small xs ≡ true) → (b : Bool) → suc (length xs) ≤ cond b (suc (first_small xs)) 0 → b && small xs ≡ true
    go f true h = f (omega arith)
    go f false h = absurd (omega arith)

pub one-large : (xs : List ℕ) → first_small xs < length xs → small xs ≡ false
unfolding small all first_small
one-large [] h = absurd (omega arith)
one-large (x ∷ xs) h = go (one-large xs) (ltb x number_limit) h
  where
    go : (first_small xs < length xs → small xs ≡ false) → (b : Bool) → cond b (suc (first_small xs)) 0 < suc (length xs) → b && small xs ≡ false
    go f true h = f (omega arith)
    go f false h = refl

pub first-small : (xs : List ℕ) (i : ℕ) → i < first_small xs → get_or xs i 0 < number_limit
unfolding first_small
first-small [] i h = absurd (omega arith)
first-small (x ∷ xs) zero h = by-test (ltb x number_limit) (λ t. ltb-true x number_limit t) (λ t. absurd (none (rw t at h)))
  where
    none : zero < 0 → ⊥
    none h = omega arith
first-small (x ∷ xs) (suc i) h = by-test (ltb x number_limit) (λ t. first-small xs i (less (rw t at h))) (λ t. absurd (none (rw t at h)))
  where
    none : suc i < 0 → ⊥
    none h = omega arith

    less : suc i < suc (first_small xs) → i < first_small xs
    less h = omega arith

pub first-large : (xs : List ℕ) → first_small xs < length xs → number_limit ≤ get_or xs (first_small xs) 0
unfolding first_small
first-large [] h = absurd (omega arith)
first-large (x ∷ xs) h = by-test (ltb x number_limit) (λ t. rw t (first-large xs (rest (rw t at h)))) (λ t. rw t (ltb-false x number_limit t))
  where
    rest : suc (first_small xs) < suc (length xs) → first_small xs < length xs
    rest h = omega arith
