-- Lists joined from their elements' lists, sums, and tests of all elements. Assumes nothing.
use Prim.Native.Nat.{ℕ, zero, suc, ◌+◌, ◌<◌, ◌≤◌}
use mathlib.Core.Path.{◌≡◌, refl, sym, ap}
use mathlib.Core.Bool.{true}
use mathlib.Core.List.{List, [], ◌∷◌, ◌++◌, append_assoc, append-nil, map}
use native.Mathlib.Nat.{add_assoc}
use native.Mathlib.Numerals.{add-one}
use native.Mathlib.Omega.{arith}
use lib.Dec.{eqb}
use lib.ListN.{length, get_or, take, drop, replicate, drop_of_length-le}
use lib.Seq.{take-suc, drop-cons}
use borrow.Author.Tests.{eqb-true}
use Rattle.meaning.specs.Lists.{all, sum, joined}
use Rattle.meaning.proofs.Tests.{both_true}

module _ {A B : Type 0} (f : A → List B) where
  pub joined-append : (xs ys : List A) → joined f (xs ++ ys) ≡ joined f xs ++ joined f ys
  unfolding joined
  joined-append [] ys = refl
  joined-append (x ∷ xs) ys = rw (joined-append xs ys) (sym (append_assoc (f x) (joined f xs) (joined f ys)))

  pub joined-one : (x : A) → joined f (x ∷ []) ≡ f x
  unfolding joined
  joined-one x = append-nil (f x)

  -- one element more
  pub joined-next : (xs : List A) (d : A) (i : ℕ) → i < length xs → joined f (take (i + 1) xs) ≡ joined f (take i xs) ++ f (get_or xs i d)
  joined-next xs d i h = rw (add-one, take-suc xs i d h, joined-append (take i xs))
      (ap (λ (l : List B). joined f (take i xs) ++ l) (joined-one (get_or xs i d)))

  -- from an element on
  pub joined-rest : (xs : List A) (d : A) (i : ℕ) → i < length xs → joined f (drop i xs) ≡ f (get_or xs i d) ++ joined f (drop (i + 1) xs)
  unfolding joined
  joined-rest xs d i h = rw (add-one, drop-cons xs i d h) refl

  -- past the last
  pub joined-past : (xs : List A) (i : ℕ) → length xs ≤ i → joined f (drop i xs) ≡ []
  unfolding joined
  joined-past xs i h = rw (drop_of_length-le xs h) refl

-- of elements that were made of others
pub joined-map : {A B C : Type 0} (f : B → List C) (g : A → B) (xs : List A) → joined f (map g xs) ≡ joined (λ x. f (g x)) xs
unfolding joined
joined-map f g [] = refl
joined-map f g (x ∷ xs) = ap (λ l. f (g x) ++ l) (joined-map f g xs)

pub sum-append : (xs ys : List ℕ) → sum (xs ++ ys) ≡ sum xs + sum ys
unfolding sum
sum-append [] ys = omega arith
sum-append (x ∷ xs) ys = rw (sum-append xs ys) (sym (add_assoc x (sum xs) (sum ys)))

-- ---- zeros alone
pub all-zeros : (n : ℕ) → all (eqb 0) (replicate n 0) ≡ true
unfolding all
all-zeros zero = refl
all-zeros (suc n) = all-zeros n

pub zeros-all : (l : List ℕ) → all (eqb 0) l ≡ true → l ≡ replicate (length l) 0
unfolding all
zeros-all [] e = refl
zeros-all (x ∷ xs) e =
    let (p, q) = both_true (eqb 0 x) (all (eqb 0) xs) e in
    let z : x ≡ 0 = sym (eqb-true 0 x p) in
    rw z (ap (λ (l : List ℕ). 0 ∷ l) (zeros-all xs q))
