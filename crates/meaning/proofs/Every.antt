-- A test of all elements, as an iterator's `all` answers it. Assumes nothing.
use Prim.Native.Nat.{ℕ, zero, suc, ◌<◌}
use mathlib.Core.Path.{◌≡◌, refl, ap, ◌∙◌, subst}
use mathlib.Core.Bool.{Bool, true, false, ◌&&◌}
use mathlib.Core.List.{List, [], ◌∷◌}
use native.Mathlib.Omega.{arith}
use lib.ListN.{length, get_or}
use native.Mathlib.Nat.{zero-add}
use Rattle.std.proofs.lemmas.List.{get_or_default}
use Rattle.std.proofs.lemmas.List.FromFn.{get_or-range_with_len, length-range_with_len}
use Rattle.std.specs.Bool.{MatchBool}
use Rattle.std.specs.List.{AllWithin, HoldsAt, range_with_len}
use Rattle.meaning.specs.Lists.{all}

behind : (a b : Bool) → false ≡ b → false ≡ a && b
behind true b h = h
behind false b h = refl

module _ {A : Type 0} (test : A → Bool) where
  -- each holds
  pub all-true : (xs : List A) → AllWithin (λ x. test x ≡ true) xs 0 (length xs) → true ≡ all test xs
  unfolding all
  all-true [] h = refl
  all-true (x ∷ xs) h = rw (h 0 x (omega arith) (omega arith)) (all-true xs (λ k d l m. h (suc k) d (omega arith) (omega arith)))

  -- one does not
  pub all-false : (xs : List A) (k : ℕ) → k < length xs → HoldsAt (λ x. test x ≡ false) xs k → false ≡ all test xs
  unfolding all
  all-false [] k l h = absurd (omega arith)
  all-false (x ∷ xs) zero l h = rw (h x)
  all-false (x ∷ xs) (suc k) l h = behind (test x) (all test xs) (all-false xs k (omega arith) (λ d. h d))

  pub all-told : (xs : List A) (r : Bool)
      → MatchBool r (AllWithin (λ x. test x ≡ true) xs 0 (length xs)) ((k : ℕ) × (k < length xs) × HoldsAt (λ x. test x ≡ false) xs k) → r ≡ all test xs
  all-told xs true h = all-true xs h
  all-told xs false h = all-false xs h.0 h.1 h.2

-- the same, asked by the elements' places
nth : (n k : ℕ) → k < n → get_or (range_with_len 0 n) k 0 ≡ k
nth n k h = get_or-range_with_len 0 n k 0 h ∙ zero-add k

module _ {A : Type 0} (test : A → Bool) (xs : List A) (d : A) where
  abbrev pub Place : Bool → ℕ → Type 0
  Place b k = test (get_or xs k d) ≡ b

  pub all-places : (n : ℕ) (r : Bool) → n ≡ length xs
      → MatchBool r (AllWithin (Place true) (range_with_len 0 n) 0 (length (range_with_len 0 n)))
      ((k : ℕ) × (k < length (range_with_len 0 n)) × HoldsAt (Place false) (range_with_len 0 n) k)
      → r ≡ all test xs
  all-places n true e h =
      all-true test xs
      (λ k z o m.
      ap test (get_or_default xs k z d m) ∙ subst (Place true) (nth n k (omega arith)) (h k 0 o (omega (arith, length-range_with_len 0 n))))
  all-places n false e (k, l, h) =
      let m : k < n = omega (arith, length-range_with_len 0 n) in
      all-false test xs k (omega arith) (λ z. ap test (get_or_default xs k z d (omega arith)) ∙ subst (Place false) (nth n k m) (h 0))
