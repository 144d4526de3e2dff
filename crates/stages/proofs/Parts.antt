-- Parts of slices: n numbers from a place on, number by number, and a body from an offset on. Assumes nothing.
use Prim.Native.Nat.{ℕ, ◌+◌, ◌-◌, ◌≤◌, ◌<◌}
use mathlib.Core.Path.{◌≡◌, sym, ap, ◌∙◌}
use mathlib.Core.List.{List, [], ◌∷◌, ◌++◌}
use native.Mathlib.Nat.{add-zero}
use native.Mathlib.Numerals.{add-one}
use native.Mathlib.Omega.{arith}
use lib.ListN.{length, get_or, take, drop, set, length-take, length-drop, drop_of_length-le}
use lib.Seq.{sets, length-take-le, take_all, take-take, take-suc, drop-cons, get_or-take, get_or-drop}
use Rattle.meaning.specs.Places.{Below, part}
use Rattle.meaning.proofs.Bounds.{below-take, below-drop}
use Rattle.meaning.proofs.Stores.{sets-snoc, part-sets}
use Rattle.leaves.proofs.Parts.{part_length}

module _ (w : List ℕ) (from n : ℕ) where
  pub part_at : from + n ≤ length w → (i : ℕ) → i < n → drop i (part w from n) ≡ get_or w (from + i) 0 ∷ drop (i + 1) (part w from n)
  part_at h i k =
      drop-cons (part w from n) i 0 (omega (arith, part_length w from n h))
      ∙ rw (get_or-take n (drop from w) i 0 k, get_or-drop from w i 0, add-one)

  pub part-first : from + n ≤ length w → (n ≡ 0 → ⊥) → part w from n ≡ get_or w from 0 ∷ drop 1 (part w from n)
  part-first h k = part_at h 0 (omega arith) ∙ rw add-zero

  pub part_end : (i : ℕ) → n ≤ i → drop i (part w from n) ≡ []
  part_end i h = drop_of_length-le (part w from n) {i = i} (omega (arith, length-take n (drop from w)))

  pub part-get : (i : ℕ) → i < n → get_or (part w from n) i 0 ≡ get_or w (from + i) 0
  part-get i h = get_or-take n (drop from w) i 0 h ∙ get_or-drop from w i 0

-- a part as a slice of the code lends it
pub part-lent : (w : List ℕ) (from k : ℕ) → part w from (from + k - from) ≡ part w from k
part-lent w from k = let e : from + k - from ≡ k = omega arith in rw e

-- one number more of a list is stored
pub stored_next : (xs w : List ℕ) (from i : ℕ) → i < length xs → set (sets w from (take i xs)) (from + i) (get_or xs i 0) ≡ sets w from (take (i + 1) xs)
stored_next xs w from i h =
    let many : length (take i xs) ≡ i = length-take-le i xs (omega arith) in
    let more : take (i + 1) xs ≡ take i xs ++ (get_or xs i 0 ∷ []) = rw (add-one, take-suc xs i 0 h) in
    ap (λ (k : ℕ). set (sets w from (take i xs)) (from + k) (get_or xs i 0)) (sym many)
    ∙ sets-snoc (take i xs) (get_or xs i 0) w from
    ∙ ap (sets w from) (sym more)

-- what was stored stands there
pub stored-get : (xs w : List ℕ) (from i : ℕ) → from + length xs ≤ length w → i < length xs → get_or (sets w from xs) (from + i) 0 ≡ get_or xs i 0
stored-get xs w from i room h = sym (part-get (sets w from xs) from (length xs) i h) ∙ ap (λ (l : List ℕ). get_or l i 0) (part-sets xs w from room)

-- two lists that agree up to a place agree up to one before
pub shorter : (k m : ℕ) (v w : List ℕ) → k ≤ m → take m v ≡ take m w → take k v ≡ take k w
shorter k m v w h e = sym (take-take k m v h) ∙ ap (take k) e ∙ take-take k m w h

-- a part of a body as the code lends it
module _ (body : List ℕ) (a : ℕ) where
  pub to_the_end : take (length body - a) (drop a body) ≡ drop a body
  to_the_end = take_all (length body - a) (drop a body) (omega (arith, length-drop a body))

  pub part-short : (k : ℕ) → length (take k (drop a body)) ≤ length body
  part-short k = omega (arith, length-take k (drop a body), length-drop a body)

  pub part-below : (k : ℕ) {m : ℕ} → Below m body → Below m (take k (drop a body))
  part-below k {m} h = below-take m k (drop a body) (below-drop m a body h)
