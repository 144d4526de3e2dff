-- Runs of stores, `sets l a vs`: what is stored past the end is dropped, so none of these asks for room but where a part is read back. Assumes nothing.
use borrow.Rule.Slice.PartMut.{put_mid}
use mathlib.Core.Path.{◌≡◌, refl, sym, ap, ap₂, ◌∙◌}
use Prim.Native.Nat.{ℕ, zero, suc, ◌+◌, ◌≤◌, ◌<◌}
use native.Mathlib.Nat.{add-zero, add-suc, suc-add}
use native.Mathlib.Omega.{arith}
use mathlib.Core.List.{List, [], ◌∷◌, ◌++◌, append_assoc}
use lib.ListN.{length, get_or, take, drop, set}
use lib.Seq.{sets, sets-eq, set_out, get_or-set_other, take-set-le, set_comm, take_at, drop_at, length-take-le, take-take, take-add, drop-drop}

module _ {A : Type 0} where
  pub sets-append : (vs ws l : List A) (a : ℕ) → sets (sets l a vs) (a + length vs) ws ≡ sets l a (vs ++ ws)
  sets-append [] ws l a = rw add-zero
  sets-append (v ∷ vs) ws l a = rw (add-suc, ← (suc-add a (length vs))) (sets-append vs ws (set l a v) (suc a))

  pub sets-snoc : (vs : List A) (v : A) (l : List A) (a : ℕ) → set (sets l a vs) (a + length vs) v ≡ sets l a (vs ++ (v ∷ []))
  sets-snoc vs v l a = sets-append vs (v ∷ []) l a

  -- past the end nothing is stored
  pub sets-past : (vs l : List A) (a : ℕ) → length l ≤ a → sets l a vs ≡ l
  sets-past [] l a h = refl
  sets-past (v ∷ vs) l a h = ap (λ (m : List A). sets m (suc a) vs) (set_out l a v h) ∙ sets-past vs l (suc a) (omega arith)

  pub take-sets : (vs l : List A) (k a : ℕ) → k ≤ a → take k (sets l a vs) ≡ take k l
  take-sets [] l k a h = refl
  take-sets (v ∷ vs) l k a h = take-sets vs (set l a v) k (suc a) (omega arith) ∙ take-set-le k l a v h

  pub get_d_sets : (vs l : List A) (i a : ℕ) (d : A) → i < a → get_or (sets l a vs) i d ≡ get_or l i d
  get_d_sets [] l i a d h = refl
  get_d_sets (v ∷ vs) l i a d h = get_d_sets vs (set l a v) i (suc a) d (omega arith) ∙ get_or-set_other l a i v d (λ e. omega arith)

  -- one store before a run of stores
  pub set-sets : (ws l : List A) (i j : ℕ) (v : A) → i < j → set (sets l j ws) i v ≡ sets (set l i v) j ws
  set-sets [] l i j v h = refl
  set-sets (w ∷ ws) l i j v h =
      set-sets ws (set l j w) i (suc j) v (omega arith) ∙ ap (λ (m : List A). sets m (suc j) ws) (set_comm l j i w v (λ e. omega arith))

  -- two runs of stores that do not meet
  pub sets-swap : (vs ws l : List A) (i j : ℕ) → i + length vs ≤ j → sets (sets l j ws) i vs ≡ sets (sets l i vs) j ws
  sets-swap [] ws l i j h = refl
  sets-swap (v ∷ vs) ws l i j h =
      ap (λ (m : List A). sets m (suc i) vs) (set-sets ws l i j v (omega arith)) ∙ sets-swap vs ws (set l i v) (suc i) j (omega arith)

  -- what was stored is read back where it fits
  pub part-sets : (vs l : List A) (a : ℕ) → a + length vs ≤ length l → take (length vs) (drop a (sets l a vs)) ≡ vs
  part-sets vs l a h =
      ap (λ (m : List A). take (length vs) (drop a m)) (sets-eq vs l a h ∙ append_assoc (take a l) vs (drop (a + length vs) l))
      ∙ ap (take (length vs)) (drop_at (take a l) (vs ++ drop (a + length vs) l) a (length-take-le a l (omega arith)))
      ∙ take_at vs (drop (a + length vs) l) (length vs) refl

  cut : (l : List A) (a k m : ℕ) → a + k ≤ m → take k (drop a l) ≡ take k (drop a (take m l))
  cut l zero k m h = sym (take-take k m l (omega arith))
  cut [] (suc a) k zero h = refl
  cut [] (suc a) k (suc m) h = refl
  cut (x ∷ l) (suc a) k zero h = absurd (omega arith)
  cut (x ∷ l) (suc a) k (suc m) h = cut l a k m (omega arith)

  -- a part of two lists that agree up to its end
  pub part_same : (v w : List A) (a k m : ℕ) → a + k ≤ m → take m v ≡ take m w → take k (drop a v) ≡ take k (drop a w)
  part_same v w a k m h e = cut v a k m h ∙ ap (λ (l : List A). take k (drop a l)) e ∙ sym (cut w a k m h)

  -- past what was stored
  pub get_d_past : (vs l : List A) (a i : ℕ) (d : A) → a + length vs ≤ i → get_or (sets l a vs) i d ≡ get_or l i d
  get_d_past [] l a i d h = refl
  get_d_past (v ∷ vs) l a i d h = get_d_past vs (set l a v) (suc a) i d (omega arith) ∙ get_or-set_other l a i v d (λ e. omega arith)

  -- one more run of stores after i elements: the part that stands so far, and what is before it
  pub part-more : (ys w : List A) (from i : ℕ) → from + i + length ys ≤ length w
      → take (i + length ys) (drop from (sets w (from + i) ys)) ≡ take i (drop from w) ++ ys
  part-more ys w from i h =
      let w' = sets w (from + i) ys in
      take-add i (length ys) (drop from w')
      ∙ ap₂ ◌++◌ (part_same w' w from i (from + i) (omega arith) (take-sets ys w (from + i) (from + i) (omega arith)))
      (ap (take (length ys)) (drop-drop i from w') ∙ part-sets ys w (from + i) h)

-- what a write to the part of a slice from a place on leaves in the whole
pub mid-sets : {A : Type 0} (xs ys : List A) (a k : ℕ) → length ys ≡ k → a + k ≤ length xs → put_mid a k xs ys ≡ sets xs a ys
mid-sets xs ys a k n h =
    let e : drop k (drop a xs) ≡ drop (a + length ys) xs = rw n (drop-drop k a xs) in
    rw (e, ← append_assoc) (sym (sets-eq ys xs a (omega arith)))
