-- The first so many of a list, zeros past its end. Assumes nothing.
use mathlib.Core.Path.{◌≡◌, refl, sym, ap, ap₂, ◌∙◌}
use Prim.Native.Nat.{ℕ, zero, suc, ◌+◌, ◌≤◌}
use native.Mathlib.Nat.{add-zero, suc-add, zero-add}
use native.Mathlib.Omega.{arith}
use mathlib.Core.List.{List, [], ◌∷◌, ◌++◌, append-nil}
use lib.ListN.{length, get_or, take, drop, replicate}
use lib.Seq.{take_at, drop_at, get_or-drop, drop-drop}
use Rattle.meaning.specs.Places.{Below}
use Rattle.elias.specs.Padded.{padded}

pub padded-length : (n : ℕ) (l : List ℕ) → length (padded n l) ≡ n
unfolding padded
padded-length zero l = refl
padded-length (suc n) [] = ap suc (padded-length n [])
padded-length (suc n) (x ∷ xs) = ap suc (padded-length n xs)

pub padded-below : (m n : ℕ) (l : List ℕ) → Below m l → Below m (padded n l)
unfolding padded
padded-below m zero l h i = omega (arith, h 0)
padded-below m (suc n) [] h zero = h 0
padded-below m (suc n) [] h (suc i) = padded-below m n [] h i
padded-below m (suc n) (x ∷ xs) h zero = h 0
padded-below m (suc n) (x ∷ xs) h (suc i) = padded-below m n xs (λ j. h (suc j)) i

padded-none : (n : ℕ) → padded n [] ≡ replicate n 0
unfolding padded
padded-none zero = refl
padded-none (suc n) = ap (λ (l : List ℕ). 0 ∷ l) (padded-none n)

pub padded-append : (a l : List ℕ) (n : ℕ) → padded (length a + n) (a ++ l) ≡ a ++ padded n l
unfolding padded
padded-append [] l n = ap (λ (k : ℕ). padded k l) (zero-add n)
padded-append (x ∷ a) l n = rw (suc-add (length a) n) (ap (λ (r : List ℕ). x ∷ r) (padded-append a l n))

pub padded-whole : (l : List ℕ) (n : ℕ) → padded (length l + n) l ≡ l ++ replicate n 0
padded-whole l n =
    ap (padded (length l + n)) (sym (append-nil l)) ∙ padded-append l [] n ∙ ap (λ (r : List ℕ). l ++ r) (padded-none n)

-- ---- in two parts
pub padded-add : (m n : ℕ) (l : List ℕ) → padded (m + n) l ≡ padded m l ++ padded n (drop m l)
unfolding padded
padded-add zero n l = ap (λ (k : ℕ). padded k l) (zero-add n)
padded-add (suc m) n [] = rw (suc-add m n) (ap (λ (r : List ℕ). 0 ∷ r) (padded-add m n [] ∙ none m n))
  where
    none : (i j : ℕ) → padded i [] ++ padded j (drop i []) ≡ padded i [] ++ padded j []
    none zero j = refl
    none (suc i) j = refl
padded-add (suc m) n (x ∷ xs) = rw (suc-add m n) (ap (λ (r : List ℕ). x ∷ r) (padded-add m n xs))

pub padded-take : (m n : ℕ) (l : List ℕ) → take m (padded (m + n) l) ≡ padded m l
padded-take m n l = ap (take m) (padded-add m n l) ∙ take_at (padded m l) (padded n (drop m l)) m (padded-length m l)

pub padded-drop : (m n : ℕ) (l : List ℕ) → drop m (padded (m + n) l) ≡ padded n (drop m l)
padded-drop m n l = ap (drop m) (padded-add m n l) ∙ drop_at (padded m l) (padded n (drop m l)) m (padded-length m l)

-- where so many are there
pub padded-there : (n : ℕ) (l : List ℕ) → n ≤ length l → padded n l ≡ take n l
unfolding padded
padded-there zero l h = refl
padded-there (suc n) [] h = absurd (omega arith)
padded-there (suc n) (x ∷ xs) h = ap (λ (r : List ℕ). x ∷ r) (padded-there n xs (omega arith))

-- ---- one by one
padded-next : (n : ℕ) (l : List ℕ) → padded (suc n) l ≡ get_or l 0 0 ∷ padded n (drop 1 l)
unfolding padded
padded-next n [] = refl
padded-next n (x ∷ xs) = refl

padded-from : (n k i : ℕ) (l : List ℕ) → padded (suc n) (drop (k + i) l) ≡ get_or l (k + i) 0 ∷ padded n (drop (k + suc i) l)
padded-from n k i l =
    padded-next n (drop (k + i) l)
    ∙ ap₂ (λ (x : ℕ) (r : List ℕ). x ∷ padded n r) (get_or-drop (k + i) l 0 0 ∙ ap (λ (j : ℕ). get_or l j 0) (add-zero (k + i)))
    (drop-drop 1 (k + i) l ∙ ap (λ (j : ℕ). drop j l) (further k i))
  where
    further : (a b : ℕ) → a + b + 1 ≡ a + suc b
    further a b = omega arith

-- eight from a place on
pub padded-eight : (k : ℕ) (l : List ℕ) → padded 8 (drop k l)
    ≡ get_or l k 0 ∷ get_or l (k + 1) 0 ∷ get_or l (k + 2) 0 ∷ get_or l (k + 3) 0 ∷ get_or l (k + 4) 0
    ∷ get_or l (k + 5) 0 ∷ get_or l (k + 6) 0 ∷ get_or l (k + 7) 0 ∷ []
unfolding padded
padded-eight k l =
    let first : padded 8 (drop k l) ≡ get_or l k 0 ∷ padded 7 (drop (k + 1) l) = rw (add-zero k) at (padded-from 7 k 0 l) in
    rw (first, padded-from 6 k 1 l, padded-from 5 k 2 l, padded-from 4 k 3 l)
    (rw (padded-from 3 k 4 l, padded-from 2 k 5 l, padded-from 1 k 6 l, padded-from 0 k 7 l))
