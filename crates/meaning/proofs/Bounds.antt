-- Lists whose elements are all below a bound. Assumes nothing.
use Prim.Native.Nat.{ℕ, zero, suc, ◌+◌, ◌<◌}
use mathlib.Core.List.{List, [], ◌∷◌, ◌++◌}
use native.Mathlib.Omega.{arith}
use lib.ListN.{take, drop, replicate}
use lib.Seq.{get_or-drop}
use Rattle.meaning.specs.Places.{Below}

pub below-nil : (m : ℕ) → 0 < m → Below m []
below-nil m h i = h

pub below-cons : (m x : ℕ) (xs : List ℕ) → x < m → Below m xs → Below m (x ∷ xs)
below-cons m x xs h k zero = h
below-cons m x xs h k (suc i) = k i

pub below-drop : (m n : ℕ) (xs : List ℕ) → Below m xs → Below m (drop n xs)
below-drop m n xs h i = rw get_or-drop (h (n + i))

pub below-append : (m : ℕ) (xs ys : List ℕ) → Below m xs → Below m ys → Below m (xs ++ ys)
below-append m [] ys h k i = k i
below-append m (x ∷ xs) ys h k zero = h 0
below-append m (x ∷ xs) ys h k (suc i) = below-append m xs ys (λ j. h (suc j)) k i

pub below_left : (m : ℕ) (xs ys : List ℕ) → Below m (xs ++ ys) → Below m xs
below_left m [] ys h i = omega (arith, h 0)
below_left m (x ∷ xs) ys h zero = h 0
below_left m (x ∷ xs) ys h (suc i) = below_left m xs ys (λ j. h (suc j)) i

pub below_right : (m : ℕ) (xs ys : List ℕ) → Below m (xs ++ ys) → Below m ys
below_right m [] ys h i = h i
below_right m (x ∷ xs) ys h i = below_right m xs ys (λ j. h (suc j)) i

pub below-take : (m n : ℕ) (xs : List ℕ) → Below m xs → Below m (take n xs)
below-take m zero xs h i = omega (arith, h 0)
below-take m (suc n) [] h i = h i
below-take m (suc n) (x ∷ xs) h zero = h 0
below-take m (suc n) (x ∷ xs) h (suc i) = below-take m n xs (λ j. h (suc j)) i

pub below-zeros : (m n : ℕ) → 0 < m → Below m (replicate n 0)
below-zeros m zero h i = h
below-zeros m (suc n) h zero = h
below-zeros m (suc n) h (suc i) = below-zeros m n h i
