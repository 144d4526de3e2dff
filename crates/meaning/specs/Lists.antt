-- Plain words about lists of numbers.
use Rattle.std.specs.Prelude.{ℕ, ◌+◌, max, Bool, true, not, ◌&&◌, List, [], ◌∷◌, ◌++◌, leb, ltb, eqb}

unfoldable pub all : {A : Type 0} → (A → Bool) → List A → Bool
all test [] = true
all test (x ∷ xs) = test x && all test xs

unfoldable pub sum : List ℕ → ℕ
sum [] = 0
sum (x ∷ xs) = x + sum xs

unfoldable pub largest : List ℕ → ℕ
largest [] = 0
largest (x ∷ xs) = max x (largest xs)

-- the lists of the elements, one after the other
unfoldable pub joined : {A B : Type 0} → (A → List B) → List A → List B
joined f [] = []
joined f (x ∷ xs) = f x ++ joined f xs

-- a test holds of each number and the one before it
unfoldable pub neighbours : (ℕ → ℕ → Bool) → List ℕ → Bool
neighbours test [] = true
neighbours test (x ∷ []) = true
neighbours test (x ∷ y ∷ xs) = test x y && neighbours test (y ∷ xs)

-- no number is below the one before
unfoldable pub rises : List ℕ → Bool
rises xs = neighbours leb xs

-- each number is above the one before
unfoldable pub strict : List ℕ → Bool
strict xs = neighbours ltb xs

-- neighbours differ
unfoldable pub differ : List ℕ → Bool
differ xs = neighbours (λ x y. not (eqb x y)) xs
