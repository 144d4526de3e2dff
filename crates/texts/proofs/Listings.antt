-- The lines of a listing, one after the other. Assumes nothing.
use Prim.Native.Nat.{ℕ, ◌+◌, ◌≤◌, ◌<◌}
use mathlib.Core.Path.{◌≡◌, ap}
use mathlib.Core.List.{List, [], ◌∷◌, ◌++◌, map}
use native.Mathlib.Numerals.{add-one}
use lib.ListN.{length, get_or, drop, drop_of_length-le}
use lib.Seq.{drop-cons}
use Rattle.meaning.specs.Lists.{joined}
use Rattle.meaning.specs.Texts.{digits, space, counting}
use Rattle.texts.specs.Listing.{words}
use Rattle.texts.proofs.Putting.{rest-next}

-- ---- the lines from the i-th on, and after the last
module _ {A : Type 0} (lines : ℕ → A → List ℕ) (xs : List A) (i : ℕ) where
  pub counting-next : (d : A) → i < length xs → counting lines i (drop i xs) ≡ lines i (get_or xs i d) ++ counting lines (i + 1) (drop (i + 1) xs)
  unfolding counting
  counting-next d h = rw (add-one, drop-cons xs i d h)

  pub counting-end : length xs ≤ i → counting lines i (drop i xs) ≡ []
  unfolding counting
  counting-end h = ap (counting lines i) (drop_of_length-le xs h)

-- ---- the same of numbers that are words of one line
module _ (bytes : List ℕ) (i : ℕ) where
  pub smalls-next : i < length bytes → words (map digits (drop i bytes)) ≡ (space ∷ digits (get_or bytes i 0)) ++ words (map digits (drop (i + 1) bytes))
  unfolding joined
  smalls-next h = ap (λ (l : List ℕ). words (map digits l)) (rest-next bytes i h)

  pub smalls-end : length bytes ≤ i → words (map digits (drop i bytes)) ≡ []
  unfolding joined
  smalls-end h = ap (λ (l : List ℕ). words (map digits l)) (drop_of_length-le bytes h)
