-- The first numbers of a list, up to the first that is too large.
use Rattle.std.specs.Prelude.{ℕ, suc, ◌≡◌, cond, List, [], ◌∷◌, ltb, take}
use Rattle.std.proofs.lemmas.List.Edits.{sets}
use Rattle.meaning.specs.Limits.{number_limit}

-- how many there are
unfoldable pub first_small : List ℕ → ℕ
first_small [] = 0
first_small (x ∷ xs) = cond (ltb x number_limit) (suc (first_small xs)) 0

-- they were stored from a place on, and r says how many
pub record Stored (xs : List ℕ) (from : ℕ) (work work' : List ℕ) (r : ℕ) : Type 0 where
  pub many : r ≡ first_small xs
  pub here : work' ≡ sets work from (take r xs)
