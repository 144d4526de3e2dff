-- The parts of a listing that its functions put, and what it asks of its slices.
use Rattle.std.specs.Prelude.{ℕ, ◌<◌, ◌≡◌, List, [], ◌∷◌, ◌++◌}
use Rattle.meaning.specs.Answer.{passed}
use Rattle.meaning.specs.Limits.{most_numbers}
use Rattle.meaning.specs.Lists.{joined}
use Rattle.meaning.specs.Operations.{check}
use Rattle.meaning.specs.Sheet.{column_count}
use Rattle.meaning.specs.Texts.{text, digits, line_feed, space, kind_text, all_work}

-- a line's words after the first, each behind a space
abbrev pub words : List (List ℕ) → List ℕ
words ws = joined (λ w. space ∷ w) ws

-- a column's line up to its plan
unfoldable pub named : ℕ → ℕ → List ℕ
named k kind = text "column" ++ words (digits k ∷ kind_text kind ∷ text "plan" ∷ [])

-- and after it
unfoldable pub sized : ℕ → ℕ → List ℕ
sized count size = words (text "count" ∷ digits count ∷ text "bytes" ∷ digits size ∷ []) ++ (line_feed ∷ [])

-- a sheet that passes the check, the work of a program, and a list for every count
pub record Passing (sheet : List ℕ) (work list : ℕ) : Type 0 where
  pub passes : check sheet all_work ≡ passed
  pub works : work ≡ all_work
  pub lists : list ≡ most_numbers

-- and one of its columns
pub record Listable (sheet : List ℕ) (k work list : ℕ) : Type 0 where
  pub passing : Passing sheet work list
  pub exists : k < column_count sheet
