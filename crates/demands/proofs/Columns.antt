-- A sheet that was written holds the columns that it was written from. Assumes nothing.
use Prim.Native.Nat.{ℕ, zero, suc, ◌+◌, ◌<◌}
use mathlib.Core.Path.{◌≡◌, refl, ap, ◌∙◌}
use mathlib.Core.List.{List, [], ◌∷◌, map}
use native.Mathlib.Omega.{arith}
use lib.ListN.{length, get_or}
use Rattle.meaning.specs.Limits.{number_limit, plan_bytes}
use Rattle.meaning.specs.Lists.{joined}
use Rattle.meaning.specs.Sheet.{Listed, body_of, Column, column_for, sheet_bytes, columns_of, table_size}
use Rattle.leaves.proofs.Joined.{joined-map}
use Rattle.table.proofs.Assembled.{Entered, AllEntered, columns-forth, assembled-long}
use Rattle.writer.specs.Orders.{blank_listed}

-- a column whose plan has 15 bytes, and whose count and body length are numbers
pub record Fits (l : Listed) : Type 0 where
  pub planned : length l.plan ≡ plan_bytes
  pub few : length l.numbers < number_limit
  pub short : length (body_of l) < number_limit

-- each of a list of columns
abbrev pub AllFit : List Listed → Type 0
AllFit ls = (k : ℕ) → k < length ls → Fits (get_or ls k blank_listed)

entered : (edition : ℕ) (l : Listed) → Fits l → Entered edition (column_for edition l)
entered edition l fit = record { made = refl; sized = record { planned = fit.planned; counted = fit.few; short = fit.short }; whole = refl }

all-entered : (edition : ℕ) (ls : List Listed) → AllFit ls → AllEntered edition (map (column_for edition) ls)
all-entered edition [] fit k h = absurd (omega arith)
all-entered edition (l ∷ ls) fit zero h = entered edition l (fit 0 (omega arith))
all-entered edition (l ∷ ls) fit (suc k) h = all-entered edition ls (λ (j : ℕ) (i : j < length ls). fit (suc j) (omega arith)) k (omega arith)

module _ (edition : ℕ) (ls : List Listed) (fit : AllFit ls) where
  pub written-columns : columns_of (sheet_bytes edition ls) ≡ map (column_for edition) ls
  unfolding sheet_bytes
  written-columns = columns-forth edition (map (column_for edition) ls) (all-entered edition ls fit)

  pub written-size : length (sheet_bytes edition ls) ≡ table_size (sheet_bytes edition ls) + length (joined body_of ls)
  unfolding sheet_bytes
  written-size =
      assembled-long edition (map (column_for edition) ls) (all-entered edition ls fit)
      ∙ ap (λ (l : List ℕ). table_size (sheet_bytes edition ls) + length l) (joined-map (λ (c : Column). c.body) (column_for edition) ls)
