-- In a sheet that passes the check every column is read whole and is of its kind, and a lookup at each of its places gives the number there.
-- Assumes only the laws of the codes.
use Prim.Native.Nat.{ℕ, ◌*◌, ◌≤◌, ◌<◌}
use mathlib.Core.Path.{◌≡◌, refl, sym, ap, ◌∙◌, subst}
use mathlib.Core.Bool.{true}
use mathlib.Core.List.{List}
use native.Mathlib.Omega.{arith}
use lib.ListN.{length, get_or, drop}
use Rattle.meaning.specs.Answer.{given, list, passed}
use Rattle.meaning.specs.Limits.{rising}
use Rattle.meaning.specs.Operations.{check, column, read_sheet, look_sheet, numbers_at}
use Rattle.meaning.specs.Places.{Below}
use Rattle.meaning.specs.Plan.{plan_of}
use Rattle.meaning.specs.Sheet.{of_kind, edition_of, column_at, read_column, column_count}
use Rattle.meaning.proofs.Bounds.{below-take, below-drop}
use Rattle.stages.proofs.Lists.{strict_above, of-later}
use Rattle.stages.proofs.Looks.{looks}
use Rattle.table.specs.Offsets.{size_at, body_offset}
use Rattle.table.proofs.ColumnLaws.{column-there}
use Rattle.table.proofs.Columns.{edition-is, body_is}
use Rattle.sheet.proofs.Checks.{check-passed, column-passed}
use Rattle.sheet.proofs.LookSheets.{look-there}
use Rattle.sheet.proofs.ReadColumns.{column-given, column-many}
use Rattle.sheet.proofs.ReadSheets.{read_all}
use Rattle.codes.proofs.Numbered.{laws}

-- a sheet of bytes that passed the check with some work, and one of its columns
module _ (sheet : List ℕ) (bytes : Below 256 sheet) (work : ℕ) (passes : check sheet work ≡ passed) (k : ℕ) (there : k < column_count sheet) where
  found : column sheet k ≡ given (column_at sheet k)
  found = column-there sheet k (check-passed sheet work passes).ready.sounds there

  pub body_bytes : Below 256 (column_at sheet k).body
  body_bytes =
      subst (Below 256) (sym (body_is sheet k there))
      (below-take 256 (size_at sheet k) (drop (body_offset sheet k) sheet) (below-drop 256 (body_offset sheet k) sheet bytes))

  pub numbers-read : read_column (column_at sheet k) ≡ given (numbers_at sheet k)
  unfolding numbers_at
  numbers-read = let (xs, e) = column-passed sheet work passes k there in e ∙ ap (λ (l : List ℕ). given l) (sym (ap list e))

  pub numbers-many : length (numbers_at sheet k) ≡ (column_at sheet k).count
  numbers-many = (column-many (column_at sheet k) (numbers_at sheet k) body_bytes numbers-read).1

  -- the list is of the declared kind, by the sheet's edition
  pub numbers-kind : of_kind (edition_of sheet) (column_at sheet k).kind (numbers_at sheet k) ≡ true
  numbers-kind =
      subst (λ (e : ℕ). of_kind e (column_at sheet k).kind (numbers_at sheet k) ≡ true) (edition-is sheet k there)
      (column-given (column_at sheet k) (numbers_at sheet k) numbers-read).1

  -- so that from edition 2 on no number of kind 1 stands twice: each is below all that come after it
  pub none-twice : 1 < edition_of sheet → (column_at sheet k).kind ≡ rising
      → (i j : ℕ) → i < j → j < length (numbers_at sheet k) → get_or (numbers_at sheet k) i 0 < get_or (numbers_at sheet k) j 0
  none-twice later kind =
      let strictly = of-later (edition_of sheet) (column_at sheet k).kind (numbers_at sheet k) kind (λ e. omega arith) refl ∙ numbers-kind in
      strict_above (numbers_at sheet k) strictly

  pub reads_all : (w room : ℕ) → 7 * (column_at sheet k).count ≤ w → (column_at sheet k).count ≤ room → read_sheet sheet k w room ≡ given (numbers_at sheet k)
  reads_all w room h l = read_all sheet k w room (column_at sheet k) found h l ∙ numbers-read

  pub looks-all : (place : ℕ) → place < (column_at sheet k).count → look_sheet sheet k place ≡ given (get_or (numbers_at sheet k) place 0)
  looks-all place h =
      look-there sheet k place (column_at sheet k) found h
      ∙ looks laws (plan_of (column_at sheet k).plan) (column_at sheet k).body (column_at sheet k).count (numbers_at sheet k) body_bytes
      (column-many (column_at sheet k) (numbers_at sheet k) body_bytes numbers-read).0 place (omega (arith, numbers-many))
