-- What opening a reader answers, and where a lookup that gave a number looked. Assumes nothing.
use Rattle.std.specs.Prelude.{true, Result, Ok, Err, is_ok}
use Rattle.meaning.specs.Says.{says}
use Rattle.meaning.specs.declared.Refusal.{Refusal}
use Prim.Native.Nat.{ℕ, ◌≤◌, ◌<◌}
use mathlib.Core.Path.{◌≡◌, sym, ap, ◌∙◌}
use mathlib.Core.List.{List}
use native.Mathlib.Omega.{arith}
use lib.Dec.{ltb}
use borrow.Author.Tests.{ltb-true}
use Rattle.meaning.specs.Answer.{Answer, given, refused, need}
use Rattle.meaning.specs.Limits.{most_numbers, no_place}
use Rattle.meaning.specs.Operations.{column, look_sheet, open_reader}
use Rattle.meaning.specs.Plan.{plan_of}
use Rattle.meaning.specs.Sheet.{Column, column_at}
use Rattle.meaning.specs.Stages.{look}
use Rattle.meaning.proofs.Answers.{bind-given, need-given}
use Rattle.table.proofs.ColumnLaws.{column-there, column-here}
use Rattle.table.proofs.Sounds.{sound-column}

module _ (sheet : List ℕ) (k : ℕ) where
  pub open-there : (c : Column) → column sheet k ≡ given c → open_reader sheet k ≡ given sheet
  unfolding open_reader
  open-there c e = rw e

  pub open-refused : (z : ℕ) → column sheet k ≡ refused z → open_reader sheet k ≡ refused z
  unfolding open_reader
  open-refused z e = rw e

  -- the count of a column that is given
  abbrev count_of : Answer Column → ℕ
  count_of (given c) = c.count
  count_of (refused z) = 0

  pub count-few : (c : Column) → column sheet k ≡ given c → c.count ≤ most_numbers
  count-few c e =
      let here = column-here sheet k c e in
      let same : c.count ≡ (column_at sheet k).count = ap count_of (sym e ∙ column-there sheet k here.sounds here.exists) in
      omega (arith, same, (sound-column sheet here.sounds k here.exists).count)

  -- a place at which a number was found is below 1,024
  pub found_below : (place x : ℕ) → look_sheet sheet k place ≡ given x → place < most_numbers
  unfolding look_sheet
  found_below place x e =
      let looked : Column → Answer ℕ = λ c. look (plan_of c.plan) c.body c.count place in
      let (c, told, e₁) = bind-given (column sheet k) (λ (c : Column). need (ltb place c.count) no_place (looked c)) x e in
      let (below, _) = need-given (ltb place c.count) no_place (looked c) x e₁ in
      omega (arith, ltb-true place c.count below, count-few c told)

  -- and so is one at which a lookup gave something
  pub found-ok : (place : ℕ) (r : Result ℕ Refusal) → says r ≡ look_sheet sheet k place → true ≡ is_ok r → place < most_numbers
  found-ok place (Ok x) e h = found_below place x (sym e)
  found-ok place (Err z) e h = cc
