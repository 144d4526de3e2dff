-- What a sound sheet says of itself and of its columns. Assumes nothing.
use Prim.Native.Nat.{ℕ, suc, ◌+◌, ◌≤◌, ◌<◌}
use mathlib.Core.Path.{◌≡◌, refl, sym, ap, ◌∙◌}
use mathlib.Core.Bool.{Bool, true, false}
use mathlib.Core.List.{List, map}
use native.Mathlib.Omega.{arith}
use lib.Dec.{leb}
use lib.ListN.{length, drop, length-drop}
use lib.Seq.{length-take-le}
use borrow.Author.Tests.{leb-true, eqb-true}
use Rattle.meaning.specs.Answer.{given, Verdict, passed, blamed, ◌then◌, ask, in_turn}
use Rattle.meaning.specs.Limits.{most_columns, most_numbers, most_bytes, rising, no_sheet, bad_table, bad_plan, unfit_plan}
use Rattle.meaning.specs.Lists.{all, sum}
use Rattle.meaning.specs.Plan.{plan_of, well_formed, passes, judge_plan}
use Rattle.meaning.specs.Sheet.{edition_of, table_size, columns_of, column_at, is_edition, is_sheet, table_holds, sound, column_count}
use Rattle.meaning.proofs.Answers.{need-given}
use Rattle.meaning.proofs.Tests.{both_true}
use Rattle.table.specs.Offsets.{size_at, sizes_before, body_offset, blank_column}
use Rattle.table.specs.Rules.{entry_holds, plan_judged}
use Rattle.table.proofs.Columns.{column-count, size_is, body_is, sizes-all, sizes-rise}
use Rattle.table.proofs.InTurn.{not-passed, each-passed}
use Rattle.table.proofs.Lists.{each_holds}

-- ---- verdicts that passed
pub ask-passed : (t : Bool) (e : ℕ) → ask t e ≡ passed → t ≡ true
ask-passed true e p = refl
ask-passed false e p = absurd (not-passed e 0 p)

pub then-passed : (v w : Verdict) → v then w ≡ passed → (v ≡ passed) × (w ≡ passed)
then-passed passed w p = (refl, p)
then-passed (blamed e k) w p = absurd (not-passed e k p)

-- ---- the sheet
-- from 2 to 65,536 bytes, byte 0 is 1 or 2, at most 16 columns
pub record IsSheet (sheet : List ℕ) : Type 0 where
  pub least : 2 ≤ length sheet
  pub most : length sheet ≤ most_bytes
  pub edition : is_edition (edition_of sheet) ≡ true
  pub few : column_count sheet ≤ most_columns

-- the three tests that a sound sheet passes
pub record Parts (sheet : List ℕ) : Type 0 where
  pub first : is_sheet sheet ≡ true
  pub second : table_holds sheet ≡ true
  pub plans : in_turn plan_judged 0 (columns_of sheet) ≡ passed

-- the table is whole, kinds are at most 1, counts at most 1,024, and the body lengths fill the rest
pub record Holds (sheet : List ℕ) : Type 0 where
  pub whole : table_size sheet ≤ length sheet
  pub entries : all entry_holds (columns_of sheet) ≡ true
  pub filled : body_offset sheet (column_count sheet) ≡ length sheet

module _ (sheet : List ℕ) where
  pub is-sheet : is_sheet sheet ≡ true → IsSheet sheet
  unfolding is_sheet
  is-sheet e =
      let (a, e₁) = both_true (leb 2 (length sheet)) _ e in
      let (b, e₂) = both_true (leb (length sheet) most_bytes) _ e₁ in
      let (c, d) = both_true (is_edition (edition_of sheet)) (leb (column_count sheet) most_columns) e₂ in
      record {
        least = leb-true 2 (length sheet) a;
        most = leb-true (length sheet) most_bytes b;
        edition = c;
        few = leb-true (column_count sheet) most_columns d;
      }

  pub holds : table_holds sheet ≡ true → Holds sheet
  unfolding table_holds
  holds e =
      let sizes = sum (map (λ c. c.size) (columns_of sheet)) in
      let (a, e₁) = both_true (leb (table_size sheet) (length sheet)) _ e in
      let (b, c) = both_true (all entry_holds (columns_of sheet)) _ e₁ in
      record {
        whole = leb-true (table_size sheet) (length sheet) a;
        entries = b;
        filled = ap (λ (k : ℕ). table_size sheet + k) (sym (sizes-all sheet)) ∙ eqb-true (table_size sheet + sizes) (length sheet) c;
      }

  pub parts : sound sheet ≡ passed → Parts sheet
  unfolding sound
  parts e =
      let (a, e₁) = then-passed (ask (is_sheet sheet) _) _ e in
      let (b, c) = then-passed (ask (table_holds sheet) _) (in_turn plan_judged 0 (columns_of sheet)) e₁ in
      record { first = ask-passed (is_sheet sheet) _ a; second = ask-passed (table_holds sheet) _ b; plans = c }

  -- ---- the verdict, by the three tests in their order
  pub refused-sheet : is_sheet sheet ≡ false → sound sheet ≡ blamed no_sheet 0
  unfolding sound
  refused-sheet e = rw e

  pub refused-table : is_sheet sheet ≡ true → table_holds sheet ≡ false → sound sheet ≡ blamed bad_table 0
  unfolding sound
  refused-table e f = rw (e, f)

  pub by-plans : is_sheet sheet ≡ true → table_holds sheet ≡ true → sound sheet ≡ in_turn plan_judged 0 (columns_of sheet)
  unfolding sound
  by-plans e f = rw (e, f)

-- ---- its columns
-- what a sound sheet says of column k
pub record ColumnHolds (sheet : List ℕ) (k : ℕ) : Type 0 where
  pub kind : (column_at sheet k).kind ≤ rising
  pub count : (column_at sheet k).count ≤ most_numbers
  pub judged : judge_plan (column_at sheet k).kind (column_at sheet k).plan ≡ given tt
  pub formed : well_formed (column_at sheet k).plan ≡ true
  pub passed : passes (column_at sheet k).kind (plan_of (column_at sheet k).plan) ≡ true
  pub fits : body_offset sheet k + (column_at sheet k).size ≤ length sheet
  pub long : length (column_at sheet k).body ≡ (column_at sheet k).size

-- a plan that was passed is well formed, and passes for its kind
pub plan-passed : (kind : ℕ) (plan : List ℕ) (u : Unit {0}) → judge_plan kind plan ≡ given u → (well_formed plan ≡ true) × (passes kind (plan_of plan) ≡ true)
unfolding judge_plan
plan-passed kind plan u e =
    let (a, e₁) = need-given (well_formed plan) bad_plan _ u e in
    let (b, c) = need-given (passes kind (plan_of plan)) unfit_plan (given tt) u e₁ in
    (a, b)

module _ (sheet : List ℕ) (s : sound sheet ≡ passed) where
  pub sound-sheet : IsSheet sheet
  sound-sheet = is-sheet sheet (parts sheet s).first

  pub sound-table : Holds sheet
  sound-table = holds sheet (parts sheet s).second

  module _ (k : ℕ) (h : k < column_count sheet) where
    there : k < length (columns_of sheet)
    there = omega (arith, column-count sheet)

    body-fits : body_offset sheet k + size_at sheet k ≤ length sheet
    unfolding sizes_before
    body-fits = omega (arith, sizes-rise sheet (suc k) (column_count sheet) h, sound-table.filled)

    pub sound-column : ColumnHolds sheet k
    sound-column =
        let (a, b) = both_true (leb (column_at sheet k).kind rising) _ (each_holds entry_holds (columns_of sheet) blank_column k sound-table.entries there) in
        let (u, j) = each-passed plan_judged (columns_of sheet) blank_column 0 k (parts sheet s).plans there in
        let (f, p) = plan-passed (column_at sheet k).kind (column_at sheet k).plan u j in
        let size = size_is sheet k h in
        let room : size_at sheet k ≤ length (drop (body_offset sheet k) sheet) = omega (arith, length-drop (body_offset sheet k) sheet, body-fits) in
        record {
          kind = leb-true _ _ a;
          count = leb-true _ _ b;
          judged = j;
          formed = f;
          passed = p;
          fits = omega (arith, body-fits);
          long = ap length (body_is sheet k h) ∙ length-take-le (size_at sheet k) (drop (body_offset sheet k) sheet) room ∙ sym size;
        }
