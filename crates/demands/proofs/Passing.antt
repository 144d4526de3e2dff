-- A sheet that was written passes the check, and its lists are read back. Assumes nothing.
use Prim.Native.Nat.{ℕ, zero, suc, ◌+◌, ◌*◌, ◌≤◌, ◌<◌}
use mathlib.Core.Path.{◌≡◌, refl, sym, ap, ◌∙◌}
use mathlib.Core.Bool.{true, ◌&&◌}
use mathlib.Core.List.{List, [], ◌∷◌, map}
use native.Mathlib.Omega.{arith}
use lib.Dec.{leb}
use lib.ListN.{length, get_or, length-append, length-map}
use borrow.Author.Tests.{le-leb, eq-eqb}
use Rattle.meaning.specs.Answer.{Answer, given, list, passed, in_turn}
use Rattle.meaning.specs.Limits.{number_limit, most_columns, most_numbers, most_bytes, rising}
use Rattle.meaning.specs.Lists.{all, sum, joined, largest}
use Rattle.meaning.specs.Operations.{check, numbers_at}
use Rattle.meaning.specs.Places.{Below}
use Rattle.meaning.specs.Plan.{plan_of, judge_plan}
use Rattle.meaning.specs.Sheet.{is_edition, of_kind, Listed, body_of, column_for, assemble, sheet_bytes, Column, edition_of, column_count, table_size}
use Rattle.meaning.specs.Sheet.{columns_of, column_at, read_column, is_sheet, table_holds, sound, check_column, largest_count}
use Rattle.meaning.proofs.Tests.{true-both}
use Rattle.codes.proofs.Numbered.{laws}
use Rattle.stages.proofs.Forth.{forth-plan}
use Rattle.stages.proofs.Most.{most, plan-worst}
use Rattle.table.specs.Offsets.{blank_column}
use Rattle.table.specs.Rules.{entry_holds, plan_judged}
use Rattle.table.proofs.Sounds.{plan-passed, by-plans}
use Rattle.writer.specs.Orders.{blank_listed}
use Rattle.writer.proofs.Worst.{judged-long}
use Rattle.sheet.proofs.Checks.{check-bodies}
use Rattle.demands.proofs.Columns.{Fits, written-columns, written-size}

-- a column within the limits, of its kind by the edition, under a plan that is passed for it
pub record Writable (edition : ℕ) (l : Listed) : Type 0 where
  pub kind : l.kind ≤ rising
  pub judged : judge_plan l.kind l.plan ≡ given tt
  pub risen : of_kind edition l.kind l.numbers ≡ true
  pub small : Below number_limit l.numbers
  pub few : length l.numbers ≤ most_numbers

abbrev pub AllWritable : ℕ → List Listed → Type 0
AllWritable edition ls = (k : ℕ) → k < length ls → Writable edition (get_or ls k blank_listed)

-- ---- one column
module _ (edition : ℕ) (l : Listed) (w : Writable edition l) where
  body-short : length (body_of l) ≤ 72 * most_numbers + 88
  body-short =
      omega (arith, most laws (plan_of l.plan) l.numbers w.small (omega (arith, w.few)), plan-worst laws l.plan (length l.numbers), w.few)

  pub fits : Fits l
  fits = record { planned = judged-long l tt w.judged; few = omega (arith, w.few); short = omega (arith, body-short) }

  column-back : read_column (column_for edition l) ≡ given l.numbers
  unfolding read_column
  column-back =
      rw (forth-plan laws l.plan edition l.kind l.numbers (plan-passed l.kind l.plan tt w.judged).1 w.risen w.small w.few, w.risen)

-- ---- of columns that were made of others
module _ {A B : Type 0} (f : A → B) where
  get_d_map : (xs : List A) (a : A) (b : B) (k : ℕ) → k < length xs → get_or (map f xs) k b ≡ f (get_or xs k a)
  get_d_map [] a b k h = absurd (omega arith)
  get_d_map (x ∷ xs) a b zero h = refl
  get_d_map (x ∷ xs) a b (suc k) h = get_d_map xs a b k (omega arith)

pub all-turn : {A B C : Type 0} (f : A → Answer B) (g : C → A) (j : ℕ) (d : C) (xs : List C)
    → ((k : ℕ) → k < length xs → (b : B) × (f (g (get_or xs k d)) ≡ given b)) → in_turn f j (map g xs) ≡ passed
all-turn f g j d [] h = refl
all-turn f g j d (x ∷ xs) h =
    let (b, e) = h 0 (omega arith) in
    rw e (all-turn f g (suc j) d xs (λ (k : ℕ) (l : k < length xs). h (suc k) (omega arith)))

entries-hold : (edition : ℕ) (ls : List Listed) → AllWritable edition ls → all entry_holds (map (column_for edition) ls) ≡ true
unfolding all
entries-hold edition [] w = refl
entries-hold edition (l ∷ ls) w =
    let v = w 0 (omega arith) in
    true-both (entry_holds (column_for edition l)) _
    (true-both (leb l.kind rising) _ (le-leb l.kind rising v.kind) (le-leb (length l.numbers) most_numbers v.few))
    (entries-hold edition ls (λ (k : ℕ) (h : k < length ls). w (suc k) (omega arith)))

sizes : (edition : ℕ) (ls : List Listed) → sum (map (λ (c : Column). c.size) (map (column_for edition) ls)) ≡ length (joined body_of ls)
unfolding sum joined
sizes edition [] = refl
sizes edition (l ∷ ls) = omega (arith, sizes edition ls, length-append (body_of l) (joined body_of ls))

counts : (edition : ℕ) (ls : List Listed) → map (λ (c : Column). c.count) (map (column_for edition) ls) ≡ map (λ (l : Listed). length l.numbers) ls
counts edition [] = refl
counts edition (l ∷ ls) = ap (λ (t : List ℕ). length l.numbers ∷ t) (counts edition ls)

-- ---- the sheet
module _ (edition : ℕ) (ls : List Listed) (writable : AllWritable edition ls) where
  columns : columns_of (sheet_bytes edition ls) ≡ map (column_for edition) ls
  columns = written-columns edition ls (λ k h. fits edition (get_or ls k blank_listed) (writable k h))

  size : length (sheet_bytes edition ls) ≡ table_size (sheet_bytes edition ls) + length (joined body_of ls)
  size = written-size edition ls (λ k h. fits edition (get_or ls k blank_listed) (writable k h))

  -- the largest count is that of the largest list
  pub written-largest : largest_count (sheet_bytes edition ls) ≡ largest (map (λ (l : Listed). length l.numbers) ls)
  unfolding largest_count
  written-largest = ap (λ (cs : List Column). largest (map (λ (c : Column). c.count) cs)) columns ∙ ap largest (counts edition ls)

  -- column k holds what it was written from, and its list is read back
  module _ (k : ℕ) (h : k < length ls) where
    written-column : column_at (sheet_bytes edition ls) k ≡ column_for edition (get_or ls k blank_listed)
    written-column = ap (λ (cs : List Column). get_or cs k blank_column) columns ∙ get_d_map (column_for edition) ls blank_listed blank_column k h

    pub list_back : numbers_at (sheet_bytes edition ls) k ≡ (get_or ls k blank_listed).numbers
    unfolding numbers_at
    list_back = ap (λ (c : Column). list (read_column c)) written-column ∙ ap list (column-back edition (get_or ls k blank_listed) (writable k h))

  module _ (known : is_edition edition ≡ true) (few : length ls ≤ most_columns) (short : length (sheet_bytes edition ls) ≤ most_bytes) where
    head : is_edition (edition_of (sheet_bytes edition ls)) && leb (column_count (sheet_bytes edition ls)) most_columns ≡ true
    unfolding sheet_bytes assemble
    head =
        true-both (is_edition edition) _ known
        (le-leb (length (map (column_for edition) ls)) most_columns (omega (arith, length-map ls (column_for edition))))

    a-sheet : is_sheet (sheet_bytes edition ls) ≡ true
    unfolding is_sheet
    a-sheet = rw (le-leb 2 (length (sheet_bytes edition ls)) (omega (arith, size)), le-leb (length (sheet_bytes edition ls)) most_bytes short) head

    a-table : table_holds (sheet_bytes edition ls) ≡ true
    unfolding table_holds
    a-table =
        let s = sheet_bytes edition ls in
        let filled : table_size s + sum (map (λ (c : Column). c.size) (columns_of s)) ≡ length s =
        ap (λ (cs : List Column). table_size s + sum (map (λ (c : Column). c.size) cs)) columns
        ∙ ap (λ (j : ℕ). table_size s + j) (sizes edition ls)
        ∙ sym size in
        true-both (leb (table_size s) (length s)) _ (le-leb (table_size s) (length s) (omega (arith, size)))
        (true-both (all entry_holds (columns_of s)) _ (ap (all entry_holds) columns ∙ entries-hold edition ls writable)
        (eq-eqb (table_size s + sum (map (λ (c : Column). c.size) (columns_of s))) (length s) filled))

    written-sound : sound (sheet_bytes edition ls) ≡ passed
    written-sound =
        by-plans (sheet_bytes edition ls) a-sheet a-table
        ∙ ap (in_turn plan_judged 0) columns
        ∙ all-turn plan_judged (column_for edition) 0 blank_listed ls (λ k h. (tt, (writable k h).judged))

    pub written-passes : (work : ℕ) → 8 * largest (map (λ (l : Listed). length l.numbers) ls) ≤ work → check (sheet_bytes edition ls) work ≡ passed
    unfolding check_column
    written-passes work h =
        check-bodies (sheet_bytes edition ls) work written-sound (omega (arith, written-largest))
        ∙ ap (in_turn check_column 0) columns
        ∙ all-turn check_column (column_for edition) 0 blank_listed ls (λ k l.
        let c = get_or ls k blank_listed in
        (c.numbers, column-back edition c (writable k l)))
