-- A sheet's columns by their number. Assumes nothing.
use Prim.Native.Nat.{ℕ, zero, suc, ◌+◌, ◌-◌, ◌≤◌, ◌<◌}
use mathlib.Core.Path.{◌≡◌, refl, sym, ap, ap₂, ◌∙◌}
use mathlib.Core.List.{List, [], ◌∷◌, map}
use native.Mathlib.Nat.{add_assoc, add-zero, sub-zero, mul-zero}
use native.Mathlib.Numerals.{add-one}
use native.Mathlib.Omega.{arith}
use lib.ListN.{length, get_or, take, drop, drop_of_length-le}
use lib.Seq.{drop-drop, get_or-drop}
use Rattle.meaning.specs.Bytes.{word_at}
use Rattle.meaning.specs.Limits.{plan_bytes}
use Rattle.meaning.specs.Lists.{sum}
use Rattle.meaning.specs.Sheet.{entry_size, plan_in, count_in, size_in, entry_in, Column, columns_in}
use Rattle.meaning.specs.Sheet.{edition_of, column_count, table_size, columns_of, column_at, body_begins}
use Rattle.meaning.proofs.Tests.{by_order}
use Rattle.words.proofs.Words.{word-drop}
use Rattle.table.specs.Offsets.{slot_of, plan_offset, size_at, sizes_before, body_offset, blank_column, column_by}
use Rattle.table.proofs.Lists.{sum-next}

columns-length : (edition n : ℕ) (table bodies : List ℕ) → length (columns_in edition n table bodies) ≡ n
unfolding columns_in
columns-length edition zero table bodies = refl
columns-length edition (suc n) table bodies =
    ap suc (columns-length edition n (drop (entry_size edition) table) (drop (entry_in edition table).size bodies))

-- ---- a column behind others
-- the first of n columns passed
rest_of : (edition : ℕ) (sheet : List ℕ) (n a b : ℕ)
    → drop 1 (columns_in edition (suc n) (drop a sheet) (drop b sheet))
    ≡ columns_in edition n (drop (a + entry_size edition) sheet) (drop (b + (entry_in edition (drop a sheet)).size) sheet)
unfolding columns_in
rest_of edition sheet n a b = rw (drop-drop (entry_size edition) a sheet, drop-drop (entry_in edition (drop a sheet)).size b sheet)

module _ (sheet : List ℕ) where
  pub column-count : length (columns_of sheet) ≡ column_count sheet
  unfolding columns_of
  column-count = columns-length (edition_of sheet) (column_count sheet) (drop 2 sheet) (drop (table_size sheet) sheet)

  -- the columns from k on
  pub columns-from : (k : ℕ) → k ≤ column_count sheet
      → drop k (columns_of sheet) ≡ columns_in (edition_of sheet) (column_count sheet - k) (drop (slot_of sheet k) sheet) (drop (body_offset sheet k) sheet)
  unfolding columns_of sizes_before
  columns-from zero h = rw (sub-zero (column_count sheet), mul-zero (entry_size (edition_of sheet)), add-zero (table_size sheet))
  columns-from (suc k) h =
      let n = column_count sheet - suc k in
      let m : column_count sheet - k ≡ suc n = omega arith in
      let next : slot_of sheet k + entry_size (edition_of sheet) ≡ slot_of sheet (suc k) = omega arith in
      let body : body_offset sheet k + size_at sheet k ≡ body_offset sheet (suc k) = add_assoc (table_size sheet) (sizes_before sheet k) (size_at sheet k) in
      ap (λ (j : ℕ). drop j (columns_of sheet)) (sym (add-one k))
      ∙ sym (drop-drop 1 k (columns_of sheet))
      ∙ ap (drop 1)
      (columns-from k (omega arith) ∙ ap (λ (j : ℕ). columns_in (edition_of sheet) j (drop (slot_of sheet k) sheet) (drop (body_offset sheet k) sheet)) m)
      ∙ rest_of (edition_of sheet) sheet n (slot_of sheet k) (body_offset sheet k)
      ∙ ap₂ (λ (a b : ℕ). columns_in (edition_of sheet) n (drop a sheet) (drop b sheet)) next body

module _ (sheet : List ℕ) (k : ℕ) (h : k < column_count sheet) where
  -- the first of the columns from k on is column k
  pub column-is : column_at sheet k ≡ column_by sheet k
  unfolding columns_in
  column-is =
      let n = column_count sheet - suc k in
      let m : column_count sheet - k ≡ suc n = omega arith in
      sym (ap (λ (j : ℕ). get_or (columns_of sheet) j blank_column) (add-zero k))
      ∙ sym (get_or-drop k (columns_of sheet) 0 blank_column)
      ∙ ap (λ (l : List Column). get_or l 0 blank_column)
      (columns-from sheet k (omega arith) ∙ ap (λ (j : ℕ). columns_in (edition_of sheet) j (drop (slot_of sheet k) sheet) (drop (body_offset sheet k) sheet)) m)

  -- the column's parts, by offsets of the sheet
  pub kind-is : (column_at sheet k).kind ≡ get_or sheet (slot_of sheet k) 0
  kind-is =
      ap (λ (c : Column). c.kind) column-is ∙ get_or-drop (slot_of sheet k) sheet 0 0 ∙ ap (λ (j : ℕ). get_or sheet j 0) (add-zero (slot_of sheet k))

  pub edition-is : (column_at sheet k).edition ≡ edition_of sheet
  edition-is = ap (λ (c : Column). c.edition) column-is

  pub plan-is : (column_at sheet k).plan ≡ take plan_bytes (drop (plan_offset sheet k) sheet)
  plan-is = ap (λ (c : Column). c.plan) column-is ∙ ap (take plan_bytes) (drop-drop plan_in (slot_of sheet k) sheet)

  pub count-is : (column_at sheet k).count ≡ word_at sheet (slot_of sheet k + count_in)
  count-is = ap (λ (c : Column). c.count) column-is ∙ word-drop sheet (slot_of sheet k) count_in

  pub size_is : (column_at sheet k).size ≡ size_at sheet k
  size_is = ap (λ (c : Column). c.size) column-is

  pub size-in : size_at sheet k ≡ word_at sheet (slot_of sheet k + size_in)
  size-in = word-drop sheet (slot_of sheet k) size_in

  pub body_is : (column_at sheet k).body ≡ take (size_at sheet k) (drop (body_offset sheet k) sheet)
  body_is = ap (λ (c : Column). c.body) column-is

-- ---- what a loop over all columns knows of the sheet: its table is whole, and it has so many columns
pub record Counted (sheet : List ℕ) (columns : ℕ) : Type 0 where
  pub whole : table_size sheet ≤ length sheet
  pub so : columns ≡ column_count sheet

module _ {sheet : List ℕ} {columns : ℕ} (counted : Counted sheet columns) {k : ℕ} where
  pub one-of-them : k < columns → k < length (columns_of sheet)
  one-of-them h = omega (arith, counted.so, column-count sheet)

  pub past-them : columns ≤ k → length (columns_of sheet) ≤ k
  past-them h = omega (arith, counted.so, column-count sheet)

-- a sum is that of the first elements and that of the rest
sum-split : {A : Type 0} (f : A → ℕ) (k : ℕ) (cs : List A) → sum (map f (take k cs)) + sum (map f (drop k cs)) ≡ sum (map f cs)
unfolding sum
sum-split f zero cs = omega arith
sum-split f (suc k) [] = omega arith
sum-split f (suc k) (c ∷ cs) = omega (arith, sum-split f k cs)

-- ---- the bodies' lengths
module _ (sheet : List ℕ) where
  -- the sizes below k, and those from k on
  pub sizes-from : (k : ℕ) → k ≤ column_count sheet
      → sum (map (λ c. c.size) (columns_of sheet)) ≡ sizes_before sheet k + sum (map (λ c. c.size) (drop k (columns_of sheet)))
  unfolding sizes_before
  sizes-from zero h = omega arith
  sizes-from (suc k) h =
      let long : k < length (columns_of sheet) = omega (arith, column-count sheet) in
      omega (arith, sizes-from k (omega arith), sum-next (λ c. c.size) (columns_of sheet) blank_column k long, size_is sheet k h)

  -- the table's own offset of a body, from which its part is cut
  pub begins-so : (k : ℕ) → k ≤ column_count sheet → body_offset sheet k ≡ body_begins sheet k
  begins-so k h = omega (arith, sum-split (λ c. c.size) k (columns_of sheet), sizes-from k h)

  pub sizes-all : sum (map (λ c. c.size) (columns_of sheet)) ≡ sizes_before sheet (column_count sheet)
  unfolding sum
  sizes-all =
      sizes-from (column_count sheet) (omega arith)
      ∙ rw (drop_of_length-le (columns_of sheet) {i = column_count sheet} (omega (arith, column-count sheet)))
      (add-zero (sizes_before sheet (column_count sheet)))

  pub sizes-rise : (j k : ℕ) → j ≤ k → sizes_before sheet j ≤ sizes_before sheet k
  unfolding sizes_before
  sizes-rise j zero h = let e : j ≡ 0 = omega arith in rw e (omega arith)
  sizes-rise j (suc k) h =
      by_order j (suc k) (λ a. omega (arith, sizes-rise j k (omega arith)))
      (λ a. let e : j ≡ suc k = omega arith in rw e (omega arith))
