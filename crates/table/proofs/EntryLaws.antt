-- What the functions over entries answer, over plain variables. Assumes nothing.
use Prim.Native.Nat.{ℕ, ◌+◌, ◌*◌, ◌^◌, ◌≤◌, ◌<◌, max}
use mathlib.Core.Path.{◌≡◌, sym, ap, ◌∙◌}
use mathlib.Core.List.{List, [], map}
use native.Mathlib.Numerals.{add-one}
use native.Mathlib.Omega.{arith}
use lib.ListN.{length, get_or, drop, drop_of_length-le}
use Rattle.meaning.specs.Answer.{passed}
use Rattle.meaning.specs.Bytes.{word_at}
use Rattle.meaning.specs.Limits.{number_limit}
use Rattle.meaning.specs.Lists.{largest}
use Rattle.meaning.specs.Sheet.{Column, count_in, size_in, edition_of, column_count, table_size, columns_of, column_at, sound, largest_count}
use Rattle.table.specs.Offsets.{slot_of, sizes_before, body_offset, blank_column}
use Rattle.table.proofs.Columns.{kind-is, count-is, size_is, size-in, Counted, one-of-them, past-them}
use Rattle.table.proofs.Lists.{largest-next}
use Rattle.table.proofs.Slots.{slot_small}
use Rattle.table.proofs.Sounds.{sound-table}

-- ---- the fields of an entry, from where it begins
module _ (sheet : List ℕ) (k : ℕ) (h : k < column_count sheet) {b : ℕ} (is : b ≡ slot_of sheet k) where
  pub kind-here : get_or sheet b 0 ≡ (column_at sheet k).kind
  kind-here = ap (λ (j : ℕ). get_or sheet j 0) is ∙ sym (kind-is sheet k h)

  pub count-here : word_at sheet (b + count_in) ≡ (column_at sheet k).count
  count-here = ap (λ (j : ℕ). word_at sheet (j + count_in)) is ∙ sym (count-is sheet k h)

  pub size-here : word_at sheet (b + size_in) ≡ (column_at sheet k).size
  size-here = ap (λ (j : ℕ). word_at sheet (j + size_in)) is ∙ sym (size_is sheet k h ∙ size-in sheet k h)

-- ---- where a body begins: the bodies below k are passed
pub record BodySo (sheet : List ℕ) (column at k : ℕ) : Type 0 where
  pub whole : table_size sheet ≤ length sheet
  pub few : column_count sheet < 256
  pub there : column ≤ column_count sheet
  pub is : at ≡ body_offset sheet k
  pub most : k ≤ column
  pub small : at ≤ 2 ^ 14 + number_limit * k

pub body-first : {sheet : List ℕ} {columns column at : ℕ} → (table_size sheet ≤ length sheet) × (column ≤ column_count sheet)
    → (columns ≡ column_count sheet) × (columns < 256) → at ≡ slot_of sheet columns → BodySo sheet column at 0
unfolding sizes_before
body-first {sheet} {columns} (whole, there) (n, few) e =
    record {
      whole = whole;
      few = omega arith;
      there = there;
      is = omega (arith, ap (slot_of sheet) n);
      most = omega arith;
      small = omega (arith, slot_small (edition_of sheet) columns);
    }

module _ {sheet : List ℕ} {column at k : ℕ} (so : BodySo sheet column at k) where
  pub body-turn : k < column → {size : ℕ} → (size ≡ (column_at sheet k).size) × (size < number_limit) → BodySo sheet column (at + size) (k + 1)
  unfolding sizes_before
  body-turn h (e, s) =
      record {
        whole = so.whole;
        few = so.few;
        there = so.there;
        is = rw add-one (omega (arith, so.is, size_is sheet k (omega (arith, so.there))));
        most = omega arith;
        small = omega (arith, so.small);
      }

  pub body_end : column ≤ k → at ≡ body_offset sheet column
  body_end h = let e : k ≡ column = omega (arith, so.most) in so.is ∙ ap (body_offset sheet) e

-- ---- the largest count: m is that of the columns below k
pub record LargestSo (sheet : List ℕ) (columns m k : ℕ) : Type 0 where
  pub counted : Counted sheet columns
  pub is : largest_count sheet ≡ max m (largest (map (λ c. c.count) (drop k (columns_of sheet))))

pub largest-first : {sheet : List ℕ} {columns : ℕ} → sound sheet ≡ passed → columns ≡ column_count sheet → LargestSo sheet columns 0 0
unfolding largest_count
largest-first {sheet} s n = record { counted = record { whole = (sound-table sheet s).whole; so = n }; is = omega arith }

module _ {sheet : List ℕ} {columns m k : ℕ} (so : LargestSo sheet columns m k) where
  -- the larger of the two, by either way of the test
  pub largest-turn : k < columns → {c m' : ℕ} → c ≡ (column_at sheet k).count → m' ≡ max m c → LargestSo sheet columns m' (k + 1)
  largest-turn h e f =
      let next = largest-next (λ (c : Column). c.count) (columns_of sheet) blank_column k (one-of-them so.counted h) in
      record { counted = so.counted; is = rw add-one (omega (arith, so.is, next)) }

  pub largest-end : columns ≤ k → m ≡ largest_count sheet
  unfolding largest
  largest-end h =
      let none : drop k (columns_of sheet) ≡ [] = drop_of_length-le (columns_of sheet) {i = k} (past-them so.counted h) in
      omega (arith, so.is, ap (λ (l : List Column). largest (map (λ c. c.count) l)) none)
