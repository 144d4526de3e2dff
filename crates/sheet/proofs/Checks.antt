-- What checking a sheet answers, over plain variables. Assumes nothing.
use Rattle.meaning.specs.Says.{refusal_number}
use Rattle.meaning.specs.declared.Refusal.{Refusal}
use Rattle.std.specs.Prelude.{Result, Ok, Err}
use Prim.Native.Nat.{ℕ, zero, suc, ◌+◌, ◌*◌, ◌≤◌, ◌<◌}
use mathlib.Core.Path.{◌≡◌, sym, ◌∙◌}
use mathlib.Core.Bool.{true}
use mathlib.Core.List.{List, [], ◌∷◌, map}
use native.Mathlib.Nat.{le-max_left, le-max_right, max-le}
use native.Mathlib.Omega.{arith}
use lib.Dec.{leb}
use lib.ListN.{length, get_or}
use borrow.Author.Tests.{le-leb, lt-leb, leb-true}
use Rattle.meaning.specs.Answer.{given, passed, blamed, ask, in_turn}
use Rattle.meaning.specs.Limits.{most_numbers, rising, short_work}
use Rattle.meaning.specs.Lists.{all, largest}
use Rattle.meaning.specs.Operations.{check}
use Rattle.meaning.specs.Places.{Got}
use Rattle.meaning.specs.Sheet.{Column, columns_of, column_at, sound, read_column, check_column, largest_count, column_count}
use Rattle.meaning.proofs.Tests.{both_true}
use Rattle.table.specs.Entries.{Here, EntryIs}
use Rattle.table.specs.Offsets.{blank_column}
use Rattle.table.specs.Rules.{entry_holds}
use Rattle.table.specs.declared.Entry.{Entry}
use Rattle.table.proofs.Columns.{column-count}
use Rattle.table.proofs.InTurn.{PassedBelow, below-turn, below-refuse, below_end, each-passed}
use Rattle.table.proofs.Sounds.{ask-passed, then-passed, sound-table}
use Rattle.sheet.specs.Opened.{column_of, Readable, Ready}
use Rattle.sheet.proofs.Entered.{entry-given, entry-refused, readable}

-- ---- no count is above the largest
each-most : {A : Type 0} (f : A → ℕ) (cs : List A) (d : A) (i : ℕ) → i < length cs → f (get_or cs i d) ≤ largest (map f cs)
unfolding largest
each-most f [] d i h = absurd (omega arith)
each-most f (x ∷ xs) d zero h = le-max_left (f x) (largest (map f xs))
each-most f (x ∷ xs) d (suc i) h = omega (arith, each-most f xs d i (omega arith), le-max_right (f x) (largest (map f xs)))

pub count_most : (sheet : List ℕ) (k : ℕ) → k < column_count sheet → (column_at sheet k).count ≤ largest_count sheet
unfolding largest_count
count_most sheet k h = each-most (λ (c : Column). c.count) (columns_of sheet) blank_column k (omega (arith, column-count sheet))

-- and that is at most 1,024
largest-small : (cs : List Column) → all entry_holds cs ≡ true → largest (map (λ c. c.count) cs) ≤ most_numbers
unfolding all largest
largest-small [] e = omega arith
largest-small (x ∷ xs) e =
    let (a, b) = both_true (entry_holds x) (all entry_holds xs) e in
    let (k, n) = both_true (leb x.kind rising) (leb x.count most_numbers) a in
    max-le (leb-true x.count most_numbers n) (largest-small xs b)

pub most-small : (sheet : List ℕ) → sound sheet ≡ passed → largest_count sheet ≤ most_numbers
unfolding largest_count
most-small sheet s = largest-small (columns_of sheet) (sound-table sheet s).entries

-- ---- the verdict, by its tests in their order
module _ (sheet : List ℕ) (work : ℕ) where
  pub check-unsound : (z k : ℕ) → sound sheet ≡ blamed z k → check sheet work ≡ blamed z k
  unfolding check
  check-unsound z k e = rw e

  module _ (s : sound sheet ≡ passed) where
    pub check-short : work < 8 * largest_count sheet → check sheet work ≡ blamed short_work 0
    unfolding check
    check-short h = rw (s, lt-leb (8 * largest_count sheet) work h)

    pub check-bodies : 8 * largest_count sheet ≤ work → check sheet work ≡ in_turn check_column 0 (columns_of sheet)
    unfolding check
    check-bodies h = rw (s, le-leb (8 * largest_count sheet) work h)

  -- ---- and what a check that passed says
  pub record Passed : Type 0 where
    pub ready : Ready sheet work
    pub bodies : in_turn check_column 0 (columns_of sheet) ≡ passed

  pub check-passed : check sheet work ≡ passed → Passed
  unfolding check
  check-passed e =
      let (a, e₁) = then-passed (sound sheet) _ e in
      let (b, d) = then-passed (ask (leb (8 * largest_count sheet) work) short_work) (in_turn check_column 0 (columns_of sheet)) e₁ in
      let room = leb-true (8 * largest_count sheet) work (ask-passed (leb (8 * largest_count sheet) work) short_work b) in
      record { ready = record { sounds = a; room = room }; bodies = d }

  -- every column was read
  pub column-passed : check sheet work ≡ passed → (k : ℕ) → k < column_count sheet → (xs : List ℕ) × (read_column (column_at sheet k) ≡ given xs)
  unfolding check_column
  column-passed e k h = each-passed check_column (columns_of sheet) blank_column 0 k (check-passed e).bodies (omega (arith, column-count sheet))

-- ---- each body in turn: those below k have passed, and what a turn needs of the sheet and of work
pub record Checking (sheet w₀ : List ℕ) (columns : ℕ) (w : List ℕ) (k : ℕ) : Type 0 where
  pub ready : Ready sheet (length w₀)
  pub counted : columns ≡ column_count sheet
  pub long : length w ≡ length w₀
  pub below : PassedBelow check_column (columns_of sheet) k

module _ {sheet w₀ : List ℕ} {columns : ℕ} {w : List ℕ} {k : ℕ} (so : Checking sheet w₀ columns w k) where
  pub bodies-end : columns ≤ k → passed ≡ in_turn check_column 0 (columns_of sheet)
  bodies-end h = sym (below_end check_column (columns_of sheet) k so.below (omega (arith, so.counted, column-count sheet)))

  module _ (h : k < columns) where
    pub bodies-here : Here sheet k
    bodies-here = record { sounds = so.ready.sounds; exists = omega (arith, so.counted) }

    inside : k < length (columns_of sheet)
    inside = omega (arith, so.counted, column-count sheet)

    module _ {e : Entry} (is : EntryIs sheet k e) where
      pub bodies-readable : Readable sheet w e
      bodies-readable =
          readable is bodies-here (omega (arith, is.count, count_most sheet k bodies-here.exists, so.ready.room, so.long))

      module _ {w₁ : List ℕ} {q : Result ℕ Refusal} (got : Got (read_column (column_of sheet e)) 0 w w₁ q) where
        pub bodies-turn : {m : ℕ} → q ≡ Ok m → length w₁ ≡ length w → Checking sheet w₀ columns w₁ (k + 1)
        unfolding check_column
        bodies-turn t l =
            record {
              ready = so.ready;
              counted = so.counted;
              long = l ∙ so.long;
              below = below-turn check_column (columns_of sheet) blank_column k so.below inside _ (entry-given is got t).0;
            }

        pub bodies-refuse : {z : Refusal} → q ≡ Err z → blamed (refusal_number z) k ≡ in_turn check_column 0 (columns_of sheet)
        unfolding check_column
        bodies-refuse t = sym (below-refuse check_column (columns_of sheet) blank_column k so.below inside _ (entry-refused is got t))
