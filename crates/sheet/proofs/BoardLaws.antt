-- What the board's rules and its verdict say, over plain variables. Assumes nothing.
use Rattle.meaning.specs.declared.Refusal.{Refusal}
use Rattle.std.specs.Prelude.{Result, Ok, Err}
use Rattle.std.specs.Result.{result_unwrap_or}
use Prim.Native.Nat.{ℕ, ◌≤◌, ◌<◌}
use mathlib.Core.Path.{◌≡◌, refl, sym, ap, ◌∙◌}
use mathlib.Core.Bool.{Bool, true, false, ◌&&◌}
use mathlib.Core.List.{List}
use native.Mathlib.Omega.{arith}
use lib.Dec.{leb, eqb}
use lib.ListN.{length, length-take}
use borrow.Author.Tests.{le-leb, lt-leb, eq-eqb, ne_eqb, leb-true}
use Rattle.meaning.specs.Answer.{list, passed, blamed}
use Rattle.meaning.specs.Limits.{rising, bad_board}
use Rattle.meaning.specs.Lists.{all, differ}
use Rattle.meaning.specs.Operations.{check, numbers_at, board_holds, board_verdict, no_tally, count_board}
use Rattle.meaning.specs.Places.{Got, part}
use Rattle.meaning.specs.Sheet.{columns_of, column_at, read_column, column_count}
use Rattle.meaning.proofs.Answers.{not-given}
use Rattle.meaning.proofs.Tests.{both_true}
use Rattle.table.specs.Entries.{Here, EntryIs}
use Rattle.table.specs.Offsets.{Within}
use Rattle.table.specs.declared.Entry.{Entry}
use Rattle.table.proofs.Columns.{column-count}
use Rattle.table.proofs.Sounds.{sound-sheet, sound-table}
use Rattle.sheet.specs.Board.{Known, ReadAgain, jobs_hold, endings_told}
use Rattle.sheet.specs.Opened.{column_of, Readable, Ready}
use Rattle.sheet.proofs.Checks.{check-passed, column-passed, count_most}
use Rattle.sheet.proofs.Entered.{entry-given, entry-refused, readable}

-- ---- a column read once more
module _ {sheet : List ℕ} {k work : ℕ} (known : Known sheet k work) where
  known-ready : Ready sheet work
  known-ready = (check-passed sheet work known.checked).ready

  pub known-here : Here sheet k
  known-here = record { sounds = known-ready.sounds; exists = known.exists }

module _ {sheet : List ℕ} {k : ℕ} {w : List ℕ} {e : Entry} (known : Known sheet k (length w)) (is : EntryIs sheet k e) where
  pub known-readable : Readable sheet w e
  known-readable = readable is (known-here known) (omega (arith, is.count, count_most sheet k known.exists, (known-ready known).room))

  module _ {w₁ : List ℕ} {q : Result ℕ Refusal} (so : Got (read_column (column_of sheet e)) 0 w w₁ q) where
    again-whole : {n : ℕ} → q ≡ Ok n → ReadAgain sheet k w₁ n
    unfolding numbers_at
    again-whole {n} t =
        let (r, many) = entry-given is so t in
        record { fits = omega (arith, many, length-take n w₁); here = sym (ap list r) }

    -- it was read before, so that it is not refused
    again-never : {z : Refusal} → q ≡ Err z → ReadAgain sheet k w₁ 0
    again-never {z} t =
        let (xs, r) = column-passed sheet (length w) known.checked k known.exists in
        absurd (not-given _ xs (sym (entry-refused is so t) ∙ r))

    -- so that the number read is the column's
    pub again : {n : ℕ} → n ≡ result_unwrap_or q 0 → ReadAgain sheet k w₁ n
    again {n} e = by-case q refl
      where
        by-case : (r : Result ℕ Refusal) → q ≡ r → ReadAgain sheet k w₁ n
        by-case (Ok m) t = rw (e ∙ ap (λ (r : Result ℕ Refusal). result_unwrap_or r 0) t) (again-whole t)
        by-case (Err z) t = rw (e ∙ ap (λ (r : Result ℕ Refusal). result_unwrap_or r 0) t) (again-never t)

-- ---- the jobs
pub checked-whole : (sheet : List ℕ) (work : ℕ) → check sheet work ≡ passed → (k : ℕ) → k < column_count sheet → Within sheet k
checked-whole sheet work e k h = record { whole = (sound-table sheet (check-passed sheet work e).ready.sounds).whole; below = h }

pub checked-long : (sheet : List ℕ) (work : ℕ) → check sheet work ≡ passed → 2 ≤ length sheet
checked-long sheet work e = (sound-sheet sheet (check-passed sheet work e).ready.sounds).least

module _ (sheet : List ℕ) {columns : ℕ} (n : columns ≡ column_count sheet) where
  pub jobs-few : columns < 2 → false ≡ jobs_hold sheet
  jobs-few h = rw (lt-leb 2 (length (columns_of sheet)) (omega (arith, column-count sheet)))

  module _ (two : 2 ≤ columns) where
    exist : leb 2 (length (columns_of sheet)) ≡ true
    exist = le-leb 2 (length (columns_of sheet)) (omega (arith, column-count sheet))

    module _ {a b : ℕ} (ea : a ≡ (column_at sheet 0).count) (eb : b ≡ (column_at sheet 1).count) where
      pub jobs-uneven : (a ≡ b → ⊥) → false ≡ jobs_hold sheet
      jobs-uneven h = rw (exist, ne_eqb (column_at sheet 0).count (column_at sheet 1).count (λ e. h (ea ∙ e ∙ sym eb)))

      module _ (even : a ≡ b) {kind : ℕ} (ek : kind ≡ (column_at sheet 0).kind) where
        counts : eqb (column_at sheet 0).count (column_at sheet 1).count ≡ true
        counts = eq-eqb (column_at sheet 0).count (column_at sheet 1).count (sym ea ∙ even ∙ eb)

        pub jobs-any : (kind ≡ rising → ⊥) → false ≡ jobs_hold sheet
        jobs-any h = rw (exist, counts, ne_eqb (column_at sheet 0).kind rising (λ e. h (ek ∙ e)))

        pub jobs-differ : kind ≡ rising → {w : List ℕ} {m : ℕ} → ReadAgain sheet 0 w m → {t : Bool} → t ≡ differ (part w 0 m) → t ≡ jobs_hold sheet
        jobs-differ h again e =
            rw (exist, counts, eq-eqb (column_at sheet 0).kind rising (sym ek ∙ h)) (e ∙ ap differ again.here)

-- ---- the verdict
regroup : (a b c d e : Bool) → a && (b && (c && (d && e))) ≡ (a && (b && (c && d))) && e
regroup false b c d e = refl
regroup true false c d e = refl
regroup true true false d e = refl
regroup true true true d e = refl

pub board-apart : (sheet : List ℕ) → board_holds sheet ≡ jobs_hold sheet && all (λ e. leb e 256) (numbers_at sheet 1)
unfolding board_holds
board-apart sheet =
    regroup (leb 2 (length (columns_of sheet))) (eqb (column_at sheet 0).count (column_at sheet 1).count) (eqb (column_at sheet 0).kind rising)
    (differ (numbers_at sheet 0)) (all (λ e. leb e 256) (numbers_at sheet 1))

-- a board has a column 1
pub board-second : (sheet : List ℕ) → jobs_hold sheet ≡ true → 1 < column_count sheet
board-second sheet e =
    let (a, b) = both_true (leb 2 (length (columns_of sheet))) _ e in
    omega (arith, leb-true 2 (length (columns_of sheet)) a, column-count sheet)

module _ (sheet : List ℕ) (work : ℕ) where
  pub board-unchecked : {z k : ℕ} → check sheet work ≡ blamed z k → (blamed z k, no_tally) ≡ count_board sheet work
  unfolding count_board board_verdict
  board-unchecked e = rw e

  module _ (passes : check sheet work ≡ passed) where
    pub board-broken : jobs_hold sheet ≡ false → (blamed bad_board 0, no_tally) ≡ count_board sheet work
    unfolding count_board board_verdict
    board-broken e = rw (passes, board-apart sheet, e)

    pub board-counted : jobs_hold sheet ≡ true → endings_told (numbers_at sheet 1) ≡ count_board sheet work
    unfolding count_board board_verdict
    board-counted e = rw (passes, board-apart sheet, e)
