-- The listing of a sheet that passes, a column at a time, and its text by what the check answers. Assumes only the laws of the codes.
use Rattle.meaning.specs.declared.Fault.{Fault}
use Rattle.std.specs.Prelude.{Result, Ok, Err}
use Prim.Native.Nat.{ℕ, ◌+◌, ◌≤◌, ◌<◌, ◌^◌}
use mathlib.Core.Path.{◌≡◌, sym, ap, ◌∙◌}
use mathlib.Core.List.{List, [], ◌∷◌}
use native.Mathlib.Omega.{arith}
use lib.ListN.{length, drop}
use Rattle.meaning.specs.Answer.{Verdict, passed, blamed}
use Rattle.meaning.specs.Limits.{most_columns}
use Rattle.meaning.specs.Operations.{check}
use Rattle.meaning.specs.Places.{Wrote}
use Rattle.meaning.specs.Says.{refusal_number, verdict_says}
use Rattle.meaning.specs.Sheet.{columns_of, column_at, column_count}
use Rattle.meaning.specs.Texts.{text, digits, line, all_work, refused_or, counting, column_lines, listing_lines, listing_text}
use Rattle.meaning.specs.declared.Offset.{Offset}
use Rattle.table.specs.Offsets.{blank_column}
use Rattle.table.proofs.Columns.{column-count}
use Rattle.table.proofs.Sounds.{IsSheet, sound-sheet}
use Rattle.sheet.proofs.Checks.{check-passed}
use Rattle.texts.specs.Listing.{Passing, Listable}
use Rattle.texts.specs.Written.{Puts}
use Rattle.texts.specs.declared.pieces.Page.{Page}
use Rattle.texts.proofs.Listings.{counting-next, counting-end}
use Rattle.leaves.proofs.Putting.{wrote_after, wrote_as}
use Rattle.texts.proofs.Putting.{widened, Turning, turns_next, turns-end}

pub passing-sheet : {sheet : List ℕ} {w l : ℕ} → Passing sheet w l → IsSheet sheet
passing-sheet {sheet} p = sound-sheet sheet (check-passed sheet all_work p.passes).ready.sounds

-- no column takes more bytes: its line at most 409, and each of 1,024 numbers at most 16
abbrev column_most : ℕ
column_most = 16793

-- ---- the columns from k on are still to be put; what a turn needs of the sheet, the work and the list
pub record Listing (sheet work₀ list₀ : List ℕ) (columns : ℕ) (p₀ : Page) (work list : List ℕ) (p : Page) (k : ℕ) : Type 0 where
  pub passing : Passing sheet (length work₀) (length list₀)
  pub counted : columns ≡ column_count sheet
  pub works : length work ≡ length work₀
  pub lists : length list ≡ length list₀
  pub early : p₀.at.byte < 2 ^ 58
  pub turns : Turning columns column_most (counting column_lines 0 (columns_of sheet)) p₀ (counting column_lines k (drop k (columns_of sheet))) p k

module _ {sheet work₀ list₀ work list : List ℕ} {columns k : ℕ} {p₀ p : Page}
    (l : Listing sheet work₀ list₀ columns p₀ work list p k) where
  pub listing-few : columns ≤ most_columns
  listing-few = omega (arith, l.counted, (passing-sheet l.passing).few)

  pub listing-room : p.at.byte < 2 ^ 59
  listing-room = omega (arith, l.turns.short, l.turns.below, l.early, listing-few)

  pub listing-column : k < columns → Listable sheet k (length work) (length list)
  listing-column h =
      let works = l.works ∙ l.passing.works in
      let lists = l.lists ∙ l.passing.lists in
      record { passing = record { passes = l.passing.passes; works = works; lists = lists }; exists = omega (arith, l.counted) }

  pub listing-turn : k < columns → {work' list' : List ℕ} {q : Page} → length work' ≡ length work → length list' ≡ length list
      → Puts (column_lines k (column_at sheet k)) column_most p q → Listing sheet work₀ list₀ columns p₀ work' list' q (k + 1)
  listing-turn h works lists put =
      let next = counting-next column_lines (columns_of sheet) k blank_column (omega (arith, l.counted, column-count sheet)) in
      record {
        passing = l.passing;
        counted = l.counted;
        works = works ∙ l.works;
        lists = lists ∙ l.lists;
        early = l.early;
        turns = turns_next l.turns h next put;
      }

  pub listing-end : columns ≤ k → Puts (counting column_lines 0 (columns_of sheet)) 268688 p₀ p
  listing-end h =
      let none = counting-end column_lines (columns_of sheet) k (omega (arith, l.counted, column-count sheet)) in
      widened (turns-end l.turns h none) (omega (arith, listing-few))

-- the lines before them and after
pub sheet-lines : (sheet : List ℕ) {n at : ℕ} {mid mid₂ end : Offset} {out out₁ out₂ out₃ : List ℕ} → n ≡ column_count sheet
    → Wrote (line (text "columns") (digits n ∷ [])) at out out₁ mid → Wrote (counting column_lines 0 (columns_of sheet)) mid.byte out₁ out₂ mid₂
    → Wrote (line (text "end") []) mid₂.byte out₂ out₃ end → Wrote (listing_lines (columns_of sheet)) at out out₃ end
unfolding listing_lines
sheet-lines sheet many p q r =
    let count = many ∙ sym (column-count sheet) in
    wrote_after (wrote_as (ap (λ (j : ℕ). line (text "columns") (digits j ∷ [])) count) p) (wrote_after q r)

-- ---- the text by what the check answers
module _ (sheet work : List ℕ) (all : length work ≡ all_work) (r : Result (Unit {0}) Fault) (told : verdict_says r ≡ check sheet (length work)) where
  so : (v : Verdict) → verdict_says r ≡ v → check sheet all_work ≡ v
  so v e = sym (ap (check sheet) all) ∙ sym told ∙ e

  pub listing-passes : r ≡ Ok tt → check sheet all_work ≡ passed
  listing-passes e = so passed (ap verdict_says e)

  pub listing-lines : r ≡ Ok tt → listing_lines (columns_of sheet) ≡ listing_text sheet
  unfolding listing_text refused_or
  listing-lines e = ap (λ (v : Verdict). refused_or v (listing_lines (columns_of sheet))) (sym (listing-passes e))

  pub listing-refused : {f : Fault} → r ≡ Err f → refused_or (blamed (refusal_number f.refusal) f.column) [] ≡ listing_text sheet
  unfolding listing_text refused_or
  listing-refused e = ap (λ (v : Verdict). refused_or v (listing_lines (columns_of sheet))) (sym (so (blamed _ _) (ap verdict_says e)))
