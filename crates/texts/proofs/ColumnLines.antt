-- A column's line by its entry, and its numbers in a sheet that passes. Assumes only the laws of the codes.
use Prim.Native.Nat.{ℕ, ◌*◌, ◌≤◌}
use mathlib.Core.Path.{◌≡◌, sym, ap, ap₂, ◌∙◌}
use mathlib.Core.Bool.{true}
use mathlib.Core.List.{List, [], ◌∷◌, map}
use native.Mathlib.Omega.{arith}
use lib.ListN.{length, take, drop}
use lib.Seq.{take_at}
use Rattle.meaning.specs.Answer.{filled}
use Rattle.meaning.specs.Limits.{most_numbers, plan_bytes}
use Rattle.meaning.specs.Operations.{read_sheet, numbers_at}
use Rattle.meaning.specs.Places.{Wrote, Below, part}
use Rattle.meaning.specs.Plan.{well_formed}
use Rattle.meaning.specs.Sheet.{column_at}
use Rattle.meaning.specs.Texts.{text, digits, all_work, counting, kind_text, unfilled, column_line, number_line, column_lines}
use Rattle.meaning.specs.declared.Offset.{Offset}
use Rattle.table.specs.Entries.{Here, EntryIs}
use Rattle.table.specs.declared.Entry.{Entry}
use Rattle.table.proofs.Sounds.{sound-column}
use Rattle.sheet.proofs.Checks.{check-passed}
use Rattle.sheet.proofs.Passing.{numbers-many, reads_all}
use Rattle.texts.specs.Listing.{words, named, sized, Listable}
use Rattle.texts.proofs.Lines.{line-open, line-many}
use Rattle.leaves.proofs.Putting.{wrote_after, wrote_as}

-- ---- its line
module _ {sheet : List ℕ} {k : ℕ} {e : Entry} (is : EntryIs sheet k e) {plan : List ℕ} (lent : plan ≡ part sheet e.plan.byte plan_bytes) where
  pub plan-formed : Here sheet k → well_formed plan ≡ true
  plan-formed here = ap well_formed (lent ∙ is.plan) ∙ (sound-column sheet here.sounds k here.exists).formed

  pub column-line : {at : ℕ} {mid mid₂ end : Offset} {out out₁ out₂ out₃ : List ℕ}
      → Wrote (named k e.kind) at out out₁ mid → Wrote (words (map digits (unfilled plan))) mid.byte out₁ out₂ mid₂
      → Wrote (sized e.count e.size) mid₂.byte out₂ out₃ end → Wrote (column_line k (column_at sheet k)) at out out₃ end
  unfolding column_line named sized
  column-line p q r =
      let c = column_at sheet k in
      let p' = wrote_as (ap (named k) is.kind) p in
      let q' = wrote_as (ap (λ (l : List ℕ). words (map digits (unfilled l))) (lent ∙ is.plan)) q in
      let r' = wrote_as (ap₂ sized is.count is.size) r in
      line-open (text "column") (digits k ∷ kind_text c.kind ∷ text "plan" ∷ []) p' (line-many (map digits (unfilled c.plan)) q' (record { put = r' }))

-- ---- its numbers
module _ {sheet : List ℕ} {k w l : ℕ} (listed : Listable sheet k w l) where
  pub listed_here : Here sheet k
  listed_here = record { sounds = (check-passed sheet all_work listed.passing.passes).ready.sounds; exists = listed.exists }

  pub listed-few : (column_at sheet k).count ≤ most_numbers
  listed-few = (sound-column sheet listed_here.sounds k listed.exists).count

  -- the list's first numbers after reading
  pub listed-numbers : Below 256 sheet → {m : ℕ} (list : List ℕ) {list' : List ℕ} → m ≡ (column_at sheet k).count
      → list' ≡ filled (read_sheet sheet k w l) list → take m list' ≡ numbers_at sheet k
  listed-numbers bytes {m} list many read =
      let passes = listed.passing.passes in
      let there = listed.exists in
      let work : 7 * (column_at sheet k).count ≤ w = omega (arith, listed-few, listed.passing.works) in
      let room : (column_at sheet k).count ≤ l = omega (arith, listed-few, listed.passing.lists) in
      let all = reads_all sheet bytes all_work passes k there w l work room in
      let xs = numbers_at sheet k in
      ap (take m) (read ∙ ap (λ a. filled a list) all)
      ∙ take_at xs (drop (length xs) list) m (numbers-many sheet bytes all_work passes k there ∙ sym many)

-- both
pub column-lines : (sheet : List ℕ) (k : ℕ) {xs : List ℕ} {at : ℕ} {mid end : Offset} {out out₁ out₂ : List ℕ} → xs ≡ numbers_at sheet k
    → Wrote (column_line k (column_at sheet k)) at out out₁ mid → Wrote (counting number_line 0 xs) mid.byte out₁ out₂ end
    → Wrote (column_lines k (column_at sheet k)) at out out₂ end
unfolding column_lines numbers_at
column-lines sheet k e p q = wrote_after p (wrote_as (ap (counting number_line 0) e) q)
