-- What each column of a sheet that passes the check keeps: its list, written by its plan, is its body. Assumes nothing.
use Prim.Native.Nat.{ℕ, ◌≤◌, ◌<◌}
use mathlib.Core.Path.{◌≡◌, refl, sym}
use mathlib.Core.Bool.{Bool, true, false}
use mathlib.Core.List.{List, [], ◌∷◌}
use native.Mathlib.Omega.{arith}
use lib.Dec.{eqb}
use lib.ListN.{length, get_or}
use borrow.Author.Tests.{eqb-true}
use Rattle.meaning.specs.Answer.{given, passed}
use Rattle.meaning.specs.Codes.{is_code}
use Rattle.meaning.specs.Limits.{most_numbers, plan_bytes, rising}
use Rattle.meaning.specs.Lists.{all}
use Rattle.meaning.specs.Operations.{check, numbers_at}
use Rattle.meaning.specs.Places.{Below}
use Rattle.meaning.specs.Plan.{plan_of, plan_at, good, well_formed, judge_plan, plan_used}
use Rattle.meaning.specs.Sheet.{of_kind, body_of, Column, columns_of, column_at, column_count}
use Rattle.meaning.proofs.Tests.{both_true}
use Rattle.codes.proofs.Numbered.{laws}
use Rattle.stages.proofs.Back.{back}
use Rattle.table.specs.Offsets.{blank_column}
use Rattle.table.proofs.Columns.{column-count}
use Rattle.table.proofs.Sounds.{sound-column}
use Rattle.writer.proofs.Entries.{used-given}
use Rattle.sheet.proofs.Checks.{check-passed}
use Rattle.sheet.proofs.Passing.{numbers-read, body_bytes}
use Rattle.sheet.proofs.ReadColumns.{column-given}
use Rattle.demands.specs.Own.{numbers_for, listed_for}

pub record Kept (c : Column) : Type 0 where
  pub kind : c.kind ≤ rising
  pub few : c.count ≤ most_numbers
  pub judged : judge_plan c.kind c.plan ≡ given tt
  pub planned : length c.plan ≡ plan_bytes
  pub used : plan_used c.kind c.plan ≡ c.plan
  pub risen : of_kind c.edition c.kind (numbers_for c) ≡ true
  pub many : length (numbers_for c) ≡ c.count
  pub body : body_of (listed_for c) ≡ c.body
  pub long : length c.body ≡ c.size

abbrev pub AllKept : List Column → Type 0
AllKept cs = (k : ℕ) → k < length cs → Kept (get_or cs k blank_column)

-- ---- a plan that is well formed is not 15 zeros
zero-first : (bytes : List ℕ) → all (eqb 0) bytes ≡ true → get_or bytes 0 0 ≡ 0
unfolding all
zero-first [] e = refl
zero-first (b ∷ bs) e = sym (eqb-true 0 b (both_true (eqb 0 b) (all (eqb 0) bs) e).0)

zeros-bad : (bytes : List ℕ) → get_or bytes 0 0 ≡ 0 → good (plan_of bytes) ≡ false
unfolding plan_of plan_at good is_code
zeros-bad bytes e = rw e

formed-used : (kind : ℕ) (plan : List ℕ) → well_formed plan ≡ true → (length plan ≡ plan_bytes) × (plan_used kind plan ≡ plan)
unfolding well_formed
formed-used kind plan e =
    let (l, rest) = both_true (eqb (length plan) plan_bytes) _ e in
    let (g, z) = both_true (good (plan_of plan)) _ rest in
    let some = not_zeros (all (eqb 0) plan) (good (plan_of plan)) g (λ t. zeros-bad plan (zero-first plan t)) in
    (eqb-true (length plan) plan_bytes l, sym (used-given kind plan some))
  where
    not_zeros : (t u : Bool) → u ≡ true → (t ≡ true → u ≡ false) → t ≡ false
    not_zeros true true e f = f refl
    not_zeros true false e f = sym e
    not_zeros false u e f = refl

-- ---- a sheet that passes
module _ (sheet : List ℕ) (bytes : Below 256 sheet) (work : ℕ) (passes : check sheet work ≡ passed) where
  module _ (k : ℕ) (there : k < column_count sheet) where
    abbrev c : Column
    c = column_at sheet k

    kept : Kept c
    unfolding numbers_at
    kept =
        let holds = sound-column sheet (check-passed sheet work passes).ready.sounds k there in
        let (p, u) = formed-used c.kind c.plan holds.formed in
        let (r, o) = column-given c (numbers_for c) (numbers-read sheet bytes work passes k there) in
        let (w, m, s) = back laws (plan_of c.plan) c.body c.count (numbers_for c) (body_bytes sheet bytes work passes k there) r in
        record {
          kind = holds.kind;
          few = holds.count;
          judged = holds.judged;
          planned = p;
          used = u;
          risen = o;
          many = m;
          body = w;
          long = holds.long;
        }

  pub all-kept : AllKept (columns_of sheet)
  all-kept k h = kept k (omega (arith, column-count sheet))
