-- What asking for a column and fetching its body answer, over plain variables. Assumes nothing.
use Prim.Native.Nat.{ℕ, ◌≤◌, ◌<◌}
use mathlib.Core.Path.{◌≡◌, refl, sym, ap, ap₂, ◌∙◌}
use mathlib.Core.List.{List}
use native.Mathlib.Omega.{arith}
use lib.Dec.{ltb}
use lib.ListN.{length, take, drop}
use borrow.Author.Tests.{lt-ltb, le-ltb, ltb-true}
use Rattle.meaning.specs.Answer.{given, refused, need, Verdict, passed, blamed, after}
use Rattle.meaning.specs.Limits.{plan_bytes, no_column}
use Rattle.meaning.specs.Operations.{column, fetch}
use Rattle.meaning.specs.Places.{part}
use Rattle.meaning.specs.Sheet.{Column, columns_of, column_at, sound, column_count}
use Rattle.meaning.proofs.Answers.{need-given, not-given}
use Rattle.table.specs.Offsets.{plan_offset, body_offset, Within}
use Rattle.table.specs.Entries.{Here, EntryIs, Opened}
use Rattle.table.specs.declared.Entry.{Entry}
use Rattle.table.proofs.Columns.{column-count, edition-is, plan-is, size_is, body_is, begins-so}
use Rattle.table.proofs.Slots.{slot-within}
use Rattle.table.proofs.Sounds.{sound-table, sound-column}

-- ---- an entry of a sound sheet
module _ {sheet : List ℕ} {k : ℕ} (here : Here sheet k) where
  pub within : Within sheet k
  within = record { whole = (sound-table sheet here.sounds).whole; below = here.exists }

  pub entry-is : {e : Entry} → e.kind ≡ (column_at sheet k).kind → e.plan.byte ≡ plan_offset sheet k → e.count ≡ (column_at sheet k).count
      → e.size ≡ (column_at sheet k).size → e.body.byte ≡ body_offset sheet k → EntryIs sheet k e
  entry-is kind plan count size body =
      let holds = sound-column sheet here.sounds k here.exists in
      record {
        edition = sym (edition-is sheet k here.exists);
        kind = kind;
        count = count;
        size = size;
        plan = ap (λ (j : ℕ). take plan_bytes (drop j sheet)) plan ∙ sym (plan-is sheet k here.exists);
        body = ap₂ (λ (i j : ℕ). take i (drop j sheet)) (size ∙ size_is sheet k here.exists) body ∙ sym (body_is sheet k here.exists);
        plan_fits = omega (arith, slot-within within);
        body_fits = omega (arith, holds.fits);
        plan_begins = plan;
        begins = body ∙ begins-so sheet k (omega (arith, here.exists));
      }

-- ---- a column asked for
module _ (sheet : List ℕ) (k : ℕ) where
  pub column-unsound : (e j : ℕ) → sound sheet ≡ blamed e j → column sheet k ≡ refused e
  unfolding column
  column-unsound e j s = rw s

  module _ (s : sound sheet ≡ passed) where
    pub column-none : column_count sheet ≤ k → column sheet k ≡ refused no_column
    unfolding column
    column-none h = rw (s, le-ltb k (length (columns_of sheet)) (omega (arith, column-count sheet)))

    pub column-there : k < column_count sheet → column sheet k ≡ given (column_at sheet k)
    unfolding column
    column-there h = rw (s, lt-ltb k (length (columns_of sheet)) (omega (arith, column-count sheet)))

  -- where a column is given, the sheet is sound and has it
  pub column-here : (c : Column) → column sheet k ≡ given c → Here sheet k
  unfolding column
  column-here c e = go (sound sheet) refl e
    where
      go : (v : Verdict) → sound sheet ≡ v → after v (need (ltb k (length (columns_of sheet))) no_column (given (column_at sheet k))) ≡ given c → Here sheet k
      go passed s q =
          let (t, _) = need-given (ltb k (length (columns_of sheet))) no_column (given (column_at sheet k)) c q in
          record { sounds = s; exists = omega (arith, ltb-true k (length (columns_of sheet)) t, column-count sheet) }
      go (blamed z j) s q = absurd (not-given z c q)

  -- ---- its body fetched
  pub fetch-refused : (z : ℕ) → column sheet k ≡ refused z → fetch sheet k ≡ refused z
  unfolding fetch
  fetch-refused z e = rw e

pub fetch-body : {sheet : List ℕ} {k : ℕ} {e : Entry} {body : List ℕ} → Opened sheet k e → body ≡ part sheet e.body.byte e.size → fetch sheet k ≡ given body
unfolding fetch
fetch-body o is = rw o.told (ap (λ (l : List ℕ). given l) (sym (is ∙ o.entry.body)))
