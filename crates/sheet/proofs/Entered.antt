-- A column by its entry: the parts that are lent for it, and what was read of them. Assumes nothing.
use Rattle.meaning.specs.Says.{refusal_number}
use Rattle.meaning.specs.declared.Refusal.{Refusal}
use Rattle.std.specs.Prelude.{Result, Ok, Err}
use Prim.Native.Nat.{ℕ, ◌*◌, ◌≤◌}
use mathlib.Core.Path.{◌≡◌, sym, ap, ap₂, ◌∙◌}
use mathlib.Core.List.{List}
use native.Mathlib.Omega.{arith}
use lib.ListN.{length, drop, length-take, length-drop}
use Rattle.meaning.specs.Answer.{given, refused}
use Rattle.meaning.specs.Limits.{plan_bytes, most_bytes, most_numbers}
use Rattle.meaning.specs.Operations.{column}
use Rattle.meaning.specs.Places.{part, Below, Got}
use Rattle.meaning.specs.Plan.{Plan, plan_of}
use Rattle.meaning.specs.Sheet.{Column, column_at, read_column}
use Rattle.meaning.proofs.Bounds.{below-take, below-drop}
use Rattle.stages.proofs.Gots.{got-given, got-not}
use Rattle.table.specs.Entries.{Here, EntryIs, Opened}
use Rattle.table.specs.declared.Entry.{Entry}
use Rattle.table.proofs.ColumnLaws.{column-here}
use Rattle.table.proofs.Sounds.{sound-sheet, sound-column}
use Rattle.sheet.specs.Opened.{column_of, Readable}

module _ (sheet : List ℕ) (e : Entry) where
  -- whatever is made of its plan and its body is made of the column
  pub of-column : {X : Type 0} (f : Plan → List ℕ → ℕ → X) {plan body : List ℕ} → plan ≡ part sheet e.plan.byte plan_bytes
      → body ≡ part sheet e.body.byte e.size
      → f (plan_of plan) body e.count ≡ f (plan_of (column_of sheet e).plan) (column_of sheet e).body (column_of sheet e).count
  of-column f p b = ap₂ (λ (p b : List ℕ). f (plan_of p) b e.count) p b

  pub body-short : length sheet ≤ most_bytes → {body : List ℕ} → body ≡ part sheet e.body.byte e.size → length body ≤ most_bytes
  body-short h b = omega (arith, ap length b, length-take e.size (drop e.body.byte sheet), length-drop e.body.byte sheet)

  pub body_bytes : Below 256 sheet → Below 256 (column_of sheet e).body
  body_bytes b = below-take 256 e.size (drop e.body.byte sheet) (below-drop 256 e.body.byte sheet b)

module _ {sheet : List ℕ} {k : ℕ} {e : Entry} (is : EntryIs sheet k e) where
  column-of : column_of sheet e ≡ column_at sheet k
  column-of = λ i. record { edition = is.edition i; kind = is.kind i; plan = is.plan i; count = is.count i; size = is.size i; body = is.body i }

  -- what was read by the entry is column k's
  module _ {w w₁ : List ℕ} {q : Result ℕ Refusal} (got : Got (read_column (column_of sheet e)) 0 w w₁ q) where
    same : read_column (column_at sheet k) ≡ read_column (column_of sheet e)
    same = ap read_column (sym column-of)

    pub entry-given : {n : ℕ} → q ≡ Ok n → (read_column (column_at sheet k) ≡ given (part w₁ 0 n)) × (length (part w₁ 0 n) ≡ n)
    entry-given {n} t = let (r, many) = got-given (read_column (column_of sheet e)) 0 w w₁ q got n t in (same ∙ r, many)

    pub entry-refused : {z : Refusal} → q ≡ Err z → read_column (column_at sheet k) ≡ refused (refusal_number z)
    entry-refused {z} t = same ∙ got-not (read_column (column_of sheet e)) 0 w w₁ q got z t

  module _ (here : Here sheet k) where
    pub count-few : e.count ≤ most_numbers
    count-few = omega (arith, is.count, (sound-column sheet here.sounds k here.exists).count)

    pub sheet-short : length sheet ≤ most_bytes
    sheet-short = (sound-sheet sheet here.sounds).most

    pub readable : {work : List ℕ} → 7 * e.count ≤ length work → Readable sheet work e
    readable h = record { plan_fits = is.plan_fits; body_fits = is.body_fits; short = sheet-short; few = count-few; room = h }

-- an entry that was asked for: its column, in a sound sheet
module _ {sheet : List ℕ} {k : ℕ} {e : Entry} (o : Opened sheet k e) where
  pub opened-here : Here sheet k
  opened-here = column-here sheet k _ o.told

  pub opened-column : column sheet k ≡ given (column_of sheet e)
  opened-column = o.told ∙ ap (λ (c : Column). given c) (sym (column-of o.entry))
