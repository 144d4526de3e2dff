-- What a column's entry says, as the source's struct.
use Rattle.std.specs.Prelude.{ℕ, ◌+◌, ◌≤◌, ◌<◌, ◌≡◌, List, length, take, drop, Result, Ok, Err}
use Rattle.meaning.specs.Answer.{given, refused, passed}
use Rattle.meaning.specs.Limits.{plan_bytes}
use Rattle.meaning.specs.Operations.{column}
use Rattle.meaning.specs.Sheet.{body_begins, column_at, sound, edition_of, column_count}
use Rattle.table.specs.Offsets.{plan_offset}
use Rattle.meaning.specs.Says.{refusal_number}
use Rattle.meaning.specs.declared.Refusal.{Refusal}
use Rattle.table.specs.declared.Entry.{Entry}

-- the sheet is sound, and has a column k
pub record Here (sheet : List ℕ) (k : ℕ) : Type 0 where
  pub sounds : sound sheet ≡ passed
  pub exists : k < column_count sheet

-- e is column k's entry: where its plan and body begin, and that they lie within the sheet
pub record EntryIs (sheet : List ℕ) (k : ℕ) (e : Entry) : Type 0 where
  pub edition : edition_of sheet ≡ (column_at sheet k).edition
  pub kind : e.kind ≡ (column_at sheet k).kind
  pub count : e.count ≡ (column_at sheet k).count
  pub size : e.size ≡ (column_at sheet k).size
  pub plan : take plan_bytes (drop e.plan.byte sheet) ≡ (column_at sheet k).plan
  pub body : take e.size (drop e.body.byte sheet) ≡ (column_at sheet k).body
  pub plan_fits : e.plan.byte + plan_bytes ≤ length sheet
  pub body_fits : e.body.byte + e.size ≤ length sheet
  pub plan_begins : e.plan.byte ≡ plan_offset sheet k
  pub begins : e.body.byte ≡ body_begins sheet k

-- what an accepted column says
pub record Opened (sheet : List ℕ) (k : ℕ) (e : Entry) : Type 0 where
  pub told : column sheet k ≡ given (column_at sheet k)
  pub entry : EntryIs sheet k e

-- what asking for a column answers
abbrev pub ColumnIs : List ℕ → ℕ → Result Entry Refusal → Type 0
ColumnIs sheet k (Ok e) = Opened sheet k e
ColumnIs sheet k (Err z) = column sheet k ≡ refused (refusal_number z)
