-- A column by its entry in a lent sheet, and what reading one asks.
use Rattle.std.specs.Prelude.{ℕ, ◌+◌, ◌*◌, ◌≤◌, ◌≡◌, List, length, take, drop}
use Rattle.meaning.specs.Answer.{passed}
use Rattle.meaning.specs.Limits.{plan_bytes, most_bytes, most_numbers}
use Rattle.meaning.specs.Sheet.{Column, edition_of, sound, largest_count}
use Rattle.table.specs.declared.Entry.{Entry}

-- the column that an entry names
abbrev pub column_of : List ℕ → Entry → Column
column_of sheet e =
    record {
      edition = edition_of sheet;
      kind = e.kind;
      plan = take plan_bytes (drop e.plan.byte sheet);
      count = e.count;
      size = e.size;
      body = take e.size (drop e.body.byte sheet);
    }

-- its plan and body lie within the sheet, and work has room for its numbers and scratch
pub record Readable (sheet work : List ℕ) (e : Entry) : Type 0 where
  pub plan_fits : e.plan.byte + plan_bytes ≤ length sheet
  pub body_fits : e.body.byte + e.size ≤ length sheet
  pub short : length sheet ≤ most_bytes
  pub few : e.count ≤ most_numbers
  pub room : 7 * e.count ≤ length work

-- a sound sheet, and work for any of its columns
pub record Ready (sheet : List ℕ) (work : ℕ) : Type 0 where
  pub sounds : sound sheet ≡ passed
  pub room : 8 * largest_count sheet ≤ work
