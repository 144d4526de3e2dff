-- Where a column's entry and body stand in a sheet, by the column's number.
use Rattle.std.specs.Prelude.{ℕ, zero, suc, ◌+◌, ◌*◌, ◌≤◌, ◌<◌, List, [], length, drop}
use Rattle.meaning.specs.Sheet.{Entry, entry_size, plan_in, entry_in, Column, column_in, edition_of, column_count, table_size}

-- in a sheet of an edition, column k's entry begins here; that of the column past the last is where the table ends
abbrev pub entry_offset : ℕ → ℕ → ℕ
entry_offset edition k = 2 + entry_size edition * k

-- the same in a sheet, by its own edition
abbrev pub slot_of : List ℕ → ℕ → ℕ
slot_of sheet k = entry_offset (edition_of sheet) k

-- its plan begins here
abbrev pub plan_offset : List ℕ → ℕ → ℕ
plan_offset sheet k = slot_of sheet k + plan_in

-- column k's entry, and the body length in it
abbrev pub entry_at : List ℕ → ℕ → Entry
entry_at sheet k = entry_in (edition_of sheet) (drop (slot_of sheet k) sheet)

abbrev pub size_at : List ℕ → ℕ → ℕ
size_at sheet k = (entry_at sheet k).size

-- the bodies before column k's, together
unfoldable pub sizes_before : List ℕ → ℕ → ℕ
sizes_before sheet zero = 0
sizes_before sheet (suc k) = sizes_before sheet k + size_at sheet k

-- column k's body begins here
abbrev pub body_offset : List ℕ → ℕ → ℕ
body_offset sheet k = table_size sheet + sizes_before sheet k

-- what stands for a column that is not there
abbrev pub blank_column : Column
blank_column = record { edition = 0; kind = 0; plan = []; count = 0; size = 0; body = [] }

-- column k by offsets of the sheet
abbrev pub column_by : List ℕ → ℕ → Column
column_by sheet k = column_in (edition_of sheet) (drop (slot_of sheet k) sheet) (drop (body_offset sheet k) sheet)

-- the table is whole, and has an entry k
pub record Within (sheet : List ℕ) (k : ℕ) : Type 0 where
  pub whole : table_size sheet ≤ length sheet
  pub below : k < column_count sheet
