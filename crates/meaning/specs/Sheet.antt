-- The sheet: table first, bodies after. Byte 0: edition, 1 or 2. Byte 1: number of columns. One 24-byte entry a column: kind, 15 plan bytes, count
-- (4 bytes), body length (4 bytes). The bodies, in column order, with nothing between or after.
use Rattle.std.specs.Prelude.{ℕ, zero, suc, ◌+◌, ◌*◌, Bool, true, ◌&&◌, cond, List, [], ◌∷◌, ◌++◌, map, leb, eqb, length, get_or, take, drop}
use Rattle.meaning.specs.Answer.{Answer, given, bind, need, Verdict, ◌then◌, ask, in_turn}
use Rattle.meaning.specs.Limits.{most_columns, most_numbers, most_bytes, plan_bytes, rising, last_edition, no_sheet, bad_table, broken}
use Rattle.meaning.specs.Lists.{all, sum, joined, largest, rises, strict}
use Rattle.meaning.specs.Bytes.{word, word_at}
use Rattle.meaning.specs.Plan.{plan_of, judge_plan, worst_plan}
use Rattle.meaning.specs.Stages.{write, read}

-- a sheet's edition is 1 or 2
unfoldable pub is_edition : ℕ → Bool
is_edition edition = leb 1 edition && leb edition last_edition

-- a list of kind 1: in edition 1 no number is below the one before, in edition 2 each is above the one before
unfoldable pub of_kind : ℕ → ℕ → List ℕ → Bool
of_kind edition kind xs = cond (eqb kind rising) (cond (eqb edition 1) (rises xs) (strict xs)) true

-- ---- an entry of the table: kind, 15 plan bytes, count (4 bytes), body length (4 bytes). Its size and layout are the sheet's edition's
pub record Entry : Type 0 where
  pub kind : ℕ
  pub plan : List ℕ
  pub count : ℕ
  pub size : ℕ

-- how many bytes it takes, and where in them its plan, its count and its body's length stand
unfoldable pub entry_size : ℕ → ℕ
entry_size edition = 24

abbrev pub plan_in : ℕ
plan_in = 1

abbrev pub count_in : ℕ
count_in = 16

abbrev pub size_in : ℕ
size_in = 20

-- laid down
unfoldable pub entry_bytes : ℕ → Entry → List ℕ
entry_bytes edition e = e.kind ∷ (e.plan ++ (word e.count ++ word e.size))

-- read, where it stands first in some bytes
abbrev pub entry_in : ℕ → List ℕ → Entry
entry_in edition bytes =
    record { kind = get_or bytes 0 0; plan = take plan_bytes (drop plan_in bytes); count = word_at bytes count_in; size = word_at bytes size_in }

-- ---- a column: its sheet's edition, what its entry says, and its body
pub record Column : Type 0 where
  pub edition : ℕ
  pub kind : ℕ
  pub plan : List ℕ
  pub count : ℕ
  pub size : ℕ
  pub body : List ℕ

abbrev pub entry_of : Column → Entry
entry_of c = record { kind = c.kind; plan = c.plan; count = c.count; size = c.size }

-- a sheet put together: its edition, the number of columns, their entries, their bodies
unfoldable pub assemble : ℕ → List Column → List ℕ
assemble edition cs = edition ∷ length cs ∷ (joined (λ c. entry_bytes edition (entry_of c)) cs ++ joined (λ c. c.body) cs)

-- ---- written: a column by its kind, the plan really used and its numbers; the edition is the sheet's
pub record Listed : Type 0 where
  pub kind : ℕ
  pub plan : List ℕ
  pub numbers : List ℕ

abbrev pub body_of : Listed → List ℕ
body_of l = write (plan_of l.plan) l.numbers

abbrev pub column_for : ℕ → Listed → Column
column_for edition l =
    record { edition = edition; kind = l.kind; plan = l.plan; count = length l.numbers; size = length (body_of l); body = body_of l }

unfoldable pub sheet_bytes : ℕ → List Listed → List ℕ
sheet_bytes edition ls = assemble edition (map (column_for edition) ls)

-- 2, 24 a column, the plans' sums
unfoldable pub worst_sheet : ℕ → List Listed → ℕ
worst_sheet edition ls = 2 + sum (map (λ l. entry_size edition + worst_plan (plan_of l.plan) (length l.numbers)) ls)

-- ---- read: a column whose entry stands first in some bytes of the table and whose body stands first in some others
abbrev pub column_in : ℕ → List ℕ → List ℕ → Column
column_in edition table bodies =
    let e = entry_in edition table in
    record { edition = edition; kind = e.kind; plan = e.plan; count = e.count; size = e.size; body = take e.size bodies }

unfoldable pub columns_in : ℕ → ℕ → List ℕ → List ℕ → List Column
columns_in edition zero table bodies = []
columns_in edition (suc k) table bodies =
    column_in edition table bodies ∷ columns_in edition k (drop (entry_size edition) table) (drop (entry_in edition table).size bodies)

-- byte 0, and byte 1
abbrev pub edition_of : List ℕ → ℕ
edition_of sheet = get_or sheet 0 0

abbrev pub column_count : List ℕ → ℕ
column_count sheet = get_or sheet 1 0

abbrev pub table_size : List ℕ → ℕ
table_size sheet = 2 + entry_size (edition_of sheet) * column_count sheet

unfoldable pub columns_of : List ℕ → List Column
columns_of sheet = columns_in (edition_of sheet) (column_count sheet) (drop 2 sheet) (drop (table_size sheet) sheet)

abbrev pub column_at : List ℕ → ℕ → Column
column_at sheet k = get_or (columns_of sheet) k (record { edition = 0; kind = 0; plan = []; count = 0; size = 0; body = [] })

-- where column k's body begins: after the table and the bodies before it
abbrev pub body_begins : List ℕ → ℕ → ℕ
body_begins sheet k = table_size sheet + sum (map (λ c. c.size) (take k (columns_of sheet)))

-- from 2 to 65,536 bytes, byte 0 is 1 or 2, at most 16 columns
unfoldable pub is_sheet : List ℕ → Bool
is_sheet sheet =
    leb 2 (length sheet) && (leb (length sheet) most_bytes && (is_edition (edition_of sheet) && leb (column_count sheet) most_columns))

-- the table is whole, kinds are at most 1, counts at most 1,024, and the body lengths fill the rest
unfoldable pub table_holds : List ℕ → Bool
table_holds sheet =
    leb (table_size sheet) (length sheet)
    && (all (λ c. leb c.kind rising && leb c.count most_numbers) (columns_of sheet)
    && eqb (table_size sheet + sum (map (λ c. c.size) (columns_of sheet))) (length sheet))

-- what every operation on a sheet asks first: 1; 2; each plan in turn, 3 before 4
unfoldable pub sound : List ℕ → Verdict
sound sheet =
    ask (is_sheet sheet) no_sheet
    then ask (table_holds sheet) bad_table
    then in_turn (λ c. judge_plan c.kind c.plan) 0 (columns_of sheet)

-- reading a column applies all of its plan, and last asks that the list is of the declared kind, by the sheet's edition
unfoldable pub read_column : Column → Answer (List ℕ)
read_column c = bind (read (plan_of c.plan) c.body c.count) (λ xs. need (of_kind c.edition c.kind xs) broken (given xs))

-- what the check asks of a column: that it can be read
unfoldable pub check_column : Column → Answer (List ℕ)
check_column c = read_column c

unfoldable pub largest_count : List ℕ → ℕ
largest_count sheet = largest (map (λ c. c.count) (columns_of sheet))
