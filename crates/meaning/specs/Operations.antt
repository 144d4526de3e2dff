-- The operations: what came in, to the one answer. Work is known by its length alone.
-- Order on a sheet: 1; 2; each plan in turn, 3 before 4; 5; 6; 8; 7; 9; 12. On writing: 11; each plan in turn, 3 before 4; each list in turn 10; 8; 7.
use Rattle.std.specs.Prelude.{ℕ, zero, suc, ◌+◌, ◌*◌, Bool, not, ◌&&◌, cond, List, [], ◌∷◌, map, leb, ltb, eqb, length, get_or, take, drop}
use Rattle.meaning.specs.Answer.{Answer, given, bind, need, list, Verdict, passed, blamed, ◌then◌, ask, in_turn, after}
use Rattle.meaning.specs.Limits.{most_columns, most_numbers, most_bytes, plan_bytes, rising}
use Rattle.meaning.specs.Limits.{no_column, no_place, no_room, short_work, fallen, bad_orders, bad_board}
use Rattle.meaning.specs.Lists.{all, sum, largest, differ}
use Rattle.meaning.specs.Plan.{plan_of, judge_plan, plan_used}
use Rattle.meaning.specs.Stages.{look}
use Rattle.meaning.specs.declared.Tally.{Tally}
use Rattle.meaning.specs.Sheet.{is_edition, of_kind, Listed, sheet_bytes, Column, columns_of, column_at, sound, read_column, check_column, largest_count}

-- ---- write: the edition to make, orders with their kind, plan and count, and one slice with all lists joined
pub record Order : Type 0 where
  pub kind : ℕ
  pub plan : List ℕ
  pub count : ℕ

-- the columns that orders make of the joined lists; the table holds the plan really used
unfoldable pub listed_by : List Order → List ℕ → List Listed
listed_by [] numbers = []
listed_by (o ∷ os) numbers =
    record { kind = o.kind; plan = plan_used o.kind o.plan; numbers = take o.count numbers } ∷ listed_by os (drop o.count numbers)

-- at most 16 orders, kinds at most 1, counts at most 1,024 and summing to the joined slice
unfoldable pub orders_hold : List Order → List ℕ → Bool
orders_hold orders numbers =
    leb (length orders) most_columns
    && (all (λ o. leb o.kind rising && leb o.count most_numbers) orders && eqb (sum (map (λ o. o.count) orders)) (length numbers))

-- the sheet's bytes, where the work has so many numbers and the output so many bytes
unfoldable pub write_listed : ℕ → List Listed → ℕ → ℕ → Answer (List ℕ)
write_listed edition columns work room =
    after (in_turn (λ c. judge_plan c.kind c.plan) 0 columns)
    (need (all (λ c. of_kind edition c.kind c.numbers) columns) fallen
    (need (leb (7 * largest (map (λ c. length c.numbers) columns)) work) short_work
    (need (leb (length (sheet_bytes edition columns)) most_bytes && leb (length (sheet_bytes edition columns)) room) no_room
    (given (sheet_bytes edition columns)))))

-- another edition than 1 or 2 is refused as orders that do not hold are
unfoldable pub write_sheet : ℕ → List Order → List ℕ → ℕ → ℕ → Answer (List ℕ)
write_sheet edition orders numbers work room =
    need (is_edition edition) bad_orders
    (need (orders_hold orders numbers) bad_orders (write_listed edition (listed_by orders numbers) work room))

-- orders taken apart: a kind, 15 plan bytes and a count each
unfoldable pub orders_of : List ℕ → List ℕ → List ℕ → List Order
orders_of [] plans counts = []
orders_of (k ∷ kinds) plans counts =
    record { kind = k; plan = take plan_bytes plans; count = get_or counts 0 0 } ∷ orders_of kinds (drop plan_bytes plans) (drop 1 counts)

-- slices that are not so long together are no orders
unfoldable pub write_apart : ℕ → List ℕ → List ℕ → List ℕ → List ℕ → ℕ → ℕ → Answer (List ℕ)
write_apart edition kinds plans counts numbers work room =
    need (eqb (length plans) (plan_bytes * length kinds) && eqb (length counts) (length kinds)) bad_orders
    (write_sheet edition (orders_of kinds plans counts) numbers work room)

-- ---- check: all columns in turn
unfoldable pub check : List ℕ → ℕ → Verdict
check sheet work =
    sound sheet then ask (leb (8 * largest_count sheet) work) short_work then in_turn check_column 0 (columns_of sheet)

-- ---- one column
-- a column of a sheet: as every operation on a sheet; then 5
unfoldable pub column : List ℕ → ℕ → Answer Column
column sheet k =
    after (sound sheet) (need (ltb k (length (columns_of sheet))) no_column (given (column_at sheet k)))

-- read a column, with so much work, into an output of so many places
unfoldable pub read_sheet : List ℕ → ℕ → ℕ → ℕ → Answer (List ℕ)
read_sheet sheet k work room =
    bind (column sheet k) (λ c.
    need (leb (7 * c.count) work) short_work (need (leb c.count room) no_room (read_column c)))

-- look up one number
unfoldable pub look_sheet : List ℕ → ℕ → ℕ → Answer ℕ
look_sheet sheet k place =
    bind (column sheet k) (λ c.
    need (ltb place c.count) no_place (look (plan_of c.plan) c.body c.count place))

-- fetch a column's body
unfoldable pub fetch : List ℕ → ℕ → Answer (List ℕ)
fetch sheet k = bind (column sheet k) (λ c. given c.body)

-- ---- a reader: opening refuses by 1 to 5, and then gives a reader over an empty part
unfoldable pub open_reader : List ℕ → ℕ → Answer (List ℕ)
open_reader sheet k = bind (column sheet k) (λ c. given sheet)

-- call n of a reader over a part answers as a lookup at place n until one refuses, and each later call gives that refusal again
unfoldable pub call_over : List ℕ → ℕ → ℕ → Answer ℕ
call_over part k zero = look_sheet part k 0
call_over part k (suc n) = bind (call_over part k n) (λ x. look_sheet part k (suc n))

unfoldable pub call : List ℕ → ℕ → ℕ → Answer ℕ
call sheet k n = call_over (list (open_reader sheet k)) k n

-- ---- the board: column 0 holds job numbers, column 1 endings
unfoldable pub numbers_at : List ℕ → ℕ → List ℕ
numbers_at sheet k = list (read_column (column_at sheet k))

-- columns 0 and 1 exist with equal counts, column 0 is kind 1 with no equal neighbours, and every ending is at most 256
unfoldable pub board_holds : List ℕ → Bool
board_holds sheet =
    leb 2 (length (columns_of sheet))
    && (eqb (column_at sheet 0).count (column_at sheet 1).count
    && (eqb (column_at sheet 0).kind rising
    && (differ (numbers_at sheet 0) && all (λ e. leb e 256) (numbers_at sheet 1))))

unfoldable pub board_verdict : List ℕ → ℕ → Verdict
board_verdict sheet work = check sheet work then ask (board_holds sheet) bad_board

-- how many numbers pass a test
unfoldable pub count : (ℕ → Bool) → List ℕ → ℕ
count test [] = 0
count test (x ∷ xs) = cond (test x) 1 0 + count test xs

-- ending 0 is passed, 124 killed, any other of 1 to 255 failed, 256 never ended
unfoldable pub tally_of : List ℕ → Tally
tally_of endings =
    record {
      passed = count (eqb 0) endings;
      failed = count (λ e. leb 1 e && (leb e 255 && not (eqb 124 e))) endings;
      killed = count (eqb 124) endings;
      unended = count (eqb 256) endings;
    }

abbrev pub no_tally : Tally
no_tally = record { passed = 0; failed = 0; killed = 0; unended = 0 }

-- the verdict, and the tallies of a sheet that keeps the rules
abbrev pub tallied : Verdict → List ℕ → Verdict × Tally
tallied passed endings = (passed, tally_of endings)
tallied (blamed e k) endings = (blamed e k, no_tally)

unfoldable pub count_board : List ℕ → ℕ → Verdict × Tally
count_board sheet work = tallied (board_verdict sheet work) (numbers_at sheet 1)
