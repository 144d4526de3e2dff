-- THE DEMANDS of the library's users. Each is one proposition, a record whose fields are its sentences; proofs/Demands.antt proves them and assumes nothing.
-- Read `(x : A) → B` for every x of A, B; `A → B` if A then B; `A × B` both; `a ≡ b` equal; `λ x. e` e as a function of x; `a.0`, `a.1` the parts of a pair.
-- Lists: `get_or xs i 0` is element i, `take n xs` the first n, `drop n xs` those after them, `xs ++ ys` one after the other, `x ∷ xs` x and then
-- xs, `[]` none.
-- What an operation may answer is what meets its contract, the equations of its `ensures` (specs/Promises.antt): they define the answer by document 01, whose
-- words are in crates/meaning/specs. r is the answer: `Ok x` gives x (`Ok tt` only passes), `Err e` refuses by e. o is what the output held, o' what it holds
-- afterwards, k a column, and e beside a reader the refusal of its opening, `None` for none:
--     Judges kind plan r                     judge::judge       Sizes plan n r           judge::worst_size     Checks sheet work r         sheet::check
--     Reads sheet k work o (r, o')           sheet::read        Looks sheet k place r    sheet::lookup         Counts sheet work r         sheet::board
--     Opens sheet k (standing s, e)          reader::open       Steps s (r, s')          reader::step          Fetches sheet k r           table::fetch
--     Writes edition orders joined work o (r, o')               orders::write
--     WritesApart edition kinds plans counts joined work o (r, o')                                             writer::write
--     Ranks bytes bit r                      bits::rank         Selects bytes k r        bits::select
-- Not here, since it is the checker's verdict on each function: that each operation, for all input, ends, does nothing undefined, checks what it is lent (no
-- contract asks anything of its caller) and meets its contract. A sheet is lent to be read, so it keeps its contents; what work holds after a call is free.
use Rattle.std.specs.Prelude.{ℕ, suc, ◌*◌, ◌≤◌, ◌<◌, ◌≡◌, true, List, [], ◌∷◌, ◌++◌, map, length, get_or, take, drop}
use Rattle.std.specs.Prelude.{◌⊎◌}  -- one or the other
use Rattle.meaning.specs.Answer.{given, refused, number, list}  -- it gives; refuses; its number, 0 for none; the list it gives, empty where it refuses
use Rattle.meaning.specs.Answer.{Verdict, passed, in_turn}  -- a verdict; none; each in turn
use Rattle.meaning.specs.Limits.{number_limit, most_bytes, plan_bytes, cut_short, broken}  -- 2^32, 65,536 and 15; refusals 9 and 13
use Rattle.meaning.specs.Lists.{all, largest}  -- a test holds of all; the largest number
use Rattle.meaning.specs.Operations.{Order, listed_by, orders_hold, orders_of}  -- an order; the columns ordered; orders hold; slices taken apart as orders
use Rattle.meaning.specs.Operations.{numbers_at, no_tally}  -- column k's list, by the defined reading; zeros
use Rattle.meaning.specs.Operations.{write_sheet, write_apart, check, read_sheet, look_sheet, fetch, open_reader, count_board}  -- what document 01 defines
use Rattle.meaning.specs.Places.{Below}  -- every number of a list is below
use Rattle.meaning.specs.Plan.{judge_plan, judge, worst_size}  -- a plan judged for a kind; the same asked alone, and the worst size
use Rattle.meaning.specs.Rank.{rank, select}  -- ones counted and found
use Rattle.meaning.specs.Says.{says, says_by, bit_told, verdict_says, counted_says}  -- what an answer of the source says, in document 01's numbers
use Rattle.meaning.specs.Sheet.{is_edition, of_kind, sheet_bytes, worst_sheet}  -- 1 or 2; a list is of a kind; the defined bytes of columns; their worst size
use Rattle.meaning.specs.Sheet.{edition_of, columns_of}
use Rattle.meaning.specs.Sheet.{column_at, read_column, largest_count}  -- byte 0; its columns; column k; one read strictly; largest count
use Rattle.meaning.specs.Sheet.{Column}  -- a column: its kind, its plan, its count, its body
use Rattle.stages.specs.Bodies.{with_body}  -- a column with another body
use Rattle.writer.specs.Orders.{blank_listed}  -- what stands for a column that is not there
use Rattle.demands.specs.Promises.{Judges, Sizes, Writes, WritesApart, Checks, Reads, Looks, Counts, Fetches, Opens, Steps, Ranks, Selects}
use Rattle.demands.specs.Promises.{Result, Ok, Refusal, Fault}  -- answers, and those that accept; a refusal, and one that names a column
use Rattle.demands.specs.Promises.{Reader, standing, answer, Option, None, refusal_told}  -- a reader, where it stands, what it tells next; its opening's number
use Rattle.demands.specs.Own.{own_orders, own_numbers, own_kinds, own_plans, own_counts}  -- a sheet's own orders and lists, as it holds them
use Rattle.demands.specs.Refusals.{BlamesBy, verdict_of, refusal}  -- refuses by these numbers alone; an answer's verdict; its number, 0 where passed

-- ---- DEMAND 1. Each refusal is a number of document 01, given exactly when stated; besides it, zeros or an empty part; sheet and output keep their contents.
-- what it asks of an operation: its contract, the number that an answer tells, document 01's verdict, by which numbers it may refuse, what comes with a refusal
pub record Answers {A : Type 0} (Meets : A → Type 0) (told : A → ℕ) (meant : Verdict) (numbers : List ℕ) (Bare : A → Type 0) : Type 0 where
  pub one : (a b : A) → Meets a → Meets b → a ≡ b  -- one answer is possible
  pub numbered : BlamesBy numbers meant  -- each refusal is a number of document 01,
  pub stated : (a : A) → Meets a → told a ≡ refusal meant  -- given exactly when stated;
  pub zero : refusal meant ≡ 0 → meant ≡ passed  -- number 0 says accepted, and nothing else does;
  pub bare : (a : A) → Meets a → 0 < told a → Bare a  -- and besides a refusal there is nothing

pub record Demand1 : Type 0 where  -- the public operations
  pub judging : (kind : ℕ) (plan : List ℕ)
      → Answers (Judges kind plan) (λ r. number (says r)) (verdict_of (judge kind plan)) (3 ∷ 4 ∷ 11 ∷ []) (λ r. Unit {0})
  pub sizing : (plan : List ℕ) (n : ℕ) → Answers (Sizes plan n) (λ r. number (says r)) (verdict_of (worst_size plan n)) (3 ∷ 11 ∷ []) (λ r. Unit {0})
  pub writing : (edition : ℕ) (orders : List Order) (joined work o : List ℕ) → Answers (Writes edition orders joined work o) (λ a. number (says a.0))
      (verdict_of (write_sheet edition orders joined (length work) (length o))) (3 ∷ 4 ∷ 7 ∷ 8 ∷ 10 ∷ 11 ∷ []) (λ a. a.1 ≡ o)
  pub writing_apart : (edition : ℕ) (kinds plans counts joined work o : List ℕ)
      → Answers (WritesApart edition kinds plans counts joined work o) (λ a. number (says a.0))
      (verdict_of (write_apart edition kinds plans counts joined (length work) (length o))) (3 ∷ 4 ∷ 7 ∷ 8 ∷ 10 ∷ 11 ∷ []) (λ a. a.1 ≡ o)
  pub checking : (sheet work : List ℕ)
      → Answers (Checks sheet work) (λ r. refusal (verdict_says r)) (check sheet (length work)) (1 ∷ 2 ∷ 3 ∷ 4 ∷ 8 ∷ 9 ∷ 13 ∷ []) (λ r. Unit {0})
  pub reading : (sheet : List ℕ) (k : ℕ) (work o : List ℕ) → Answers (Reads sheet k work o) (λ a. number (says a.0))
      (verdict_of (read_sheet sheet k (length work) (length o))) (1 ∷ 2 ∷ 3 ∷ 4 ∷ 5 ∷ 7 ∷ 8 ∷ 9 ∷ 13 ∷ []) (λ a. a.1 ≡ o)
  pub looking : (sheet : List ℕ) (k place : ℕ)
      → Answers (Looks sheet k place) (λ r. number (says r)) (verdict_of (look_sheet sheet k place)) (1 ∷ 2 ∷ 3 ∷ 4 ∷ 5 ∷ 6 ∷ 9 ∷ 13 ∷ []) (λ r. Unit {0})
  pub fetching : (sheet : List ℕ) (k : ℕ)
      → Answers (Fetches sheet k) (λ r. number (says r)) (verdict_of (fetch sheet k)) (1 ∷ 2 ∷ 3 ∷ 4 ∷ 5 ∷ []) (λ r. list (says r) ≡ [])
  pub counting : (sheet work : List ℕ) → Answers (Counts sheet work) (λ r. refusal (counted_says r).0) (count_board sheet (length work)).0
      (1 ∷ 2 ∷ 3 ∷ 4 ∷ 8 ∷ 9 ∷ 12 ∷ 13 ∷ []) (λ r. (counted_says r).1 ≡ no_tally)
  pub opening : (sheet : List ℕ) (k : ℕ) → Answers (Opens sheet k) (λ a. refusal_told a.1) (verdict_of (open_reader sheet k)) (1 ∷ 2 ∷ 3 ∷ 4 ∷ 5 ∷ [])
      (λ a. a.0.part ≡ [])
  pub stepping : (s : Reader) → Answers (Steps s) (λ a. number (says a.0)) (verdict_of (answer (standing s)))
      (1 ∷ 2 ∷ 3 ∷ 4 ∷ 5 ∷ 6 ∷ 9 ∷ 13 ∷ []) (λ a. a.1 ≡ s)
  pub ranking : (bytes : List ℕ) (bit : ℕ)
      → Answers (Ranks bytes bit) (λ r. number (says r)) (verdict_of (rank bytes bit)) (1 ∷ 6 ∷ []) (λ r. Unit {0})
  pub selecting : (bytes : List ℕ) (k : ℕ)
      → Answers (Selects bytes k) (λ r. number (says_by bit_told r)) (verdict_of (select bytes k)) (1 ∷ 6 ∷ []) (λ r. Unit {0})

-- ---- DEMAND 2. Writing gives precisely the bytes that the papers and document 01 define; reading precisely the lists; a sheet that passes the check, written
-- again in its own edition from its own lists, kinds and plans, comes out byte for byte the same.
pub record Passing (sheet : List ℕ) : Type 0 where
  pub bytes : Below 256 sheet  -- its elements are bytes, as those of every lent `&[u8]` are,
  pub passes : (work : List ℕ) × Checks sheet work (Ok tt)  -- and the check, with some work, passed it

pub record Demand2 : Type 0 where
  -- what was written are the defined bytes of the columns ordered in the edition asked for, and no other byte of the output is changed
  pub writing : (edition : ℕ) (orders : List Order) (joined work o o' : List ℕ) (n : ℕ) → Writes edition orders joined work o (Ok n, o')
      → (n ≡ length (sheet_bytes edition (listed_by orders joined))) × (o' ≡ sheet_bytes edition (listed_by orders joined) ++ drop n o)
  -- slices that are as long together as orders are: the same writer, so that what is said of `Writes` is said of both
  pub apart : (edition : ℕ) (kinds plans counts joined work o : List ℕ) (a : Result ℕ Refusal × List ℕ) → length plans ≡ plan_bytes * length kinds
      → length counts ≡ length kinds → WritesApart edition kinds plans counts joined work o a → Writes edition (orders_of kinds plans counts) joined work o a
  -- what was read is the list of the defined reading, and no other place of the output is changed
  pub reading : (sheet : List ℕ) (k : ℕ) (work o o' : List ℕ) (n : ℕ) → Reads sheet k work o (Ok n, o')
      → (read_column (column_at sheet k) ≡ given (numbers_at sheet k)) × (n ≡ length (numbers_at sheet k)) × (o' ≡ numbers_at sheet k ++ drop n o)
  -- with work as stated and an output that holds the sheet, its own orders and lists are written in its edition as the sheet
  pub again : (sheet : List ℕ) → Passing sheet → (work o : List ℕ) → 7 * largest_count sheet ≤ length work → length sheet ≤ length o
      → (a : Result ℕ Refusal × List ℕ)
      → Writes (edition_of sheet) (own_orders sheet) (own_numbers sheet) work o a → a ≡ (Ok (length sheet), sheet ++ drop (length sheet) o)
  pub again_apart : (sheet : List ℕ) → Passing sheet → (work o : List ℕ) → 7 * largest_count sheet ≤ length work → length sheet ≤ length o
      → (a : Result ℕ Refusal × List ℕ) → WritesApart (edition_of sheet) (own_kinds sheet) (own_plans sheet) (own_counts sheet) (own_numbers sheet) work o a
      → a ≡ (Ok (length sheet), sheet ++ drop (length sheet) o)

-- ---- DEMAND 3. A plan passed for a kind never gets stuck: within the limits the lists are written, in no more than the worst size, and the sheet passes.
-- In any sheet that passes, a lookup at every place gives the number of the defined reading, and no read refuses.
pub record Within (edition : ℕ) (orders : List Order) (joined work o : List ℕ) : Type 0 where
  pub asked : is_edition edition ≡ true  -- edition 1 or 2, whichever is asked for,
  pub limits : orders_hold orders joined ≡ true  -- at most 16 orders, kinds at most 1, counts at most 1,024 that sum to the joined slice,
  pub numbers : Below number_limit joined  -- and numbers below 2^32
  pub kinds : all (λ l. of_kind edition l.kind l.numbers) (listed_by orders joined) ≡ true  -- lists of the declared kinds, by the edition
  pub plans : in_turn (λ l. judge_plan l.kind l.plan) 0 (listed_by orders joined) ≡ passed  -- plans passed, the default where an order has 15 zeros
  pub enough : 7 * largest (map (λ l. length l.numbers) (listed_by orders joined)) ≤ length work  -- work as stated
  pub short : worst_sheet edition (listed_by orders joined) ≤ most_bytes  -- a worst size that a sheet may have,
  pub fits : worst_sheet edition (listed_by orders joined) ≤ length o  -- and that the output can hold

-- column k holds the list xs: looked up, read with work as stated into an output that can hold it, and stepped through, it is that list
pub record Holds (sheet : List ℕ) (k : ℕ) (xs : List ℕ) : Type 0 where
  pub looks : (place : ℕ) → place < length xs → (r : Result ℕ Refusal) → Looks sheet k place r → r ≡ Ok (get_or xs place 0)
  pub reads : (work o : List ℕ) → 7 * length xs ≤ length work → length xs ≤ length o → (a : Result ℕ Refusal × List ℕ) → Reads sheet k work o a
      → a ≡ (Ok (length xs), xs ++ drop (length xs) o)
  pub opens : (s : Reader) (e : Option Refusal) → Opens sheet k (standing s, e) → e ≡ None
  -- call n, of the reader that call n - 1 left, answers number n
  pub calls : (readers : ℕ → Reader) (answers : ℕ → Result ℕ Refusal) (e : Option Refusal) (n : ℕ) → Opens sheet k (standing (readers 0), e)
      → ((i : ℕ) → i ≤ n → Steps (readers i) (answers i, readers (suc i))) → n < length xs → answers n ≡ Ok (get_or xs n 0)

-- a is an answer of the writer, and its output
pub record Carries (edition : ℕ) (orders : List Order) (joined : List ℕ) (a : Result ℕ Refusal × List ℕ) : Type 0 where
  pub size : ℕ
  pub written : a.0 ≡ Ok size  -- the lists are written,
  pub most : size ≤ worst_sheet edition (listed_by orders joined)  -- in no more than the worst size,
  pub made : edition_of (take size a.1) ≡ edition  -- in the edition asked for,
  pub bytes : Below 256 (take size a.1)  -- in bytes; the sheet passes, with the work that the check asks for,
  pub passes : (work : List ℕ) → 8 * largest_count (take size a.1) ≤ length work → (r : Result (Unit {0}) Fault) → Checks (take size a.1) work r
      → r ≡ Ok tt
  pub holds : (k : ℕ) → k < length orders → Holds (take size a.1) k (get_or (listed_by orders joined) k blank_listed).numbers  -- and holds the lists ordered

pub record Demand3 : Type 0 where
  -- from end to end: written, checked, looked up, read and stepped through
  pub never_stuck : (edition : ℕ) (orders : List Order) (joined work o : List ℕ) → Within edition orders joined work o → (a : Result ℕ Refusal × List ℕ)
      → Writes edition orders joined work o a → Carries edition orders joined a
  -- a column is read strictly as a list of its count, of the declared kind by the sheet's edition, and holds it
  pub any_sheet : (sheet : List ℕ) → Passing sheet → (k : ℕ) → k < length (columns_of sheet)
      → (read_column (column_at sheet k) ≡ given (numbers_at sheet k)) × (length (numbers_at sheet k) ≡ (column_at sheet k).count)
      × (of_kind (edition_of sheet) (column_at sheet k).kind (numbers_at sheet k) ≡ true) × Holds sheet k (numbers_at sheet k)

-- ---- WHICH SORT (request P5). Where a column's body is refused, 9 says that it is cut short and 13 that another rule is broken, under every plan and count.
pub record Sorts : Type 0 where
  pub two : (c : Column) (e : ℕ) → read_column c ≡ refused e → (e ≡ cut_short) ⊎ (e ≡ broken)  -- there is no third
  -- a body that is read, as far as its first k bytes, is cut short;
  pub early : (c : Column) (xs : List ℕ) → read_column c ≡ given xs → (k : ℕ) → k < length c.body
      → read_column (with_body c (take k c.body)) ≡ refused cut_short
  -- with one byte or more behind it, it is broken;
  pub onward : (c : Column) (xs : List ℕ) → read_column c ≡ given xs → (b : ℕ) (more : List ℕ)
      → read_column (with_body c (c.body ++ (b ∷ more))) ≡ refused broken
  -- and what is broken no byte behind it mends
  pub stays : (c : Column) → read_column c ≡ refused broken → (b : ℕ) (more : List ℕ) → read_column (with_body c (c.body ++ (b ∷ more))) ≡ refused broken
