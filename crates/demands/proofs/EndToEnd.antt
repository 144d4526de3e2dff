-- Demand 3 over the contracts alone: a sheet that passes is looked up, read and stepped through, and lists within the limits come back from end to end.
-- Assumes nothing.
use Rattle.meaning.specs.declared.Refusal.{Refusal}
use Rattle.meaning.specs.declared.Fault.{Fault}
use Rattle.std.specs.Prelude.{Result, Ok, Option, None}
use Prim.Native.Nat.{ℕ, zero, suc, ◌*◌, ◌≤◌, ◌<◌}
use mathlib.Core.Path.{◌≡◌, refl, sym, ap, ◌∙◌, subst}
use mathlib.Core.Bool.{true}
use mathlib.Core.List.{List, ◌++◌}
use native.Mathlib.Omega.{arith}
use lib.ListN.{length, get_or, take, drop, length-map}
use Rattle.meaning.specs.Answer.{Answer, given, number, list, amount, filled, passed}
use Rattle.meaning.specs.Operations.{Order, listed_by, write_sheet, check, open_reader, call_over, call, numbers_at}
use Rattle.meaning.specs.Places.{Below}
use Rattle.meaning.specs.Sheet.{of_kind, Listed, column_for, assemble, sheet_bytes, edition_of, columns_of, column_at, read_column, largest_count}
use Rattle.table.proofs.ColumnLaws.{column-there}
use Rattle.table.proofs.Columns.{column-count}
use Rattle.writer.specs.Orders.{blank_listed}
use Rattle.writer.proofs.Columns.{listed-count}
use Rattle.sheet.proofs.Checks.{check-passed}
use Rattle.sheet.proofs.Passing.{numbers-read, numbers-many, numbers-kind, reads_all, looks-all}
use Rattle.sheet.proofs.Unique.{one-check, one-read, one-lookup}
use Rattle.reader.specs.Steps.{opened, after, standing, moved}
use Rattle.reader.specs.declared.Reader.{Reader}
use Rattle.reader.proofs.Calls.{stands-first, stands-next, tells-call}
use Rattle.reader.proofs.Openings.{open-there}
use Rattle.reader.proofs.Unique.{one-call, refusal-same}
use Rattle.demands.specs.Promises.{Writes, Checks, Reads, Looks, Opens, Steps}
use Rattle.demands.specs.Demands.{Within, Holds, Carries}
use Rattle.demands.proofs.Accepted.{all-writable, few-columns, NeverStuck, never_stuck}
use Rattle.demands.proofs.Outputs.{first-filled, both, filled-with}
use Rattle.demands.proofs.Passing.{AllWritable, written-largest, list_back}
use Rattle.demands.proofs.WrittenBytes.{written-bytes}

-- ---- a column of a sheet that passes
module _ (sheet : List ℕ) (bytes : Below 256 sheet) (check_work : ℕ) (passes : check sheet check_work ≡ passed)
    (k : ℕ) (below : k < length (columns_of sheet)) where
  abbrev xs : List ℕ
  xs = numbers_at sheet k

  -- byte 1 is the number of columns
  there : k < get_or sheet 1 0
  there = omega (arith, below, column-count sheet)

  many : length xs ≡ (column_at sheet k).count
  many = numbers-many sheet bytes check_work passes k there

  looks : (place : ℕ) → place < length xs → (r : Result ℕ Refusal) → Looks sheet k place r → r ≡ Ok (get_or xs place 0)
  looks place h r e = one-lookup sheet k place r (Ok (get_or xs place 0)) e
      (sym (looks-all sheet bytes check_work passes k there place (omega (arith, many))))

  reads : (work o : List ℕ) → 7 * length xs ≤ length work → length xs ≤ length o → (a : Result ℕ Refusal × List ℕ) → Reads sheet k work o a
      → a ≡ (Ok (length xs), xs ++ drop (length xs) o)
  reads work o enough fits a t =
      let e = reads_all sheet bytes check_work passes k there (length work) (length o) (omega (arith, many)) (omega (arith, many)) in
      both a (Ok (length xs), xs ++ drop (length xs) o)
      (one-read sheet k (length work) o a.1 (xs ++ drop (length xs) o) a.0 (Ok (length xs)) t
      (ap amount (sym e), sym (ap (λ (m : Answer (List ℕ)). filled m o) e)))

  opening : open_reader sheet k ≡ given sheet
  opening = open-there sheet k (column_at sheet k) (column-there sheet k (check-passed sheet check_work passes).ready.sounds there)

  opens : (reader : Reader) (e : Option Refusal) → Opens sheet k (standing reader, e) → e ≡ None
  opens reader e t = refusal-same e None (t.1 ∙ ap number opening)

  -- each call of a reader, while places last, gives the number of the defined reading
  calls-over : (n : ℕ) → n < length xs → call_over sheet k n ≡ given (get_or xs n 0)
  unfolding call_over
  calls-over zero h = looks-all sheet bytes check_work passes k there 0 (omega (arith, many))
  calls-over (suc n) h = rw (calls-over n (omega arith)) (looks-all sheet bytes check_work passes k there (suc n) (omega (arith, many)))

  pub calls-all : (n : ℕ) → n < length (numbers_at sheet k) → call sheet k n ≡ given (get_or (numbers_at sheet k) n 0)
  unfolding call
  calls-all n h = ap (λ (m : Answer (List ℕ)). call_over (list m) k n) opening ∙ calls-over n h

  -- where the reader of call n stands
  stands : (readers : ℕ → Reader) (n : ℕ) → standing (readers 0) ≡ opened sheet k → ((i : ℕ) → i < n → readers (suc i) ≡ moved (readers i))
      → standing (readers n) ≡ after n (opened sheet k)
  stands readers zero first moves = stands-first sheet k (readers 0) first
  stands readers (suc n) first moves =
      ap standing (moves n (omega arith)) ∙ stands-next sheet k n (readers n) (stands readers n first (λ i h. moves i (omega arith)))

  calls : (readers : ℕ → Reader) (answers : ℕ → Result ℕ Refusal) (e : Option Refusal) (n : ℕ) → Opens sheet k (standing (readers 0), e)
      → ((i : ℕ) → i ≤ n → Steps (readers i) (answers i, readers (suc i))) → n < length xs → answers n ≡ Ok (get_or xs n 0)
  calls readers answers e n t steps h =
      let here = stands readers n t.0 (λ i l. (steps i (omega arith)).1) in
      one-call sheet k n (answers n) (Ok (get_or xs n 0)) (tells-call sheet k n (readers n) (answers n) here (steps n (omega arith)).0)
      (sym (calls-all n h))

  holds-it : Holds sheet k (numbers_at sheet k)
  holds-it = record { looks = looks; reads = reads; opens = opens; calls = calls }

  pub column-holds : (read_column (column_at sheet k) ≡ given (numbers_at sheet k)) × (length (numbers_at sheet k) ≡ (column_at sheet k).count)
      × (of_kind (edition_of sheet) (column_at sheet k).kind (numbers_at sheet k) ≡ true) × Holds sheet k (numbers_at sheet k)
  column-holds = (numbers-read sheet bytes check_work passes k there, many, numbers-kind sheet bytes check_work passes k there, holds-it)

-- ---- lists within the limits
module _ (edition : ℕ) (orders : List Order) (joined work o : List ℕ) (w : Within edition orders joined work o) where
  abbrev ls : List Listed
  ls = listed_by orders joined

  abbrev sheet : List ℕ
  sheet = sheet_bytes edition ls

  writable : AllWritable edition ls
  writable = all-writable edition orders joined w.numbers w.limits w.plans w.kinds

  stuck : NeverStuck edition orders joined (length work) (length o)
  stuck =
      never_stuck edition orders joined (length work) (length o) w.asked w.numbers w.limits w.plans w.kinds w.enough w.short w.fits

  bytes : Below 256 sheet
  bytes = written-bytes edition ls writable w.asked (few-columns edition orders joined w.numbers w.limits w.plans w.kinds)

  passes : (check_work : ℕ) → 8 * largest_count sheet ≤ check_work → check sheet check_work ≡ passed
  passes check_work h = stuck.passes check_work (omega (arith, written-largest edition ls writable))

  many-columns : length (columns_of sheet) ≡ length orders
  unfolding sheet_bytes assemble
  many-columns = column-count sheet ∙ length-map ls (column_for edition) ∙ listed-count orders joined

  holds : (k : ℕ) → k < length orders → Holds sheet k (get_or ls k blank_listed).numbers
  holds k h =
      subst (Holds sheet k) (list_back edition ls writable k (omega (arith, listed-count orders joined)))
      (holds-it sheet bytes (8 * largest_count sheet) (passes (8 * largest_count sheet) (omega arith)) k (omega (arith, many-columns)))

  module _ (a : Result ℕ Refusal × List ℕ) (t : Writes edition orders joined work o a) where
    answered : a ≡ (Ok (length sheet), sheet ++ drop (length sheet) o)
    answered = filled-with (write_sheet edition orders joined (length work) (length o)) sheet o a stuck.written t

    is : sheet ≡ take (length sheet) a.1
    is = sym (ap (λ (b : Result ℕ Refusal × List ℕ). take (length sheet) b.1) answered ∙ first-filled o sheet)

    first_byte : edition_of sheet ≡ edition
    unfolding sheet_bytes assemble
    first_byte = refl

    pub carries : Carries edition orders joined a
    carries =
        record {
          size = length sheet;
          written = ap (λ (b : Result ℕ Refusal × List ℕ). b.0) answered;
          most = stuck.within;
          made = sym (ap edition_of is) ∙ first_byte;
          bytes = subst (Below 256) is bytes;
          passes = subst (λ (s : List ℕ). (work : List ℕ) → 8 * largest_count s ≤ length work → (r : Result (Unit {0}) Fault) → Checks s work r → r ≡ Ok tt) is
              (λ v h r c. one-check sheet (length v) r (Ok tt) c (sym (passes (length v) h)));
          holds = λ k h. subst (λ (s : List ℕ). Holds s k (get_or ls k blank_listed).numbers) is (holds k h);
        }
