-- Demand 3, first half: lists of their kinds within the limits, under plans that are passed, are written within the worst size, and what is written passes.
-- Assumes nothing.
use Prim.Native.Nat.{ℕ, zero, suc, ◌*◌, ◌≤◌, ◌<◌}
use mathlib.Core.Path.{◌≡◌, refl, sym, ap, ◌∙◌}
use mathlib.Core.Bool.{true, ◌&&◌}
use mathlib.Core.List.{List, [], ◌∷◌, map}
use native.Mathlib.Omega.{arith}
use lib.Dec.{leb}
use lib.ListN.{length, get_or, drop}
use borrow.Author.Tests.{leb-true}
use Rattle.meaning.specs.Answer.{Answer, given, Verdict, passed, blamed, in_turn, after}
use Rattle.meaning.specs.Limits.{number_limit, most_columns, most_numbers, most_bytes, rising, bad_orders, fallen, short_work, no_room}
use Rattle.meaning.specs.Lists.{all, largest}
use Rattle.meaning.specs.Operations.{Order, listed_by, orders_hold, write_listed, write_sheet, check, numbers_at}
use Rattle.meaning.specs.Places.{Below}
use Rattle.meaning.specs.Sheet.{is_edition, Listed, sheet_bytes, worst_sheet}
use Rattle.meaning.proofs.Answers.{need-given, not-given}
use Rattle.meaning.proofs.Tests.{both_true}
use Rattle.table.proofs.InTurn.{each-passed}
use Rattle.table.proofs.Lists.{each_holds}
use Rattle.writer.specs.Orders.{blank_listed, order_holds, list_judged, list_rises}
use Rattle.writer.proofs.Columns.{listed-count}
use Rattle.writer.proofs.Worst.{listed_small, listed-few, sheet-written}
use Rattle.demands.proofs.Passing.{AllWritable, written-passes, list_back}

-- ---- orders that hold
record Held (orders : List Order) (numbers : List ℕ) : Type 0 where
  pub few : length orders ≤ most_columns
  pub each : all order_holds orders ≡ true

held : (orders : List Order) (numbers : List ℕ) → orders_hold orders numbers ≡ true → Held orders numbers
unfolding orders_hold
held orders numbers e =
    let (f, rest) = both_true (leb (length orders) most_columns) _ e in
    record { few = leb-true (length orders) most_columns f; each = (both_true (all order_holds orders) _ rest).0 }

listed-kind : (orders : List Order) (numbers : List ℕ) → all order_holds orders ≡ true → (k : ℕ) →
    (get_or (listed_by orders numbers) k blank_listed).kind ≤ rising
unfolding listed_by all
listed-kind [] numbers h k = omega arith
listed-kind (o ∷ os) numbers h zero =
    let (a, b) = both_true (order_holds o) (all order_holds os) h in
    leb-true o.kind rising (both_true (leb o.kind rising) (leb o.count most_numbers) a).0
listed-kind (o ∷ os) numbers h (suc k) = listed-kind os (drop o.count numbers) (both_true (order_holds o) (all order_holds os) h).1 k

-- ---- the columns that they make
module _ (edition : ℕ) (orders : List Order) (numbers : List ℕ) (small : Below number_limit numbers) (holds : orders_hold orders numbers ≡ true)
    (judged : in_turn list_judged 0 (listed_by orders numbers) ≡ passed) (risen : all (list_rises edition) (listed_by orders numbers) ≡ true) where
  abbrev columns : List Listed
  columns = listed_by orders numbers

  pub all-writable : AllWritable edition columns
  all-writable k h =
      let (u, j) = each-passed list_judged columns blank_listed 0 k judged h in
      record {
        kind = listed-kind orders numbers (held orders numbers holds).each k;
        judged = j;
        risen = each_holds (list_rises edition) columns blank_listed k risen h;
        small = listed_small number_limit (omega arith) orders numbers small k;
        few = listed-few orders numbers (held orders numbers holds).each k;
      }

  pub few-columns : length columns ≤ most_columns
  few-columns = omega (arith, listed-count orders numbers, (held orders numbers holds).few)

-- what an accepted write says
pub record Accepted (edition : ℕ) (orders : List Order) (numbers : List ℕ) (bytes : List ℕ) : Type 0 where
  pub asked : is_edition edition ≡ true
  pub holds : orders_hold orders numbers ≡ true
  pub judged : in_turn list_judged 0 (listed_by orders numbers) ≡ passed
  pub risen : all (list_rises edition) (listed_by orders numbers) ≡ true
  pub short : length (sheet_bytes edition (listed_by orders numbers)) ≤ most_bytes
  pub is : bytes ≡ sheet_bytes edition (listed_by orders numbers)

after-given : {A : Type 0} (v : Verdict) (m : Answer A) (a : A) → after v m ≡ given a → (v ≡ passed) × (m ≡ given a)
after-given passed m a e = (refl, e)
after-given (blamed z k) m a e = absurd (not-given z a e)

pub accepted : (edition : ℕ) (orders : List Order) (numbers : List ℕ) (work room : ℕ) (bytes : List ℕ)
    → write_sheet edition orders numbers work room ≡ given bytes → Accepted edition orders numbers bytes
unfolding write_sheet write_listed
accepted edition orders numbers work room bytes e =
    let ls = listed_by orders numbers in
    let (a, e₀) = need-given (is_edition edition) bad_orders _ bytes e in
    let (h, e₁) = need-given (orders_hold orders numbers) bad_orders _ bytes e₀ in
    let (j, e₂) = after-given (in_turn list_judged 0 ls) _ bytes e₁ in
    let (r, e₃) = need-given (all (list_rises edition) ls) fallen _ bytes e₂ in
    let (w, e₄) = need-given (leb (7 * largest (map (λ (c : Listed). length c.numbers) ls)) work) short_work _ bytes e₃ in
    let sheet = sheet_bytes edition ls in
    let (s, e₅) = need-given (leb (length sheet) most_bytes && leb (length sheet) room) no_room (given sheet) bytes e₄ in
    let same : sheet ≡ bytes = cc in
    record {
      asked = a;
      holds = h;
      judged = j;
      risen = r;
      short = leb-true (length sheet) most_bytes (both_true (leb (length sheet) most_bytes) _ s).0;
      is = sym same;
    }

-- ---- whatever was written passes the check, and its lists are those that were ordered
module _ (edition : ℕ) (orders : List Order) (numbers : List ℕ) (small : Below number_limit numbers)
    (work room : ℕ) (bytes : List ℕ) (e : write_sheet edition orders numbers work room ≡ given bytes) where
  abbrev made : Accepted edition orders numbers bytes
  made = accepted edition orders numbers work room bytes e

  writable : AllWritable edition (listed_by orders numbers)
  writable = all-writable edition orders numbers small made.holds made.judged made.risen

  pub write-passes : (check_work : ℕ) → 8 * largest (map (λ (c : Listed). length c.numbers) (listed_by orders numbers)) ≤ check_work
      → check bytes check_work ≡ passed
  write-passes check_work h =
      ap (λ (s : List ℕ). check s check_work) made.is
      ∙ written-passes edition (listed_by orders numbers) writable made.asked
      (few-columns edition orders numbers small made.holds made.judged made.risen) made.short check_work h

  pub write-back : (k : ℕ) → k < length orders → numbers_at bytes k ≡ (get_or (listed_by orders numbers) k blank_listed).numbers
  write-back k h =
      ap (λ (s : List ℕ). numbers_at s k) made.is
      ∙ list_back edition (listed_by orders numbers) writable k (omega (arith, listed-count orders numbers))

-- ---- and whatever keeps the limits is written
pub record NeverStuck (edition : ℕ) (orders : List Order) (numbers : List ℕ) (work room : ℕ) : Type 0 where
  pub written : write_sheet edition orders numbers work room ≡ given (sheet_bytes edition (listed_by orders numbers))
  pub within : length (sheet_bytes edition (listed_by orders numbers)) ≤ worst_sheet edition (listed_by orders numbers)
  pub passes : (check_work : ℕ) → 8 * largest (map (λ (c : Listed). length c.numbers) (listed_by orders numbers)) ≤ check_work
      → check (sheet_bytes edition (listed_by orders numbers)) check_work ≡ passed
  pub reads : (k : ℕ) → k < length orders → numbers_at (sheet_bytes edition (listed_by orders numbers)) k ≡
      (get_or (listed_by orders numbers) k blank_listed).numbers

pub never_stuck : (edition : ℕ) (orders : List Order) (numbers : List ℕ) (work room : ℕ)
    → is_edition edition ≡ true → Below number_limit numbers → orders_hold orders numbers ≡ true
    → in_turn list_judged 0 (listed_by orders numbers) ≡ passed → all (list_rises edition) (listed_by orders numbers) ≡ true
    → 7 * largest (map (λ (c : Listed). length c.numbers) (listed_by orders numbers)) ≤ work
    → worst_sheet edition (listed_by orders numbers) ≤ most_bytes → worst_sheet edition (listed_by orders numbers) ≤ room
    → NeverStuck edition orders numbers work room
never_stuck edition orders numbers work room asked small holds judged risen enough short fits =
    let (w, most) = sheet-written edition orders numbers work room asked small holds judged risen enough short fits in
    let bytes = sheet_bytes edition (listed_by orders numbers) in
    record {
      written = w;
      within = most;
      passes = write-passes edition orders numbers small work room bytes w;
      reads = write-back edition orders numbers small work room bytes w;
    }
