-- What is written is at most the worst size, so an output of the worst size is enough. Assumes nothing.
use Prim.Native.Nat.{ℕ, zero, suc, ◌+◌, ◌*◌, ◌≤◌, ◌<◌}
use mathlib.Core.Path.{◌≡◌, ap}
use mathlib.Core.Bool.{true}
use mathlib.Core.List.{List, [], ◌∷◌, map}
use native.Mathlib.Omega.{arith}
use lib.Dec.{leb, eqb}
use lib.ListN.{length, get_or, drop, length-append, length-take}
use borrow.Author.Tests.{le-leb, leb-true, eqb-true}
use Rattle.meaning.specs.Answer.{given, need, passed, in_turn}
use Rattle.meaning.specs.Limits.{number_limit, most_columns, most_numbers, most_bytes, plan_bytes, rising, bad_plan}
use Rattle.meaning.specs.Lists.{all, sum, joined, largest}
use Rattle.meaning.specs.Operations.{Order, listed_by, orders_hold, write_listed, write_sheet}
use Rattle.meaning.specs.Places.{Below}
use Rattle.meaning.specs.Plan.{plan_of, well_formed, judge_plan, worst_plan}
use Rattle.meaning.specs.Sheet.{is_edition, Listed, body_of, column_for, entry_of, sheet_bytes, worst_sheet, entry_size}
use Rattle.meaning.proofs.Answers.{need-given}
use Rattle.meaning.proofs.Bounds.{below-nil, below-take, below-drop}
use Rattle.meaning.proofs.Tests.{both_true}
use Rattle.codes.proofs.Numbered.{laws}
use Rattle.stages.proofs.Most.{most}
use Rattle.table.proofs.InTurn.{each-passed}
use Rattle.table.proofs.EntryFormat.{entry-long}
use Rattle.writer.specs.Orders.{blank_listed, order_holds, list_judged, list_rises, entry_laid}
use Rattle.writer.proofs.Laying.{sheet-is}

-- a column whose plan has 15 bytes, and whose list has few and small numbers
pub record Fine (l : Listed) : Type 0 where
  pub planned : length l.plan ≡ plan_bytes
  pub small : Below number_limit l.numbers
  pub few : length l.numbers < number_limit

-- ---- the columns of orders that hold are fine where their plans are judged
pub judged-long : (l : Listed) (u : Unit {0}) → list_judged l ≡ given u → length l.plan ≡ plan_bytes
unfolding judge_plan well_formed
judged-long l u e =
    let (formed, rest) = need-given (well_formed l.plan) bad_plan _ u e in
    eqb-true (length l.plan) plan_bytes (both_true (eqb (length l.plan) plan_bytes) _ formed).0

pub listed_small : (m : ℕ) → 0 < m → (orders : List Order) (numbers : List ℕ) → Below m numbers
    → (k : ℕ) → Below m (get_or (listed_by orders numbers) k blank_listed).numbers
unfolding listed_by
listed_small m p [] numbers h k = below-nil m p
listed_small m p (o ∷ os) numbers h zero = below-take m o.count numbers h
listed_small m p (o ∷ os) numbers h (suc k) = listed_small m p os (drop o.count numbers) (below-drop m o.count numbers h) k

pub listed-few : (orders : List Order) (numbers : List ℕ) → all order_holds orders ≡ true
    → (k : ℕ) → length (get_or (listed_by orders numbers) k blank_listed).numbers ≤ most_numbers
unfolding listed_by all
listed-few [] numbers h k = omega arith
listed-few (o ∷ os) numbers h zero =
    let (a, b) = both_true (order_holds o) (all order_holds os) h in
    let (c, d) = both_true (leb o.kind rising) (leb o.count most_numbers) a in
    omega (arith, length-take o.count numbers, leb-true o.count most_numbers d)
listed-few (o ∷ os) numbers h (suc k) = listed-few os (drop o.count numbers) (both_true (order_holds o) (all order_holds os) h).1 k

-- what each column adds to the worst size
abbrev worst_column : ℕ → Listed → ℕ
worst_column edition l = entry_size edition + worst_plan (plan_of l.plan) (length l.numbers)

columns-most : (edition : ℕ) (ls : List Listed) → ((k : ℕ) → k < length ls → Fine (get_or ls k blank_listed))
    → length (joined (entry_laid edition) ls) + length (joined body_of ls) ≤ sum (map (worst_column edition) ls)
unfolding joined sum
columns-most edition [] fine = omega arith
columns-most edition (l ∷ ls) fine =
    let f = fine 0 (omega arith) in
    omega (
      arith,
      columns-most edition ls (λ (k : ℕ) (h : k < length ls). fine (suc k) (omega arith)),
      length-append (entry_laid edition l) (joined (entry_laid edition) ls),
      length-append (body_of l) (joined body_of ls),
      entry-long edition (entry_of (column_for edition l)) f.planned,
      most laws (plan_of l.plan) l.numbers f.small f.few,
    )

pub sheet-most : (edition : ℕ) (ls : List Listed) → ((k : ℕ) → k < length ls → Fine (get_or ls k blank_listed))
    → length (sheet_bytes edition ls) ≤ worst_sheet edition ls
unfolding worst_sheet
sheet-most edition ls fine =
    omega (arith, ap length (sheet-is edition ls), length-append (joined (entry_laid edition) ls) (joined body_of ls), columns-most edition ls fine)

-- orders that hold, whose plans are judged and whose lists are of their kinds, are written where work and output are long enough
pub sheet-written : (edition : ℕ) (orders : List Order) (numbers : List ℕ) (work room : ℕ) → is_edition edition ≡ true → Below number_limit numbers
    → orders_hold orders numbers ≡ true
    → in_turn list_judged 0 (listed_by orders numbers) ≡ passed → all (list_rises edition) (listed_by orders numbers) ≡ true
    → 7 * largest (map (λ (c : Listed). length c.numbers) (listed_by orders numbers)) ≤ work
    → worst_sheet edition (listed_by orders numbers) ≤ most_bytes → worst_sheet edition (listed_by orders numbers) ≤ room
    → (write_sheet edition orders numbers work room ≡ given (sheet_bytes edition (listed_by orders numbers)))
    × (length (sheet_bytes edition (listed_by orders numbers)) ≤ worst_sheet edition (listed_by orders numbers))
unfolding orders_hold write_sheet write_listed
sheet-written edition orders numbers work room known small held judged rise enough short fits =
    let ls = listed_by orders numbers in
    let few : all order_holds orders ≡ true = (both_true (all order_holds orders) _ (both_true (leb (length orders) most_columns) _ held).1).0 in
    let size : length (sheet_bytes edition ls) ≤ worst_sheet edition ls = sheet-most edition ls (λ (k : ℕ) (h : k < length ls).
    let (u, e) = each-passed list_judged ls blank_listed 0 k judged h in
    record {
      planned = judged-long (get_or ls k blank_listed) u e;
      small = listed_small number_limit (omega arith) orders numbers small k;
      few = omega (arith, listed-few orders numbers few k);
    }) in
    (written ls work room known held judged rise enough (omega arith) (omega arith), size)
  where
    written : (ls : List Listed) (work room : ℕ) → is_edition edition ≡ true → orders_hold orders numbers ≡ true
        → in_turn list_judged 0 ls ≡ passed → all (list_rises edition) ls ≡ true
        → 7 * largest (map (λ (c : Listed). length c.numbers) ls) ≤ work → length (sheet_bytes edition ls) ≤ most_bytes → length (sheet_bytes edition ls) ≤ room
        → need (is_edition edition) 11 (need (orders_hold orders numbers) 11 (write_listed edition ls work room)) ≡ given (sheet_bytes edition ls)
    written ls work room known held judged rise enough short fits =
        let most = largest (map (λ (c : Listed). length c.numbers) ls) in
        let size = length (sheet_bytes edition ls) in
        rw (known, held, judged, rise, le-leb (7 * most) work enough, le-leb size most_bytes short, le-leb size room fits)
