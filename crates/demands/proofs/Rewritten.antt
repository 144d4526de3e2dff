-- Demand 2: a sheet that passes the check, written again in its own edition from its own lists, kinds and plans, is byte for byte the same. Assumes nothing.
use Prim.Native.Nat.{ℕ, suc, ◌+◌, ◌*◌, ◌≤◌, ◌<◌}
use mathlib.Core.Path.{◌≡◌, refl, sym, ap, ap₂, ◌∙◌, subst}
use mathlib.Core.Bool.{true}
use mathlib.Core.List.{List, [], ◌∷◌, map}
use native.Mathlib.Omega.{arith}
use lib.Dec.{leb}
use lib.ListN.{length, get_or, length-append, length-map}
use lib.Seq.{take_at, drop_at}
use borrow.Author.Tests.{le-leb, eq-eqb}
use Rattle.meaning.specs.Answer.{given, passed}
use Rattle.meaning.specs.Limits.{most_columns, most_numbers, most_bytes, plan_bytes, rising}
use Rattle.meaning.specs.Lists.{all, sum, joined, largest}
use Rattle.meaning.specs.Operations.{Order, listed_by, orders_hold, write_listed, write_sheet, orders_of, write_apart, check}
use Rattle.meaning.specs.Places.{Below}
use Rattle.meaning.specs.Sheet.{Listed, Column, column_for, assemble, sheet_bytes, edition_of, columns_of, table_size, largest_count}
use Rattle.meaning.proofs.Tests.{true-both}
use Rattle.table.specs.Offsets.{blank_column}
use Rattle.table.proofs.Assembled.{columns-back}
use Rattle.table.proofs.Columns.{column-count, edition-is, sizes-all}
use Rattle.table.proofs.Sounds.{sound-sheet, sound-table}
use Rattle.writer.specs.Orders.{order_holds, list_judged, list_rises}
use Rattle.sheet.proofs.Checks.{check-passed}
use Rattle.demands.specs.Own.{order_for, numbers_for, own_orders, own_numbers, own_kinds, own_plans, own_counts, listed_for}
use Rattle.demands.proofs.Kept.{Kept, AllKept, all-kept}
use Rattle.demands.proofs.Passing.{all-turn}

later : (c : Column) (cs : List Column) → AllKept (c ∷ cs) → AllKept cs
later c cs kept k h = kept (suc k) (omega arith)

-- the columns are of one edition
abbrev Of : ℕ → List Column → Type 0
Of edition cs = (k : ℕ) → k < length cs → (get_or cs k blank_column).edition ≡ edition

-- ---- a column that was read and is written again in its edition is the same
same-column : (edition : ℕ) (c : Column) → c.edition ≡ edition → Kept c → column_for edition (listed_for c) ≡ c
same-column edition c made kept =
    let size = ap length kept.body ∙ kept.long in
    λ i. record { edition = sym made i; kind = c.kind; plan = c.plan; count = kept.many i; size = size i; body = kept.body i }

same-columns : (edition : ℕ) (cs : List Column) → Of edition cs → AllKept cs → map (column_for edition) (map listed_for cs) ≡ cs
same-columns edition [] made kept = refl
same-columns edition (c ∷ cs) made kept =
    ap₂ (λ (d : Column) (ds : List Column). d ∷ ds) (same-column edition c (made 0 (omega arith)) (kept 0 (omega arith)))
    (same-columns edition cs (λ k h. made (suc k) (omega arith)) (later c cs kept))

-- ---- its own orders make its own columns
own-listed : (cs : List Column) → AllKept cs → listed_by (map order_for cs) (joined numbers_for cs) ≡ map listed_for cs
unfolding listed_by joined
own-listed [] kept = refl
own-listed (c ∷ cs) kept =
    let f = kept 0 (omega arith) in
    let rest = joined numbers_for cs in
    ap₂ (λ (l : Listed) (ls : List Listed). l ∷ ls)
    (ap₂ (λ (p ns : List ℕ). record { kind = c.kind; plan = p; numbers = ns }) f.used (take_at (numbers_for c) rest c.count f.many))
    (ap (listed_by (map order_for cs)) (drop_at (numbers_for c) rest c.count f.many) ∙ own-listed cs (later c cs kept))

own-holds : (cs : List Column) → AllKept cs → all order_holds (map order_for cs) ≡ true
unfolding all
own-holds [] kept = refl
own-holds (c ∷ cs) kept =
    let f = kept 0 (omega arith) in
    true-both (order_holds (order_for c)) _
    (true-both (leb c.kind rising) _ (le-leb c.kind rising f.kind) (le-leb c.count most_numbers f.few))
    (own-holds cs (later c cs kept))

own-sum : (cs : List Column) → AllKept cs → sum (map (λ (o : Order). o.count) (map order_for cs)) ≡ length (joined numbers_for cs)
unfolding sum joined
own-sum [] kept = refl
own-sum (c ∷ cs) kept = omega (arith, length-append (numbers_for c) (joined numbers_for cs), (kept 0 (omega arith)).many, own-sum cs (later c cs kept))

own-risen : (edition : ℕ) (cs : List Column) → Of edition cs → AllKept cs → all (list_rises edition) (map listed_for cs) ≡ true
unfolding all
own-risen edition [] made kept = refl
own-risen edition (c ∷ cs) made kept =
    let risen = subst (λ (e : ℕ). list_rises e (listed_for c) ≡ true) (made 0 (omega arith)) (kept 0 (omega arith)).risen in
    true-both (list_rises edition (listed_for c)) _ risen (own-risen edition cs (λ k h. made (suc k) (omega arith)) (later c cs kept))

own-lengths : (cs : List Column) → AllKept cs → map (λ (l : Listed). length l.numbers) (map listed_for cs) ≡ map (λ (c : Column). c.count) cs
own-lengths [] kept = refl
own-lengths (c ∷ cs) kept = ap₂ (λ (n : ℕ) (t : List ℕ). n ∷ t) (kept 0 (omega arith)).many (own-lengths cs (later c cs kept))

-- ---- taken apart
-- slices that are as long together as orders are: the writer on orders taken apart is the writer on those orders
pub apart-is : (edition : ℕ) (kinds plans counts numbers : List ℕ) (work room : ℕ) → length plans ≡ plan_bytes * length kinds → length counts ≡ length kinds
    → write_apart edition kinds plans counts numbers work room ≡ write_sheet edition (orders_of kinds plans counts) numbers work room
unfolding write_apart
apart-is edition kinds plans counts numbers work room planned counted =
    rw (eq-eqb (length plans) (plan_bytes * length kinds) planned, eq-eqb (length counts) (length kinds) counted)

-- the slices of columns
abbrev kinds_of : List Column → List ℕ
kinds_of cs = map (λ (c : Column). c.kind) cs

abbrev plans_of : List Column → List ℕ
plans_of cs = joined (λ (c : Column). c.plan) cs

abbrev counts_of : List Column → List ℕ
counts_of cs = map (λ (c : Column). c.count) cs

own-apart : (cs : List Column) → AllKept cs → orders_of (kinds_of cs) (plans_of cs) (counts_of cs) ≡ map order_for cs
unfolding orders_of joined
own-apart [] kept = refl
own-apart (c ∷ cs) kept =
    let f = kept 0 (omega arith) in
    let rest = plans_of cs in
    ap₂ (λ (o : Order) (os : List Order). o ∷ os)
    (ap (λ (p : List ℕ). record { kind = c.kind; plan = p; count = c.count }) (take_at c.plan rest plan_bytes f.planned))
    (ap (λ (p : List ℕ). orders_of (kinds_of cs) p (counts_of cs)) (drop_at c.plan rest plan_bytes f.planned) ∙ own-apart cs (later c cs kept))

own-plans : (cs : List Column) → AllKept cs → length (plans_of cs) ≡ plan_bytes * length cs
unfolding joined
own-plans [] kept = refl
own-plans (c ∷ cs) kept = omega (arith, length-append c.plan (plans_of cs), (kept 0 (omega arith)).planned, own-plans cs (later c cs kept))

module _ (sheet : List ℕ) (bytes : Below 256 sheet) (check_work : ℕ) (passes : check sheet check_work ≡ passed) where
  abbrev cs : List Column
  cs = columns_of sheet

  kept : AllKept cs
  kept = all-kept sheet bytes check_work passes

  of_one : Of (edition_of sheet) cs
  of_one k h = edition-is sheet k (omega (arith, column-count sheet))

  sheet-back : sheet_bytes (edition_of sheet) (map listed_for cs) ≡ sheet
  unfolding sheet_bytes
  sheet-back =
      let is = sound-sheet sheet (check-passed sheet check_work passes).ready.sounds in
      let table = sound-table sheet (check-passed sheet check_work passes).ready.sounds in
      let filled : table_size sheet + sum (map (λ (c : Column). c.size) cs) ≡ length sheet = omega (arith, sizes-all sheet, table.filled) in
      ap (assemble (edition_of sheet)) (same-columns (edition_of sheet) cs of_one kept)
      ∙ columns-back sheet bytes is.least table.whole filled

  -- with work as stated and an output that holds it
  module _ (work room : ℕ) (enough : 7 * largest_count sheet ≤ work) (fits : length sheet ≤ room) where
    listed_back : write_listed (edition_of sheet) (map listed_for cs) work room ≡ given sheet
    unfolding write_listed largest_count
    listed_back =
        let is = sound-sheet sheet (check-passed sheet check_work passes).ready.sounds in
        rw (
          all-turn list_judged listed_for 0 blank_column cs (λ k h. (tt, (kept k h).judged)),
          own-risen (edition_of sheet) cs of_one kept,
          own-lengths cs kept,
          le-leb (7 * largest (map (λ (c : Column). c.count) cs)) work enough,
          sheet-back,
          le-leb (length sheet) most_bytes is.most,
          le-leb (length sheet) room fits,
        )

    own-orders : orders_hold (own_orders sheet) (own_numbers sheet) ≡ true
    unfolding orders_hold
    own-orders =
        let is = sound-sheet sheet (check-passed sheet check_work passes).ready.sounds in
        let few = le-leb (length (own_orders sheet)) most_columns (omega (arith, length-map cs order_for, column-count sheet, is.few)) in
        let whole = eq-eqb (sum (map (λ (o : Order). o.count) (own_orders sheet))) (length (own_numbers sheet)) (own-sum cs kept) in
        true-both (leb (length (own_orders sheet)) most_columns) _ few (true-both (all order_holds (own_orders sheet)) _ (own-holds cs kept) whole)

    pub same-sheet : write_sheet (edition_of sheet) (own_orders sheet) (own_numbers sheet) work room ≡ given sheet
    unfolding write_sheet
    same-sheet =
        let is = sound-sheet sheet (check-passed sheet check_work passes).ready.sounds in
        rw (is.edition, own-orders, own-listed cs kept) listed_back

    pub same-apart : write_apart (edition_of sheet) (own_kinds sheet) (own_plans sheet) (own_counts sheet) (own_numbers sheet) work room ≡ given sheet
    same-apart =
        let kinds = length-map cs (λ (c : Column). c.kind) in
        apart-is (edition_of sheet) (own_kinds sheet) (own_plans sheet) (own_counts sheet) (own_numbers sheet) work room
        (omega (arith, own-plans cs kept, kinds))
        (length-map cs (λ (c : Column). c.count) ∙ sym kinds)
        ∙ ap (λ (os : List Order). write_sheet (edition_of sheet) os (own_numbers sheet) work room) (own-apart cs kept)
        ∙ same-sheet
