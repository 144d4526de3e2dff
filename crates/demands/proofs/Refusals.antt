-- Every refusal is one of document 01's numbers for that operation, so that number 0 says accepted and nothing else. Assumes nothing.
use Prim.Native.Nat.{ℕ, zero, suc, ◌*◌}
use mathlib.Core.Path.{◌≡◌, refl, sym, ap, ◌∙◌, subst}
use mathlib.Core.Bool.{Bool, true, false, ◌&&◌, ◌||◌}
use mathlib.Core.List.{List, [], ◌∷◌, map}
use mathlib.Core.Logic.{inl, inr}
use native.Mathlib.Omega.{arith}
use lib.Dec.{leb, ltb, eqb}
use lib.ListN.{length}
use borrow.Author.Tests.{eqb-true, leb-true}
use Rattle.meaning.specs.Answer.{Answer, given, refused, bind, need, number, Verdict, passed, blamed, ◌then◌, ask, in_turn, after}
use Rattle.meaning.specs.Bits.{low_bits}
use Rattle.meaning.specs.Limits.{most_numbers, most_bytes, rising}
use Rattle.meaning.specs.Limits.{no_sheet, bad_table, bad_plan, unfit_plan, no_column, no_place}
use Rattle.meaning.specs.Limits.{no_room, short_work, cut_short, fallen, bad_orders, bad_board, broken}
use Rattle.meaning.specs.Lists.{all, largest}
use Rattle.meaning.specs.Operations.{Order, listed_by, orders_hold, orders_of, column, numbers_at, board_holds, board_verdict, tallied}
use Rattle.meaning.specs.Operations.{write_listed, write_sheet, write_apart, check, read_sheet, look_sheet, fetch, open_reader, count_board}
use Rattle.meaning.specs.Plan.{plan_of, well_formed, passes, judge_plan, judge, worst_size}
use Rattle.meaning.specs.Rank.{one_at, rank, select}
use Rattle.meaning.specs.Sheet.{is_edition, Listed, sheet_bytes, Column, columns_of, is_sheet, table_holds, sound, read_column, check_column, largest_count}
use Rattle.meaning.specs.Stages.{look}
use Rattle.meaning.proofs.Answers.{Faulty}
use Rattle.meaning.proofs.Tests.{both_true, by-test}
use Rattle.codes.proofs.Numbered.{laws}
use Rattle.table.proofs.InTurn.{turn-passed, turn-refused}
use Rattle.writer.specs.Orders.{list_judged, list_rises, long_together}
use Rattle.demands.specs.Refusals.{among, RefusesBy, BlamesBy, refusal}
use Rattle.stages.proofs.Faults.{column-faulty, look-faulty}

-- ---- what may refuse, part by part
module _ (es : List ℕ) where
  by-need : {A : Type 0} (b : Bool) (e : ℕ) (m : Answer A) → among e es ≡ true → RefusesBy es m → RefusesBy es (need b e m)
  by-need true e m i h = h
  by-need false e m i h = i

  by-bind : {A B : Type 0} (m : Answer A) (k : A → Answer B) → RefusesBy es m → ((a : A) → RefusesBy es (k a)) → RefusesBy es (bind m k)
  by-bind (given a) k h f = f a
  by-bind (refused e) k h f = h

  -- a one that is not there
  one-by : (e : ℕ) → among e es ≡ true → (k : ℕ) (bits : List ℕ) → RefusesBy es (one_at e k bits)
  unfolding one_at
  one-by e i k [] = i
  one-by e i k (zero ∷ bits) = by-bind (one_at e k bits) _ (one-by e i k bits) (λ j. tt)
  one-by e i zero (suc b ∷ bits) = tt
  one-by e i (suc k) (suc b ∷ bits) = by-bind (one_at e k bits) _ (one-by e i k bits) (λ j. tt)

  -- a fault of a body, of either sort
  by-fault : {A : Type 0} (m : Answer A) → among cut_short es ≡ true → among broken es ≡ true → Faulty m → RefusesBy es m
  by-fault (given a) i j h = tt
  by-fault (refused e) i j (inl h) = ap (λ (k : ℕ). among k es) h ∙ i
  by-fault (refused e) i j (inr h) = ap (λ (k : ℕ). among k es) h ∙ j

  by_after : {A : Type 0} (v : Verdict) (m : Answer A) → BlamesBy es v → RefusesBy es m → RefusesBy es (after v m)
  by_after passed m h k = k
  by_after (blamed e j) m h k = h

  by-then : (v w : Verdict) → BlamesBy es v → BlamesBy es w → BlamesBy es (v then w)
  by-then passed w h k = k
  by-then (blamed e j) w h k = h

  by-ask : (b : Bool) (e : ℕ) → among e es ≡ true → BlamesBy es (ask b e)
  by-ask true e i = tt
  by-ask false e i = i

  by_turn : {A B : Type 0} (f : A → Answer B) → ((a : A) → RefusesBy es (f a)) → (k : ℕ) (xs : List A) → BlamesBy es (in_turn f k xs)
  by_turn f h k [] = tt
  by_turn {A} {B} f h k (x ∷ xs) = go (by_turn f h (suc k) xs) (f x) refl
    where
      go : BlamesBy es (in_turn f (suc k) xs) → (m : Answer B) → f x ≡ m → BlamesBy es (in_turn f k (x ∷ xs))
      go rest (given b) e = rw (turn-passed f k x xs b e) rest
      go rest (refused z) e = rw (turn-refused f k x xs z e) (subst (RefusesBy es) e (h x))

  plan-by : among bad_plan es ≡ true → among unfit_plan es ≡ true → (kind : ℕ) (plan : List ℕ) → RefusesBy es (judge_plan kind plan)
  unfolding judge_plan
  plan-by i j kind plan = by-need (well_formed plan) bad_plan _ i (by-need (passes kind (plan_of plan)) unfit_plan _ j tt)

  module _ (one : among no_sheet es ≡ true) (two : among bad_table es ≡ true) (three : among bad_plan es ≡ true) (four : among unfit_plan es ≡ true)
      (sheet : List ℕ) where
    sound-by : BlamesBy es (sound sheet)
    unfolding sound
    sound-by =
        by-then (ask (is_sheet sheet) no_sheet) _ (by-ask (is_sheet sheet) no_sheet one)
        (by-then (ask (table_holds sheet) bad_table) _ (by-ask (table_holds sheet) bad_table two)
        (by_turn (λ (c : Column). judge_plan c.kind c.plan) (λ c. plan-by three four c.kind c.plan) 0 (columns_of sheet)))

    column-by : among no_column es ≡ true → (k : ℕ) → RefusesBy es (column sheet k)
    unfolding column
    column-by five k = by_after (sound sheet) _ sound-by (by-need (ltb k (length (columns_of sheet))) no_column _ five tt)

    check-by : among short_work es ≡ true → among cut_short es ≡ true → among broken es ≡ true → (work : ℕ) → BlamesBy es (check sheet work)
    unfolding check check_column
    check-by eight nine thirteen work =
        by-then (sound sheet) _ sound-by
        (by-then (ask (leb (8 * largest_count sheet) work) short_work) _ (by-ask (leb (8 * largest_count sheet) work) short_work eight)
        (by_turn check_column (λ c. by-fault (read_column c) nine thirteen (column-faulty laws c)) 0 (columns_of sheet)))

-- ---- the operations
pub judge-refusals : (kind : ℕ) (plan : List ℕ) → RefusesBy (3 ∷ 4 ∷ 11 ∷ []) (judge kind plan)
unfolding judge among
judge-refusals kind plan = by-need (3 ∷ 4 ∷ 11 ∷ []) (leb kind rising) bad_orders _ refl (plan-by (3 ∷ 4 ∷ 11 ∷ []) refl refl kind plan)

abbrev ranking : List ℕ
ranking = 1 ∷ 6 ∷ []

pub rank-refusals : (bytes : List ℕ) (bit : ℕ) → RefusesBy (1 ∷ 6 ∷ []) (rank bytes bit)
unfolding rank among
rank-refusals bytes bit = by-need ranking (leb (length bytes) most_bytes) no_sheet _ refl (by-need ranking (leb bit (8 * length bytes)) no_place _ refl tt)

pub select-refusals : (bytes : List ℕ) (k : ℕ) → RefusesBy (1 ∷ 6 ∷ []) (select bytes k)
unfolding select among
select-refusals bytes k = by-need (1 ∷ 6 ∷ []) (leb (length bytes) most_bytes) no_sheet _ refl (one-by (1 ∷ 6 ∷ []) no_place refl k (low_bits bytes))

pub worst-refusals : (plan : List ℕ) (n : ℕ) → RefusesBy (3 ∷ 11 ∷ []) (worst_size plan n)
unfolding worst_size among
worst-refusals plan n = by-need (3 ∷ 11 ∷ []) (well_formed plan) bad_plan _ refl (by-need (3 ∷ 11 ∷ []) (leb n most_numbers) bad_orders _ refl tt)

abbrev writing : List ℕ
writing = 3 ∷ 4 ∷ 7 ∷ 8 ∷ 10 ∷ 11 ∷ []

pub write-refusals : (edition : ℕ) (orders : List Order) (numbers : List ℕ) (work room : ℕ)
    → RefusesBy (3 ∷ 4 ∷ 7 ∷ 8 ∷ 10 ∷ 11 ∷ []) (write_sheet edition orders numbers work room)
unfolding write_sheet write_listed among
write-refusals edition orders numbers work room =
    let ls = listed_by orders numbers in
    by-need writing (is_edition edition) bad_orders _ refl
    (by-need writing (orders_hold orders numbers) bad_orders _ refl
    (by_after writing (in_turn list_judged 0 ls) _ (by_turn writing list_judged (λ l. plan-by writing refl refl l.kind l.plan) 0 ls)
    (by-need writing (all (list_rises edition) ls) fallen _ refl
    (by-need writing (leb (7 * largest (map (λ (c : Listed). length c.numbers) ls)) work) short_work _ refl
    (by-need writing (leb (length (sheet_bytes edition ls)) most_bytes && leb (length (sheet_bytes edition ls)) room) no_room _ refl tt)))))

pub apart-refusals : (edition : ℕ) (kinds plans counts numbers : List ℕ) (work room : ℕ)
    → RefusesBy (3 ∷ 4 ∷ 7 ∷ 8 ∷ 10 ∷ 11 ∷ []) (write_apart edition kinds plans counts numbers work room)
unfolding write_apart among
apart-refusals edition kinds plans counts numbers work room =
    by-need writing (long_together kinds plans counts) bad_orders _ refl (write-refusals edition (orders_of kinds plans counts) numbers work room)

pub check-refusals : (sheet : List ℕ) (work : ℕ) → BlamesBy (1 ∷ 2 ∷ 3 ∷ 4 ∷ 8 ∷ 9 ∷ 13 ∷ []) (check sheet work)
unfolding among
check-refusals sheet work = check-by (1 ∷ 2 ∷ 3 ∷ 4 ∷ 8 ∷ 9 ∷ 13 ∷ []) refl refl refl refl sheet refl refl refl work

abbrev reading : List ℕ
reading = 1 ∷ 2 ∷ 3 ∷ 4 ∷ 5 ∷ 7 ∷ 8 ∷ 9 ∷ 13 ∷ []

pub read-refusals : (sheet : List ℕ) (k work room : ℕ) → RefusesBy (1 ∷ 2 ∷ 3 ∷ 4 ∷ 5 ∷ 7 ∷ 8 ∷ 9 ∷ 13 ∷ []) (read_sheet sheet k work room)
unfolding read_sheet among
read-refusals sheet k work room =
    by-bind reading (column sheet k) _ (column-by reading refl refl refl refl sheet refl k) (λ c.
    by-need reading (leb (7 * c.count) work) short_work _ refl
    (by-need reading (leb c.count room) no_room _ refl (by-fault reading (read_column c) refl refl (column-faulty laws c))))

abbrev looking : List ℕ
looking = 1 ∷ 2 ∷ 3 ∷ 4 ∷ 5 ∷ 6 ∷ 9 ∷ 13 ∷ []

pub lookup-refusals : (sheet : List ℕ) (k place : ℕ) → RefusesBy (1 ∷ 2 ∷ 3 ∷ 4 ∷ 5 ∷ 6 ∷ 9 ∷ 13 ∷ []) (look_sheet sheet k place)
unfolding look_sheet among
lookup-refusals sheet k place =
    by-bind looking (column sheet k) _ (column-by looking refl refl refl refl sheet refl k) (λ c.
    let p = plan_of c.plan in
    by-need looking (ltb place c.count) no_place _ refl (by-fault looking (look p c.body c.count place) refl refl (look-faulty laws p c.body c.count place)))

pub fetch-refusals : (sheet : List ℕ) (k : ℕ) → RefusesBy (1 ∷ 2 ∷ 3 ∷ 4 ∷ 5 ∷ []) (fetch sheet k)
unfolding fetch among
fetch-refusals sheet k = by-bind (1 ∷ 2 ∷ 3 ∷ 4 ∷ 5 ∷ []) (column sheet k) _ (column-by (1 ∷ 2 ∷ 3 ∷ 4 ∷ 5 ∷ []) refl refl refl refl sheet refl k) (λ c. tt)

pub open-refusals : (sheet : List ℕ) (k : ℕ) → RefusesBy (1 ∷ 2 ∷ 3 ∷ 4 ∷ 5 ∷ []) (open_reader sheet k)
unfolding open_reader among
open-refusals sheet k = by-bind (1 ∷ 2 ∷ 3 ∷ 4 ∷ 5 ∷ []) (column sheet k) _ (column-by (1 ∷ 2 ∷ 3 ∷ 4 ∷ 5 ∷ []) refl refl refl refl sheet refl k) (λ c. tt)

tallied-by : (es : List ℕ) (v : Verdict) (endings : List ℕ) → BlamesBy es v → BlamesBy es (tallied v endings).0
tallied-by es passed endings h = tt
tallied-by es (blamed e k) endings h = h

abbrev counting : List ℕ
counting = 1 ∷ 2 ∷ 3 ∷ 4 ∷ 8 ∷ 9 ∷ 12 ∷ 13 ∷ []

pub board-refusals : (sheet : List ℕ) (work : ℕ) → BlamesBy (1 ∷ 2 ∷ 3 ∷ 4 ∷ 8 ∷ 9 ∷ 12 ∷ 13 ∷ []) (count_board sheet work).0
unfolding count_board board_verdict among
board-refusals sheet work =
    tallied-by counting (board_verdict sheet work) (numbers_at sheet 1)
    (by-then counting (check sheet work) _ (check-by counting refl refl refl refl sheet refl refl refl work)
    (by-ask counting (board_holds sheet) bad_board refl))

-- ---- number 0 says accepted
among-some : (e : ℕ) (es : List ℕ) → all (leb 1) es ≡ true → among e es ≡ true → e ≡ 0 → ⊥
unfolding among all
among-some e [] h i z = let y : ◌≡◌ {A = ℕ} 0 1 = cc in omega arith
among-some e (x ∷ es) h i z =
    let (a, b) = both_true (leb 1 x) (all (leb 1) es) h in
    by-test (eqb e x) (λ t. let s : e ≡ x = eqb-true e x t in let l = leb-true 1 x a in omega arith)
    (λ f. among-some e es b (sym (ap (λ (q : Bool). q || among e es) f) ∙ i) z)

pub zero-accepts : {A : Type 0} (es : List ℕ) (m : Answer A) → all (leb 1) es ≡ true → RefusesBy es m → number m ≡ 0 → (a : A) × (m ≡ given a)
zero-accepts es (given a) h i z = (a, refl)
zero-accepts es (refused e) h i z = absurd (among-some e es h i z)

pub zero-passes : (es : List ℕ) (v : Verdict) → all (leb 1) es ≡ true → BlamesBy es v → refusal v ≡ 0 → v ≡ passed
zero-passes es passed h i z = refl
zero-passes es (blamed e k) h i z = absurd (among-some e es h i z)
