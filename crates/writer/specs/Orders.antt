-- Orders taken apart into slices, and what a pass over their columns lays down.
use Rattle.std.specs.Prelude.{ℕ, ◌+◌, ◌*◌, ◌≤◌, ◌<◌, ◌≡◌, Bool, ◌&&◌, List, [], leb, eqb, length, get_or, take, drop}
use Rattle.std.proofs.lemmas.List.Edits.{sets}
use Rattle.meaning.specs.Answer.{Answer, given, Verdict, after}
use Rattle.meaning.specs.Limits.{most_columns, most_numbers, most_bytes, plan_bytes, rising}
use Rattle.meaning.specs.Lists.{sum}
use Rattle.meaning.specs.Operations.{Order, listed_by, orders_hold, orders_of}
use Rattle.meaning.specs.Plan.{judge_plan, plan_used}
use Rattle.meaning.specs.Sheet.{Listed, of_kind, body_of, column_for, entry_of, entry_bytes}
use Rattle.meaning.specs.declared.Offset.{Offset}
use Rattle.writer.specs.declared.orders.Orders.{Orders}

-- the columns that the slices make
abbrev pub columns_by : List ℕ → List ℕ → List ℕ → List ℕ → List Listed
columns_by kinds plans counts numbers = listed_by (orders_of kinds plans counts) numbers

abbrev pub columns_of : Orders → List Listed
columns_of o = columns_by o.kinds.now o.plans.now o.counts.now o.joined.now

-- what stands for a column that is not there
abbrev pub blank_listed : Listed
blank_listed = record { kind = 0; plan = []; numbers = [] }

-- where list k begins in the joined lists
abbrev pub list_start : List ℕ → ℕ → ℕ
list_start counts k = sum (take k counts)

-- the plan of order k, as it was ordered
abbrev pub plan_given : List ℕ → ℕ → List ℕ
plan_given plans k = take plan_bytes (drop (plan_bytes * k) plans)

-- column k by the slices
abbrev pub listed_at : List ℕ → List ℕ → List ℕ → List ℕ → ℕ → Listed
listed_at kinds plans counts numbers k =
    record {
      kind = get_or kinds k 0;
      plan = plan_used (get_or kinds k 0) (plan_given plans k);
      numbers = take (get_or counts k 0) (drop (list_start counts k) numbers);
    }

-- ---- what is asked of one order, and of one column
abbrev pub order_holds : Order → Bool
order_holds o = leb o.kind rising && leb o.count most_numbers

abbrev pub list_judged : Listed → Answer (Unit {0})
list_judged c = judge_plan c.kind c.plan

-- each plan in turn, as the judge's answer
abbrev pub verdict_told : Verdict → Answer (Unit {0})
verdict_told v = after v (given tt)

abbrev pub list_rises : ℕ → Listed → Bool
list_rises edition c = of_kind edition c.kind c.numbers

-- the slices are as long together as orders are
abbrev pub long_together : List ℕ → List ℕ → List ℕ → Bool
long_together kinds plans counts = eqb (length plans) (plan_bytes * length kinds) && eqb (length counts) (length kinds)

-- and the orders hold: all that 11 refuses otherwise
abbrev pub slices_hold : List ℕ → List ℕ → List ℕ → List ℕ → Bool
slices_hold kinds plans counts numbers = long_together kinds plans counts && orders_hold (orders_of kinds plans counts) numbers

abbrev pub hold : Orders → Bool
hold o = slices_hold o.kinds.now o.plans.now o.counts.now o.joined.now

-- ---- what slices that hold are to those who go over them
pub record Ordered (o : Orders) : Type 0 where
  pub few : length o.kinds.now ≤ most_columns
  pub planned : length o.plans.now ≡ plan_bytes * length o.kinds.now
  pub counted : length o.counts.now ≡ length o.kinds.now
  pub small : (k : ℕ) → get_or o.counts.now k 0 ≤ most_numbers
  pub whole : sum o.counts.now ≡ length o.joined.now

-- a sheet's bytes laid into an output from its start on, as far as they lie within it: r is how many there are, or is above 65,536 where they are
pub record Laid (bytes o o' : List ℕ) (r : ℕ) : Type 0 where
  pub told : r ≤ most_bytes → (r ≡ length bytes) × (o' ≡ sets o 0 bytes)
  pub over : most_bytes < r → most_bytes < length bytes

-- a list of n numbers under a plan of 15 bytes, with work for it, an entry's slot and a body's offset
pub record Room (plan : List ℕ) (work n slot at : ℕ) : Type 0 where
  pub planned : length plan ≡ plan_bytes
  pub few : n ≤ most_numbers
  pub scratch : 7 * n ≤ work
  pub low : slot ≤ most_bytes
  pub below : at ≤ most_bytes

-- a column's entry as it is laid down in a sheet of an edition
abbrev pub entry_laid : ℕ → Listed → List ℕ
entry_laid edition l = entry_bytes edition (entry_of (column_for edition l))

-- a column's body laid at an offset and its entry in a slot, as far as they lie within the output; where the body ends past 65,536 no more is said
pub record ColumnPut (edition : ℕ) (l : Listed) (slot at : ℕ) (o o' : List ℕ) (r : Offset) : Type 0 where
  pub ends : r.byte ≡ at + length (body_of l)
  pub laid : r.byte ≤ most_bytes → o' ≡ sets (sets o at (body_of l)) slot (entry_laid edition l)
