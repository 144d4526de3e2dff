-- Orders in turn: what the loops know that have judged the plans, or asked the lists, below k. Assumes nothing.
use Prim.Native.Nat.{ℕ, ◌+◌, ◌≤◌, ◌<◌}
use mathlib.Core.Path.{◌≡◌, refl, sym, ap, ◌∙◌}
use mathlib.Core.Bool.{Bool, true, false}
use mathlib.Core.List.{List}
use native.Mathlib.Omega.{arith}
use lib.ListN.{length, get_or}
use Rattle.meaning.specs.Answer.{given, refused, in_turn}
use Rattle.meaning.specs.Lists.{all, sum}
use Rattle.meaning.specs.Places.{part}
use Rattle.meaning.specs.Plan.{judge_plan, plan_used}
use Rattle.meaning.specs.Sheet.{of_kind}
use Rattle.table.proofs.InTurn.{PassedBelow, below-turn, below-refuse, below_end}
use Rattle.table.proofs.Lists.{HoldBelow, hold-turn, hold-fail, hold-end}
use Rattle.writer.specs.Orders.{columns_of, blank_listed, list_start, plan_given, list_judged, list_rises, verdict_told}
use Rattle.writer.specs.declared.orders.Orders.{Orders}
use Rattle.writer.proofs.Columns.{columns-count, column-is}
use Rattle.writer.proofs.Sums.{start-next, list-within}

-- ---- plans
module _ (o : Orders) {k : ℕ} (so : PassedBelow list_judged (columns_of o) k) where
  pub judged-end : length o.kinds.now ≤ k → given tt ≡ verdict_told (in_turn list_judged 0 (columns_of o))
  judged-end h = ap verdict_told (sym (below_end list_judged (columns_of o) k so (omega (arith, columns-count o))))

  module _ (h : k < length o.kinds.now) {plan : List ℕ} (ep : plan ≡ plan_used (get_or o.kinds.now k 0) (plan_given o.plans.now k)) where
    judged-here : list_judged (get_or (columns_of o) k blank_listed) ≡ judge_plan (get_or o.kinds.now k 0) plan
    judged-here = ap list_judged (column-is o.kinds.now o.plans.now o.counts.now o.joined.now k h) ∙ ap (judge_plan (get_or o.kinds.now k 0)) (sym ep)

    pub judged-turn : given tt ≡ judge_plan (get_or o.kinds.now k 0) plan → PassedBelow list_judged (columns_of o) (k + 1)
    judged-turn e = below-turn list_judged (columns_of o) blank_listed k so (omega (arith, columns-count o)) tt (judged-here ∙ sym e)

    pub judged-refuse : (z : ℕ) → refused z ≡ judge_plan (get_or o.kinds.now k 0) plan → refused z ≡ verdict_told (in_turn list_judged 0 (columns_of o))
    judged-refuse z e =
        ap verdict_told (sym (below-refuse list_judged (columns_of o) blank_listed k so (omega (arith, columns-count o)) z (judged-here ∙ sym e)))

-- ---- lists: those below k are of their kinds, and the next begins at `from`
pub record RisingBelow (edition : ℕ) (o : Orders) (from k : ℕ) : Type 0 where
  pub starts : from ≡ list_start o.counts.now k
  pub below : HoldBelow (list_rises edition) (columns_of o) k

pub rising-start : (edition : ℕ) (o : Orders) → RisingBelow edition o 0 0
unfolding sum
rising-start edition o = record { starts = refl; below = refl }

module _ {edition : ℕ} {o : Orders} {from k : ℕ} (so : RisingBelow edition o from k) where
  pub rising-end : length o.kinds.now ≤ k → true ≡ all (list_rises edition) (columns_of o)
  rising-end h = sym (hold-end (list_rises edition) (columns_of o) k so.below (omega (arith, columns-count o)))

  module _ (h : k < length o.kinds.now) (counted : length o.counts.now ≡ length o.kinds.now) where
    abbrev n : ℕ
    n = get_or o.counts.now k 0

    pub rising-within : sum o.counts.now ≡ length o.joined.now → from + n ≤ length o.joined.now
    rising-within whole = omega (arith, so.starts, whole, list-within o.counts.now k (omega (arith, counted)))

    module _ {t : Bool} (is : t ≡ of_kind edition (get_or o.kinds.now k 0) (part o.joined.now from n)) where
      rises-here : list_rises edition (get_or (columns_of o) k blank_listed) ≡ t
      rises-here =
          ap (list_rises edition) (column-is o.kinds.now o.plans.now o.counts.now o.joined.now k h)
          ∙ ap (λ (i : ℕ). of_kind edition (get_or o.kinds.now k 0) (part o.joined.now i n)) (sym so.starts)
          ∙ sym is

      pub rising-fail : t ≡ false → false ≡ all (list_rises edition) (columns_of o)
      rising-fail e = sym (hold-fail (list_rises edition) (columns_of o) blank_listed k so.below (omega (arith, columns-count o)) (rises-here ∙ e))

      pub rising-turn : t ≡ true → RisingBelow edition o (from + n) (k + 1)
      rising-turn e =
          record {
            starts = omega (arith, so.starts, start-next o.counts.now k (omega (arith, counted)));
            below = hold-turn (list_rises edition) (columns_of o) blank_listed k so.below (omega (arith, columns-count o)) (rises-here ∙ e);
          }
