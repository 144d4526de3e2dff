-- Orders that hold: what 11 asks, in the order in which it is asked, and what then is known. Assumes nothing.
use Prim.Native.Nat.{ℕ, zero, suc, ◌*◌, ◌≤◌, ◌<◌}
use mathlib.Core.Path.{◌≡◌, refl, sym, ap, ap₂, ◌∙◌}
use mathlib.Core.Bool.{Bool, true, false, ◌&&◌}
use mathlib.Core.List.{List, [], ◌∷◌, map}
use native.Mathlib.Omega.{arith}
use lib.Dec.{leb, eqb}
use lib.ListN.{length, get_or, drop, length-drop}
use lib.Seq.{length-take-le}
use borrow.Author.Tests.{le-leb, lt-leb, leb-true, eq-eqb, eqb-true}
use Rattle.meaning.specs.Limits.{most_columns, most_numbers, plan_bytes, rising}
use Rattle.meaning.specs.Lists.{all, sum}
use Rattle.meaning.specs.Operations.{Order, orders_of, orders_hold, listed_by}
use Rattle.meaning.specs.Sheet.{Listed}
use Rattle.std.specs.List.{list_all}
use Rattle.meaning.proofs.Tests.{both_true}
use Rattle.writer.specs.Orders.{columns_by, order_holds, long_together, hold, Ordered}
use Rattle.writer.specs.declared.orders.Orders.{Orders}
use Rattle.writer.proofs.Columns.{order-count}

-- ---- the counts of the orders and the lengths of their lists are the counts
pub order-counts : (kinds plans counts : List ℕ) → length counts ≡ length kinds → map (λ (o : Order). o.count) (orders_of kinds plans counts) ≡ counts
unfolding orders_of
order-counts [] plans [] e = refl
order-counts [] plans (c ∷ counts) e = absurd (omega arith)
order-counts (k ∷ kinds) plans [] e = absurd (omega arith)
order-counts (k ∷ kinds) plans (c ∷ counts) e = ap (λ (l : List ℕ). c ∷ l) (order-counts kinds (drop plan_bytes plans) counts (omega arith))

pub list-lengths : (kinds plans counts numbers : List ℕ) → length counts ≡ length kinds → sum counts ≡ length numbers
    → map (λ (c : Listed). length c.numbers) (columns_by kinds plans counts numbers) ≡ counts
unfolding orders_of listed_by sum
list-lengths [] plans [] numbers e s = refl
list-lengths [] plans (c ∷ counts) numbers e s = absurd (omega arith)
list-lengths (k ∷ kinds) plans [] numbers e s = absurd (omega arith)
list-lengths (k ∷ kinds) plans (c ∷ counts) numbers e s =
    ap₂ (λ (n : ℕ) (l : List ℕ). n ∷ l) (length-take-le c numbers (omega arith))
    (list-lengths kinds (drop plan_bytes plans) counts (drop c numbers) (omega arith) (omega (arith, length-drop c numbers)))

-- ---- every order holds where every kind and every count does
both-twice : (a b c d : Bool) → (a && b) && (c && d) ≡ (a && c) && (b && d)
both-twice true true c d = refl
both-twice true false true d = refl
both-twice true false false d = refl
both-twice false b c d = refl

pub each-apart : (kinds plans counts : List ℕ) → length counts ≡ length kinds
    → list_all (λ (k : ℕ). leb k rising) kinds && list_all (λ (n : ℕ). leb n most_numbers) counts ≡ all order_holds (orders_of kinds plans counts)
unfolding orders_of all
each-apart [] plans [] e = refl
each-apart [] plans (c ∷ counts) e = absurd (omega arith)
each-apart (k ∷ kinds) plans [] e = absurd (omega arith)
each-apart (k ∷ kinds) plans (c ∷ counts) e =
    both-twice (leb k rising) (list_all (λ (k : ℕ). leb k rising) kinds) (leb c most_numbers) (list_all (λ (n : ℕ). leb n most_numbers) counts)
    ∙ ap (λ (t : Bool). (leb k rising && leb c most_numbers) && t) (each-apart kinds (drop plan_bytes plans) counts (omega arith))

-- ---- all that 11 asks
and_last : (t u : Bool) → u ≡ false → false ≡ t && u
and_last true u e = sym e
and_last false u e = refl

module _ (o : Orders) where
  abbrev each : List Order
  each = orders_of o.kinds.now o.plans.now o.counts.now

  each-count : length each ≡ length o.kinds.now
  each-count = order-count o.kinds.now o.plans.now o.counts.now

  pub hold-many : most_columns < length o.kinds.now → false ≡ hold o
  unfolding orders_hold
  hold-many h =
      and_last (long_together o.kinds.now o.plans.now o.counts.now) _ (rw (lt-leb (length each) most_columns (omega (arith, each-count))))

  pub hold-rest : length o.plans.now ≡ plan_bytes * length o.kinds.now → length o.kinds.now ≤ most_columns → length o.counts.now ≡ length o.kinds.now
      → all order_holds each && eqb (sum o.counts.now) (length o.joined.now) ≡ hold o
  unfolding orders_hold
  hold-rest planned few counted =
      rw (eq-eqb (length o.plans.now) (plan_bytes * length o.kinds.now) planned, eq-eqb (length o.counts.now) (length o.kinds.now) counted)
      (rw (le-leb (length each) most_columns (omega (arith, each-count)))
      (ap (λ (l : List ℕ). all order_holds each && eqb (sum l) (length o.joined.now))
      (sym (order-counts o.kinds.now o.plans.now o.counts.now counted))))

counts-small : (kinds plans counts : List ℕ) → length counts ≡ length kinds → all order_holds (orders_of kinds plans counts) ≡ true
    → (k : ℕ) → get_or counts k 0 ≤ most_numbers
unfolding orders_of all
counts-small kinds plans [] e a k = omega arith
counts-small [] plans (c ∷ counts) e a k = absurd (omega arith)
counts-small (x ∷ kinds) plans (c ∷ counts) e a zero =
    leb-true c most_numbers (both_true (leb x rising) (leb c most_numbers) (both_true (leb x rising && leb c most_numbers) _ a).0).1
counts-small (x ∷ kinds) plans (c ∷ counts) e a (suc k) =
    counts-small kinds (drop plan_bytes plans) counts (omega arith) (both_true (leb x rising && leb c most_numbers) _ a).1 k

pub ordered : (o : Orders) → hold o ≡ true → Ordered o
unfolding orders_hold
ordered o e =
    let (long, held) = both_true (long_together o.kinds.now o.plans.now o.counts.now) (orders_hold (each o) o.joined.now) e in
    let (p, c) = both_true (eqb (length o.plans.now) (plan_bytes * length o.kinds.now)) (eqb (length o.counts.now) (length o.kinds.now)) long in
    let (f, rest) = both_true (leb (length (each o)) most_columns) _ held in
    let (a, s) = both_true (all order_holds (each o)) _ rest in
    let counted : length o.counts.now ≡ length o.kinds.now = eqb-true (length o.counts.now) (length o.kinds.now) c in
    record {
      few = omega (arith, leb-true (length (each o)) most_columns f, each-count o);
      planned = eqb-true (length o.plans.now) (plan_bytes * length o.kinds.now) p;
      counted = counted;
      small = counts-small o.kinds.now o.plans.now o.counts.now counted a;
      whole =
          sym (ap sum (order-counts o.kinds.now o.plans.now o.counts.now counted))
          ∙ eqb-true (sum (map (λ (x : Order). x.count) (each o))) (length o.joined.now) s;
    }
