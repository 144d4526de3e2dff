-- The columns that orders make, one by one: what stands at a number. Assumes nothing.
use Prim.Native.Nat.{ℕ, zero, suc, ◌+◌, ◌*◌, ◌<◌}
use mathlib.Core.Path.{◌≡◌, refl, ap, ap₂, ◌∙◌}
use mathlib.Core.List.{List, [], ◌∷◌}
use native.Mathlib.Omega.{arith}
use lib.ListN.{length, get_or, take, drop}
use lib.Seq.{drop-drop}
use Rattle.meaning.specs.Limits.{plan_bytes}
use Rattle.meaning.specs.Lists.{sum}
use Rattle.meaning.specs.Operations.{Order, listed_by, orders_of}
use Rattle.meaning.specs.Plan.{plan_used}
use Rattle.writer.specs.declared.orders.Orders.{Orders}
use Rattle.writer.specs.Orders.{columns_by, columns_of, blank_listed, list_start, plan_given, listed_at}

-- ---- as many as there are kinds
pub order-count : (kinds plans counts : List ℕ) → length (orders_of kinds plans counts) ≡ length kinds
unfolding orders_of
order-count [] plans counts = refl
order-count (k ∷ kinds) plans counts = ap suc (order-count kinds (drop plan_bytes plans) (drop 1 counts))

pub listed-count : (orders : List Order) (numbers : List ℕ) → length (listed_by orders numbers) ≡ length orders
unfolding listed_by
listed-count [] numbers = refl
listed-count (o ∷ os) numbers = ap suc (listed-count os (drop o.count numbers))

pub column-count : (kinds plans counts numbers : List ℕ) → length (columns_by kinds plans counts numbers) ≡ length kinds
column-count kinds plans counts numbers = listed-count (orders_of kinds plans counts) numbers ∙ order-count kinds plans counts

pub columns-count : (o : Orders) → length (columns_of o) ≡ length o.kinds.now
columns-count o = column-count o.kinds.now o.plans.now o.counts.now o.joined.now

-- ---- one more of each
plan-next : (plans : List ℕ) (k : ℕ) → plan_given (drop plan_bytes plans) k ≡ plan_given plans (suc k)
plan-next plans k =
    let e : plan_bytes + plan_bytes * k ≡ plan_bytes * suc k = omega arith in
    ap (take plan_bytes) (drop-drop (plan_bytes * k) plan_bytes plans ∙ ap (λ (j : ℕ). drop j plans) e)

numbers-next : (counts numbers : List ℕ) (k : ℕ)
    → take (get_or (drop 1 counts) k 0) (drop (list_start (drop 1 counts) k) (drop (get_or counts 0 0) numbers))
    ≡ take (get_or counts (suc k) 0) (drop (list_start counts (suc k)) numbers)
unfolding sum
numbers-next [] numbers k = refl
numbers-next (c ∷ counts) numbers k = ap (take (get_or counts k 0)) (drop-drop (sum (take k counts)) c numbers)

-- ---- column k
pub column-is : (kinds plans counts numbers : List ℕ) (k : ℕ) → k < length kinds
    → get_or (columns_by kinds plans counts numbers) k blank_listed ≡ listed_at kinds plans counts numbers k
unfolding listed_by orders_of sum
column-is [] plans counts numbers k h = absurd (omega arith)
column-is (x ∷ kinds) plans counts numbers zero h = refl
column-is (x ∷ kinds) plans counts numbers (suc k) h =
    column-is kinds (drop plan_bytes plans) (drop 1 counts) (drop (get_or counts 0 0) numbers) k (omega arith)
    ∙ ap₂ (λ (p ns : List ℕ). record { kind = get_or kinds k 0; plan = plan_used (get_or kinds k 0) p; numbers = ns })
    (plan-next plans k) (numbers-next counts numbers k)
