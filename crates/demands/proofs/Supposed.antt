-- What the demands suppose can be met: two columns are within the limits in either edition, the empty sheet passes, and a sheet's own orders can be lent.
-- Assumes nothing.
use Prim.Native.Nat.{ℕ, ◌≤◌, ◌<◌}
use mathlib.Core.Path.{◌≡◌, refl, ap}
use mathlib.Core.Bool.{true}
use mathlib.Core.List.{List, [], ◌∷◌, map}
use native.Mathlib.Omega.{arith}
use lib.Dec.{ltb}
use lib.ListN.{replicate}
use borrow.Author.Tests.{ltb-true}
use Rattle.meaning.specs.Limits.{number_limit}
use Rattle.meaning.specs.Lists.{all}
use Rattle.meaning.specs.Operations.{Order as OrderMeant, listed_by}
use Rattle.meaning.specs.Places.{Below}
use Rattle.meaning.specs.Sheet.{is_edition, of_kind, worst_sheet, Column, columns_of}
use Rattle.meaning.proofs.Bounds.{below-nil, below-cons}
use Rattle.meaning.proofs.Computed.{meaning}
use Rattle.meaning.proofs.Tests.{both_true}
use Rattle.orders.specs.Orders.{order_says}
use Rattle.orders.specs.declared.Order.{Order}
use Rattle.demands.specs.Demands.{Passing, Within}
use Rattle.demands.specs.Own.{order_for, own_orders}

below_all : (m : ℕ) → 0 < m → (xs : List ℕ) → all (λ x. ltb x m) xs ≡ true → Below m xs
unfolding all
below_all m h [] e = below-nil m h
below_all m h (x ∷ xs) e =
    let (a, b) = both_true (ltb x m) (all (λ y. ltb y m) xs) e in
    below-cons m x xs (ltb-true x m a) (below_all m h xs b)

-- three jobs of the README's night
abbrev orders : List OrderMeant
orders = record { kind = 1; plan = 17 ∷ 4 ∷ replicate 13 0; count = 3 } ∷ record { kind = 0; plan = replicate 15 0; count = 3 } ∷ []

abbrev lists : List ℕ
lists = 1000 ∷ 1002 ∷ 1300 ∷ 0 ∷ 256 ∷ 3 ∷ []

-- what the edition does not touch
in-edition : (edition : ℕ) → is_edition edition ≡ true → all (λ l. of_kind edition l.kind l.numbers) (listed_by orders lists) ≡ true
    → worst_sheet edition (listed_by orders lists) ≤ 78 → Within edition orders lists (replicate 21 0) (replicate 78 0)
unfolding meaning
in-edition edition asked kinds worst =
    record {
      asked = asked;
      limits = refl;
      numbers = below_all number_limit (omega arith) lists refl;
      kinds = kinds;
      plans = refl;
      enough = omega arith;
      short = omega arith;
      fits = omega arith;
    }

pub within-some : Within 1 orders lists (replicate 21 0) (replicate 78 0) × Within 2 orders lists (replicate 21 0) (replicate 78 0)
unfolding meaning
within-some = (in-edition 1 refl refl (omega arith), in-edition 2 refl refl (omega arith))

pub passing-some : Passing (2 ∷ 0 ∷ [])
unfolding meaning
passing-some = record { bytes = below_all 256 (omega arith) (2 ∷ 0 ∷ []) refl; passes = ([], refl) }

-- orders that `orders::write` takes, and that say what the sheet's own say
pub own-list : (sheet : List ℕ) → (orders : List Order) × (map order_says orders ≡ own_orders sheet)
own-list sheet = (map as_order (columns_of sheet), says (columns_of sheet))
  where
    as_order : Column → Order
    as_order c = record { kind = c.kind; plan = c.plan; count = c.count }

    says : (cs : List Column) → map order_says (map as_order cs) ≡ map order_for cs
    says [] = refl
    says (c ∷ cs) = ap (λ (os : List OrderMeant). order_for c ∷ os) (says cs)
