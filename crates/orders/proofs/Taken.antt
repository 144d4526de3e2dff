-- Orders taken apart: the slices that are made of them are their kinds, plans and counts. Assumes nothing.
use Prim.Native.Nat.{ℕ, ◌+◌, ◌*◌, ◌≤◌, ◌<◌}
use mathlib.Core.Path.{◌≡◌, refl, sym, ap, ap₂, subst, ◌∙◌}
use mathlib.Core.Bool.{Bool, true, ◌&&◌}
use mathlib.Core.List.{List, [], ◌∷◌, ◌++◌, map, map-append}
use native.Mathlib.Nat.{zero-add}
use native.Mathlib.Numerals.{add-one}
use native.Mathlib.Omega.{arith}
use borrow.Author.Tests.{lt-leb, eq-eqb}
use lib.Dec.{eqb}
use lib.ListN.{length, get_or, take, drop, set, length-set, length-drop}
use lib.Seq.{sets, length-sets, take_all, take-suc, take-suc-set, take-length, take-append-le, drop-append-le, length-take-le}
use Rattle.std.specs.Prelude.{Result, Err}
use Rattle.meaning.specs.Answer.{Answer, need, refused}
use Rattle.meaning.specs.Limits.{most_columns, plan_bytes, bad_orders}
use Rattle.meaning.specs.Operations.{Order as OrderMeant, orders_hold, orders_of, write_sheet, write_apart}
use Rattle.meaning.specs.Promises.{Writes, WritesApart, Fills}
use Rattle.meaning.specs.Says.{says}
use Rattle.meaning.specs.Sheet.{is_edition}
use Rattle.meaning.specs.declared.Refusal.{Refusal}
use Rattle.meaning.specs.declared.Refusal.TheVariants as refusal
use Rattle.meaning.proofs.Answers.{need-refused}
use Rattle.meaning.proofs.Stores.{part-more}
use Rattle.meaning.proofs.Tests.{true-both}
use Rattle.orders.specs.Orders.{order_says}
use Rattle.orders.specs.declared.Order.{Order}

-- over 16 orders are 11
module _ (edition : ℕ) (orders : List OrderMeant) (numbers work o : List ℕ) where
  many : most_columns < length orders → write_sheet edition orders numbers (length work) (length o) ≡ refused bad_orders
  unfolding write_sheet orders_hold
  many h = rw (lt-leb (length orders) most_columns h) (need-refused (is_edition edition) bad_orders)

  pub refuse-many : most_columns < length orders → Writes edition orders numbers work o (Err refusal.BadOrders, o)
  refuse-many h = rw (many h) (refl, refl)

-- ---- one order more
orders-more : (kinds plans counts : List ℕ) (k : ℕ) (plan : List ℕ) (c : ℕ)
    → length plans ≡ plan_bytes * length kinds → length counts ≡ length kinds → length plan ≡ plan_bytes
    → orders_of (kinds ++ (k ∷ [])) (plans ++ plan) (counts ++ (c ∷ []))
    ≡ orders_of kinds plans counts ++ (record { kind = k; plan = plan; count = c } ∷ [])
unfolding orders_of
orders-more [] [] [] k plan c ep ec e = ap (λ (p : List ℕ). record { kind = k; plan = p; count = c } ∷ []) (take_all plan_bytes plan (omega arith))
orders-more [] (p ∷ plans) counts k plan c ep ec e = absurd (omega arith)
orders-more [] [] (d ∷ counts) k plan c ep ec e = absurd (omega arith)
orders-more (x ∷ kinds) plans [] k plan c ep ec e = absurd (omega arith)
orders-more (x ∷ kinds) plans (d ∷ counts) k plan c ep ec e =
    let long : plan_bytes ≤ length plans = omega arith in
    ap₂ (λ (p : List ℕ) (l : List OrderMeant). record { kind = x; plan = p; count = d } ∷ l)
    (take-append-le plan_bytes plans plan long)
    (ap (λ (l : List ℕ). orders_of (kinds ++ (k ∷ [])) l (counts ++ (c ∷ []))) (drop-append-le plan_bytes plans plan long)
    ∙ orders-more kinds (drop plan_bytes plans) counts k plan c (omega (arith, length-drop plan_bytes plans)) (omega arith) e)

-- ---- the orders before i, taken apart: there are at most 16, in 16 places
pub record Apart (list : List Order) (kinds plans counts : List ℕ) (i : ℕ) : Type 0 where
  pub few : length list ≤ most_columns
  pub kinds-long : length kinds ≡ most_columns
  pub plans-long : length plans ≡ plan_bytes * most_columns
  pub counts-long : length counts ≡ most_columns
  pub here : orders_of (take i kinds) (take (plan_bytes * i) plans) (take i counts) ≡ map order_says (take i list)

pub apart-start : (list : List Order) (kinds plans counts : List ℕ) → length list ≤ most_columns
    → length kinds ≡ most_columns → length plans ≡ plan_bytes * most_columns → length counts ≡ most_columns → Apart list kinds plans counts 0
unfolding orders_of
apart-start list kinds plans counts few ek ep ec = record { few = few; kinds-long = ek; plans-long = ep; counts-long = ec; here = refl }

module _ {list : List Order} {kinds plans counts : List ℕ} {i : ℕ} (so : Apart list kinds plans counts i) where
  kinds-cut : (k : ℕ) → k ≤ most_columns → length (take k kinds) ≡ k
  kinds-cut k l = length-take-le k kinds (omega (arith, so.kinds-long))

  plans-cut : (k : ℕ) → k ≤ most_columns → length (take (plan_bytes * k) plans) ≡ plan_bytes * length (take k kinds)
  plans-cut k l =
      length-take-le (plan_bytes * k) plans (omega (arith, so.plans-long)) ∙ ap (λ (j : ℕ). plan_bytes * j) (sym (kinds-cut k l))

  counts-cut : (k : ℕ) → k ≤ most_columns → length (take k counts) ≡ length (take k kinds)
  counts-cut k l = length-take-le k counts (omega (arith, so.counts-long)) ∙ sym (kinds-cut k l)

  module _ (h : i < length list) (d : Order) (whole : length (get_or list i d).plan ≡ plan_bytes) where
    abbrev o : Order
    o = get_or list i d

    plans-more : take (plan_bytes * (i + 1)) (sets plans (plan_bytes * i) o.plan) ≡ take (plan_bytes * i) plans ++ o.plan
    plans-more =
        let e : plan_bytes * (i + 1) ≡ plan_bytes * i + length o.plan = omega arith in
        ap (λ (k : ℕ). take k (sets plans (plan_bytes * i) o.plan)) e
        ∙ ap (λ (k : ℕ). take (plan_bytes * i + length o.plan) (sets plans k o.plan)) (sym (zero-add (plan_bytes * i)))
        ∙ part-more o.plan plans 0 (plan_bytes * i) (omega (arith, so.plans-long, so.few))

    one_more : (l : List ℕ) (a : ℕ) → length l ≡ most_columns → take (i + 1) (set l i a) ≡ take i l ++ (a ∷ [])
    one_more l a e = rw add-one (take-suc-set l i a (omega (arith, so.few)))

    list-more : take (i + 1) list ≡ take i list ++ (o ∷ [])
    list-more = rw add-one (take-suc list i d h)

    pub apart-turn : Apart list (set kinds i o.kind) (sets plans (plan_bytes * i) o.plan) (set counts i o.count) (i + 1)
    apart-turn =
        record {
          few = so.few;
          kinds-long = length-set kinds i o.kind ∙ so.kinds-long;
          plans-long = length-sets plans (plan_bytes * i) o.plan ∙ so.plans-long;
          counts-long = length-set counts i o.count ∙ so.counts-long;
          here =
              ap₂ (λ (ks ps : List ℕ). orders_of ks ps (take (i + 1) (set counts i o.count))) (one_more kinds o.kind so.kinds-long) plans-more
              ∙ ap (orders_of (take i kinds ++ (o.kind ∷ [])) (take (plan_bytes * i) plans ++ o.plan)) (one_more counts o.count so.counts-long)
              ∙ orders-more (take i kinds) (take (plan_bytes * i) plans) (take i counts) o.kind o.plan o.count
              (plans-cut i (omega (arith, so.few))) (counts-cut i (omega (arith, so.few))) whole
              ∙ ap (λ (l : List OrderMeant). l ++ (order_says o ∷ [])) so.here
              ∙ sym (ap (map order_says) list-more ∙ map-append order_says (take i list) (o ∷ []));
        }

module _ {list : List Order} {kinds plans counts : List ℕ} (so : Apart list kinds plans counts (length list)) where
  abbrev n : ℕ
  n = length list

  -- the slices are as long together as the writer asks
  apart-long : eqb (length (take (plan_bytes * n) plans)) (plan_bytes * length (take n kinds)) && eqb (length (take n counts)) (length (take n kinds)) ≡ true
  apart-long =
      true-both (eqb (length (take (plan_bytes * n) plans)) (plan_bytes * length (take n kinds))) (eqb (length (take n counts)) (length (take n kinds)))
      (eq-eqb _ _ (plans-cut so n so.few)) (eq-eqb _ _ (counts-cut so n so.few))

  apart-is : (edition : ℕ) (numbers : List ℕ) (work room : ℕ)
      → write_apart edition (take n kinds) (take (plan_bytes * n) plans) (take n counts) numbers work room
      ≡ write_sheet edition (map order_says list) numbers work room
  unfolding write_apart
  apart-is edition numbers work room =
      ap (λ (b : Bool). need b bad_orders (write_sheet edition (orders_of (take n kinds) (take (plan_bytes * n) plans) (take n counts)) numbers work room))
      apart-long
      ∙ ap (λ (l : List OrderMeant). write_sheet edition l numbers work room) (so.here ∙ ap (map order_says) (take-length list))

  -- what is written by them is what is written by the list
  pub apart-writes : (edition : ℕ) (numbers work o o' : List ℕ) (r : Result ℕ Refusal)
      → WritesApart edition (take n kinds) (take (plan_bytes * n) plans) (take n counts) numbers work o (r, o')
      → Writes edition (map order_says list) numbers work o (r, o')
  apart-writes edition numbers work o o' r =
      subst (λ (a : Answer (List ℕ)). Fills a o (says r) o') (apart-is edition numbers (length work) (length o))
