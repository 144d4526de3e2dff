-- The order of refusals: 11; each plan in turn; each list in turn 10; 8; 7. Assumes nothing.
use Rattle.meaning.specs.declared.Refusal.{Refusal}
use Rattle.meaning.specs.declared.Refusal.TheVariants as refusal
use Rattle.std.specs.Prelude.{Result, Ok, Err}
use Prim.Native.Nat.{ℕ, ◌*◌, ◌≤◌, ◌<◌}
use mathlib.Core.Path.{◌≡◌, refl, sym, ap, ◌∙◌}
use mathlib.Core.Bool.{Bool, true, false, ◌&&◌}
use mathlib.Core.List.{List, ◌++◌}
use native.Mathlib.Nat.{zero-add}
use native.Mathlib.Omega.{arith}
use lib.Dec.{leb}
use lib.ListN.{length, get_or, drop}
use lib.Seq.{sets-eq}
use borrow.Author.Tests.{le-leb, lt-leb}
use Rattle.meaning.specs.Answer.{Answer, given, refused, need, amount, filled, Verdict, passed, blamed, in_turn, after}
use Rattle.meaning.specs.Limits.{most_bytes, bad_orders, fallen, short_work, no_room}
use Rattle.meaning.specs.Lists.{all, largest}
use Rattle.meaning.specs.Operations.{write_listed, write_sheet, write_apart}
use Rattle.meaning.specs.Promises.{WritesApart}
use Rattle.meaning.specs.Says.{refusal_number}
use Rattle.meaning.specs.Sheet.{is_edition, Listed, sheet_bytes}
use Rattle.meaning.proofs.Answers.{not-given, need-refused}
use Rattle.meaning.proofs.Tests.{by_order}
use Rattle.writer.specs.Orders.{columns_of, verdict_told, list_judged, list_rises, long_together, hold, Ordered, Laid}
use Rattle.writer.specs.declared.orders.Orders.{Orders}
use Rattle.writer.proofs.Holds.{list-lengths, ordered}
use Rattle.writer.proofs.Sums.{each-largest}

-- ---- a verdict, and what comes after it
after-refused : {A : Type 0} (v : Verdict) (z : ℕ) (a : Answer A) → refused z ≡ verdict_told v → after v a ≡ refused z
after-refused passed z a e = absurd (not-given z tt e)
after-refused (blamed y k) z a e = let q : y ≡ z = cc in ap (λ (j : ℕ). refused j) q

after-passed : {A : Type 0} (v : Verdict) (a : Answer A) → given tt ≡ verdict_told v → after v a ≡ a
after-passed passed a e = refl
after-passed (blamed y k) a e = absurd (not-given y tt (sym e))

need-both : {A : Type 0} (t u : Bool) (e : ℕ) (a : Answer A) → need t e (need u e a) ≡ need (t && u) e a
need-both true u e a = refl
need-both false u e a = refl

-- what is left of the answer once the lists have risen, and once the work is long enough
abbrev sheet_in : ℕ → List Listed → ℕ → Answer (List ℕ)
sheet_in edition ls room =
    let bytes = sheet_bytes edition ls in
    need (leb (length bytes) most_bytes && leb (length bytes) room) no_room (given bytes)

abbrev sheet_by : ℕ → List Listed → ℕ → ℕ → ℕ → Answer (List ℕ)
sheet_by edition ls most work room = need (leb (7 * most) work) short_work (sheet_in edition ls room)

-- the answer to the orders, and what the writer's contract says of its own answer and of the output afterwards
abbrev answer : ℕ → Orders → List ℕ → List ℕ → Answer (List ℕ)
answer edition o w out = write_apart edition o.kinds.now o.plans.now o.counts.now o.joined.now (length w) (length out)

abbrev Told : ℕ → Orders → List ℕ → List ℕ → Result ℕ Refusal → List ℕ → Type 0
Told edition o w out r out' = WritesApart edition o.kinds.now o.plans.now o.counts.now o.joined.now w out (r, out')

-- ---- what is known past 11, past the plans and 10, and past 8: of the orders, and of the answer
pub record PastOrders (edition : ℕ) (o : Orders) (w out : List ℕ) : Type 0 where
  pub ordered : Ordered o
  pub left : answer edition o w out ≡ write_listed edition (columns_of o) (length w) (length out)

pub record PastLists (edition : ℕ) (o : Orders) (w out : List ℕ) : Type 0 where
  pub ordered : Ordered o
  pub left : answer edition o w out ≡ sheet_by edition (columns_of o) (largest o.counts.now) (length w) (length out)

pub record PastWork (edition : ℕ) (o : Orders) (w out : List ℕ) : Type 0 where
  pub ordered : Ordered o
  pub serves : (k : ℕ) → 7 * get_or o.counts.now k 0 ≤ length w
  pub left : answer edition o w out ≡ sheet_in edition (columns_of o) (length out)

module _ (edition : ℕ) (o : Orders) (w out : List ℕ) where
  told-refused : (z : Refusal) → answer edition o w out ≡ refused (refusal_number z) → Told edition o w out (Err z) out
  told-refused z e = (ap amount (sym e), ap (λ (x : Answer (List ℕ)). filled x out) (sym e))

  -- an edition that there is not is 11, whatever else is
  pub refuse-edition : is_edition edition ≡ false → Told edition o w out (Err refusal.BadOrders) out
  unfolding write_apart write_sheet
  refuse-edition e = told-refused refusal.BadOrders (rw e (need-refused (long_together o.kinds.now o.plans.now o.counts.now) bad_orders))

  module _ (there : is_edition edition ≡ true) where
    -- the two further ways to 11 are one
    one-eleven : answer edition o w out ≡ need (hold o) bad_orders (write_listed edition (columns_of o) (length w) (length out))
    unfolding write_apart write_sheet
    one-eleven =
        rw there (need-both (long_together o.kinds.now o.plans.now o.counts.now) _ bad_orders (write_listed edition (columns_of o) (length w) (length out)))

    pub refuse-orders : hold o ≡ false → Told edition o w out (Err refusal.BadOrders) out
    refuse-orders e = told-refused refusal.BadOrders (one-eleven ∙ rw e)

    pub past-orders : hold o ≡ true → PastOrders edition o w out
    past-orders e = record { ordered = ordered o e; left = one-eleven ∙ rw e }

module _ {edition : ℕ} {o : Orders} {w out : List ℕ} (past : PastOrders edition o w out) where
  pub refuse-plan : (z : Refusal) → refused (refusal_number z) ≡ verdict_told (in_turn list_judged 0 (columns_of o)) → Told edition o w out (Err z) out
  unfolding write_listed
  refuse-plan z e = told-refused edition o w out z (past.left ∙ after-refused (in_turn list_judged 0 (columns_of o)) (refusal_number z) _ e)

  module _ (judged : given tt ≡ verdict_told (in_turn list_judged 0 (columns_of o))) where
    past-plans : answer edition o w out
        ≡ need (all (list_rises edition) (columns_of o)) fallen (sheet_by edition (columns_of o) (largest o.counts.now) (length w) (length out))
    unfolding write_listed
    past-plans =
        past.left ∙ after-passed (in_turn list_judged 0 (columns_of o)) _ judged
        ∙ ap (λ (m : ℕ). need (all (list_rises edition) (columns_of o)) fallen (sheet_by edition (columns_of o) m (length w) (length out)))
        (ap largest (list-lengths o.kinds.now o.plans.now o.counts.now o.joined.now past.ordered.counted past.ordered.whole))

    pub refuse-list : all (list_rises edition) (columns_of o) ≡ false → Told edition o w out (Err refusal.Falls) out
    refuse-list e = told-refused edition o w out refusal.Falls (past-plans ∙ rw e)

    pub past-lists : all (list_rises edition) (columns_of o) ≡ true → PastLists edition o w out
    past-lists e = record { ordered = past.ordered; left = past-plans ∙ rw e }

module _ {edition : ℕ} {o : Orders} {w out : List ℕ} (past : PastLists edition o w out) {most : ℕ} (em : most ≡ largest o.counts.now) where
  pub refuse-work : length w < 7 * most → Told edition o w out (Err refusal.ShortWork) out
  refuse-work l = told-refused edition o w out refusal.ShortWork (past.left ∙ rw (lt-leb (7 * largest o.counts.now) (length w) (omega arith)))

  pub past_work : 7 * most ≤ length w → PastWork edition o w out
  past_work l =
      record {
        ordered = past.ordered;
        serves = λ k. omega (arith, each-largest o.counts.now k);
        left = past.left ∙ rw (le-leb (7 * largest o.counts.now) (length w) (omega arith));
      }

-- the first pass has told the size
module _ {edition : ℕ} {o : Orders} {w out : List ℕ} (past : PastWork edition o w out)
    {s s' : List ℕ} {size : ℕ} (laid : Laid (sheet_bytes edition (columns_of o)) s s' size) where
  abbrev bytes : List ℕ
  bytes = sheet_bytes edition (columns_of o)

  pub refuse-large : most_bytes < size → Told edition o w out (Err refusal.NoRoom) out
  refuse-large l = told-refused edition o w out refusal.NoRoom (past.left ∙ rw (lt-leb (length bytes) most_bytes (laid.over l)))

  module _ (small : size ≤ most_bytes) where
    within : leb (length bytes) most_bytes ≡ true
    within = le-leb (length bytes) most_bytes (omega (arith, (laid.told small).0))

    pub refuse-room : length out < size → Told edition o w out (Err refusal.NoRoom) out
    refuse-room l =
        let long : length out < length bytes = omega (arith, (laid.told small).0) in
        told-refused edition o w out refusal.NoRoom (past.left ∙ rw (within, lt-leb (length bytes) (length out) long))

    -- the second pass says what the first did
    pub accepted : size ≤ length out → {out' : List ℕ} {end : ℕ} → Laid (sheet_bytes edition (columns_of o)) out out' end
        → Told edition o w out (Ok end) out'
    accepted l {out'} {end} again =
        let fits : length bytes ≤ length out = omega (arith, (laid.told small).0) in
        let e : answer edition o w out ≡ given bytes = past.left ∙ rw (within, le-leb (length bytes) (length out) fits) in
        let low : end ≤ most_bytes = by_order most_bytes end (λ g. absurd (omega (arith, (laid.told small).0, again.over g))) (λ g. g) in
        let (same, here) = again.told low in (
          ap (λ (k : ℕ). given k) same ∙ ap amount (sym e),
          here
              ∙ sets-eq bytes out 0 (omega arith)
              ∙ ap (λ (k : ℕ). bytes ++ drop k out) (zero-add (length bytes))
              ∙ ap (λ (x : Answer (List ℕ)). filled x out) (sym e),
        )
