-- The loop that spreads runs, and what reading makes of it. Assumes nothing.
use Prim.Native.Nat.{ℕ, zero, suc, ◌+◌, ◌-◌, ◌*◌, ◌≤◌, ◌<◌, min}
use borrow.Rule.Slice.PartMut.{put_mid}
use mathlib.Core.Path.{◌≡◌, refl, sym, ap, ap₂, ◌∙◌}
use mathlib.Core.Bool.{true, false}
use mathlib.Core.List.{List, [], ◌∷◌, ◌++◌, append_assoc, append-nil}
use native.Mathlib.Numerals.{add-one}
use native.Mathlib.Omega.{arith}
use lib.Dec.{leb, eqb}
use lib.ListN.{length, get_or, take, drop, replicate, length-take, length-replicate, take-append-drop}
use lib.Seq.{sets, length-sets, length-take-le, take_all, take-suc, take-nil, take-append-add, drop-cons, get_or-take}
use borrow.Author.Tests.{eq-eqb, ne_eqb, le-leb, leb-true, leb-false}
use Rattle.std.specs.Prelude.{Ok, Err}
use Rattle.std.proofs.lemmas.List.{take-replicate}
use Rattle.meaning.specs.Lists.{all, sum, differ}
use Rattle.meaning.specs.Places.{part, Got}
use Rattle.meaning.specs.Stages.{unroll, unrolled}
use Rattle.meaning.specs.declared.Refusal.TheVariants as refusal
use Rattle.meaning.proofs.Stores.{sets-append, take-sets, get_d_past, mid-sets}
use Rattle.meaning.proofs.Tests.{by_order, by-test, both_true}
use Rattle.leaves.proofs.Joined.{sum-append}
use Rattle.leaves.proofs.Parts.{part_length}
use Rattle.stages.specs.Runs.{run_fits, Laying, Spread}
use Rattle.stages.specs.declared.Laid.{Laid}
use Rattle.stages.proofs.Gots.{got-refused, got-stored, need-broken}
use Rattle.stages.proofs.Parts.{part-get, stored-get}
use Rattle.stages.proofs.RunsBack.{unroll-length}

-- ---- whether a run fits
pub fits-so : (n s l : ℕ) → run_fits n s l ≡ true → (1 ≤ l) × (s + l ≤ n)
unfolding run_fits
fits-so n s l e = let (a, b) = both_true (leb 1 l) (leb (s + l) n) e in (leb-true 1 l a, leb-true (s + l) n b)

pub so-fits : (n s l : ℕ) → 1 ≤ l → s + l ≤ n → run_fits n s l ≡ true
unfolding run_fits
so-fits n s l a b = rw (le-leb 1 l a, le-leb (s + l) n b)

-- a run that does not fit is empty, or passes n
not-fits : (n s l : ℕ) → run_fits n s l ≡ false → 1 ≤ l → n < s + l
unfolding run_fits
not-fits n s l e h = leb-false (s + l) n (rw (le-leb 1 l h) at e)

-- ---- one run more
unroll-next : (vs ls : List ℕ) (v l : ℕ) → length vs ≡ length ls → unroll (vs ++ (v ∷ [])) (ls ++ (l ∷ [])) ≡ unroll vs ls ++ replicate l v
unfolding unroll
unroll-next [] [] v l p = append-nil (replicate l v)
unroll-next [] (m ∷ ls) v l p = absurd (omega arith)
unroll-next (u ∷ vs) [] v l p = absurd (omega arith)
unroll-next (u ∷ vs) (m ∷ ls) v l p =
    ap (λ (r : List ℕ). replicate m u ++ r) (unroll-next vs ls v l (omega arith)) ∙ sym (append_assoc (replicate m u) (unroll vs ls) (replicate l v))

all-next : (ls : List ℕ) (l : ℕ) → all (leb 1) ls ≡ true → 1 ≤ l → all (leb 1) (ls ++ (l ∷ [])) ≡ true
unfolding all
all-next [] l a h = rw (le-leb 1 l h)
all-next (m ∷ ls) l a h = let (b, c) = both_true (leb 1 m) (all (leb 1) ls) a in rw b (all-next ls l c h)

take-run : (k l m v : ℕ) → m ≡ min k l → take k (replicate l v) ≡ replicate m v
take-run k l m v e =
    by_order k l
    (λ h. let is : m ≡ k = omega arith in rw is (take-replicate k l v (omega arith)))
    (λ h. let is : m ≡ l = omega arith in rw is (take_all k (replicate l v) (omega (arith, length-replicate l v))))

-- ---- what is laid stands there, and what is behind the goal is what it was
module _ {vs ls : List ℕ} {n goal from : ℕ} {w w₁ : List ℕ} {j s : ℕ} (so : Laying vs ls n goal from w w₁ j s) where
  pub laid-at : from + goal ≤ length w → (i : ℕ) → i < goal → i < length (unroll (take j vs) (take j ls))
      → get_or w₁ (from + i) 0 ≡ get_or (unroll (take j vs) (take j ls)) i 0
  laid-at room i h l =
      let laid = unroll (take j vs) (take j ls) in
      let many = length-take goal laid in
      ap (λ (x : List ℕ). get_or x (from + i) 0) so.here ∙ stored-get (take goal laid) w from i (omega arith) (omega arith) ∙ get_or-take goal laid i 0 h

  pub laid-behind : (i : ℕ) → from + goal ≤ i → get_or w₁ i 0 ≡ get_or w i 0
  laid-behind i h =
      let laid = unroll (take j vs) (take j ls) in
      ap (λ (x : List ℕ). get_or x i 0) so.here ∙ get_d_past (take goal laid) w from i 0 (omega (arith, length-take goal laid))

  pub laid_kept : take from w₁ ≡ take from w
  laid_kept = ap (take from) so.here ∙ take-sets (take goal (unroll (take j vs) (take j ls))) w from from (omega arith)

-- no run is empty, so that there are no more of them than numbers
pub some-many : (ls : List ℕ) → all (leb 1) ls ≡ true → length ls ≤ sum ls
unfolding all sum
some-many [] a = omega arith
some-many (l ∷ ls) a = let (b, c) = both_true (leb 1 l) (all (leb 1) ls) a in omega (arith, leb-true 1 l b, some-many ls c)

-- ---- k runs, whose values stand n places after `from` and whose lengths 2n; j of them have been laid, which hold s numbers
pub record Spreading (w₀ : List ℕ) (from n goal k : ℕ) (w : List ℕ) (s j : ℕ) : Type 0 where
  pub room : from + 3 * n ≤ length w₀
  pub far : goal ≤ n
  pub few : k ≤ n
  pub laid : Laying (part w₀ (from + n) k) (part w₀ (from + 2 * n) k) n goal from w₀ w j s

pub spreading-start : {w : List ℕ} {from n goal k : ℕ} → from + 3 * n ≤ length w → goal ≤ n → k ≤ n → Spreading w from n goal k w 0 0
unfolding all sum unroll
spreading-start room far few =
    record {
      room = room;
      far = far;
      few = few;
      laid = record { most = omega arith; some = refl; total = refl; within = omega arith; here = rw take-nil };
    }

module _ {w₀ : List ℕ} {from n goal k : ℕ} {w : List ℕ} {s j : ℕ} (so : Spreading w₀ from n goal k w s j) where
  abbrev vs : List ℕ
  vs = part w₀ (from + n) k

  abbrev ls : List ℕ
  ls = part w₀ (from + 2 * n) k

  values-long : length vs ≡ k
  values-long = part_length w₀ (from + n) k (omega (arith, so.room, so.few))

  lengths-long : length ls ≡ k
  lengths-long = part_length w₀ (from + 2 * n) k (omega (arith, so.room, so.few))

  value-at : j < k → get_or w (from + n + j) 0 ≡ get_or vs j 0
  value-at h = laid-behind so.laid (from + n + j) (omega (arith, so.far)) ∙ sym (part-get w₀ (from + n) k j h)

  length_at : j < k → get_or w (from + 2 * n + j) 0 ≡ get_or ls j 0
  length_at h = laid-behind so.laid (from + 2 * n + j) (omega (arith, so.far)) ∙ sym (part-get w₀ (from + 2 * n) k j h)

  pub spreading-stop : (s < goal → j < k → run_fits n s (get_or w (from + 2 * n + j) 0) ≡ false)
      → Spread vs ls n goal from w₀ w (record { runs = j; numbers = s })
  spreading-stop h =
      record { laid = so.laid; stops = λ a b. let l : j < k = omega (arith, lengths-long) in ap (run_fits n s) (sym (length_at l)) ∙ h a l }

  paired : length (take j vs) ≡ length (take j ls)
  paired = length-take-le j vs (omega (arith, values-long, lengths-long, so.laid.most)) ∙ sym (length-take-le j ls so.laid.most)

  laid-long : length (unroll (take j vs) (take j ls)) ≡ s
  laid-long = unroll-length (take j vs) (take j ls) paired ∙ sym so.laid.total

  room_kept : length w ≡ length w₀
  room_kept = ap length so.laid.here ∙ length-sets w₀ from (take goal (unroll (take j vs) (take j ls)))

  -- the next run's length and its value
  abbrev l : ℕ
  l = get_or w (from + 2 * n + j) 0

  abbrev v : ℕ
  v = get_or w (from + n + j) 0

  module _ (h : j < k) (less : s < goal) where
    next-lengths : take (j + 1) ls ≡ take j ls ++ (l ∷ [])
    next-lengths = rw (add-one, take-suc ls j 0 (omega (arith, lengths-long))) (ap (λ (x : ℕ). take j ls ++ (x ∷ [])) (sym (length_at h)))

    next-values : take (j + 1) vs ≡ take j vs ++ (v ∷ [])
    next-values = rw (add-one, take-suc vs j 0 (omega (arith, values-long))) (ap (λ (x : ℕ). take j vs ++ (x ∷ [])) (sym (value-at h)))

    -- run j is laid as well, as far as the goal
    next-laid : (m : ℕ) → m ≡ min (s + l) goal - s → take goal (unroll (take (j + 1) vs) (take (j + 1) ls)) ≡ unroll (take j vs) (take j ls) ++ replicate m v
    next-laid m em =
        let done = unroll (take j vs) (take j ls) in
        let far : goal ≡ length done + (goal - s) = omega (arith, laid-long) in
        ap₂ (λ (a b : List ℕ). take goal (unroll a b)) next-values next-lengths
        ∙ ap (take goal) (unroll-next (take j vs) (take j ls) v l paired)
        ∙ ap (λ (i : ℕ). take i (done ++ replicate l v)) far
        ∙ take-append-add done (replicate l v) (goal - s)
        ∙ ap (λ (x : List ℕ). done ++ x) (take-run (goal - s) l m v (omega arith))

    pub spreading-turn : run_fits n s l ≡ true → {u : ℕ} → u ≡ min (s + l) goal → {ys : List ℕ} → ys ≡ replicate (from + u - (from + s)) v
        → Spreading w₀ from n goal k (put_mid (from + s) (from + u - (from + s)) w ys) (s + l) (j + 1)
    unfolding sum
    spreading-turn fit {u} eu {ys} e =
        let m = from + u - (from + s) in
        let done = unroll (take j vs) (take j ls) in
        let (one, within) = fits-so n s l fit in
        let was : w ≡ sets w₀ from done = so.laid.here ∙ ap (sets w₀ from) (take_all goal done (omega (arith, laid-long))) in
        let place : from + s ≡ from + length done = omega (arith, laid-long) in
        let now : put_mid (from + s) m w ys ≡ sets w (from + s) (replicate m v) =
        rw e (mid-sets w (replicate m v) (from + s) m (length-replicate m v) (omega (arith, room_kept, so.room, so.far))) in
        record {
          room = so.room;
          far = so.far;
          few = so.few;
          laid =
              record {
                most = omega (arith, lengths-long);
                some = rw next-lengths (all-next (take j ls) l so.laid.some one);
                total = omega (arith, so.laid.total, ap sum next-lengths, sum-append (take j ls) (l ∷ []));
                within = omega arith;
                here = now
                    ∙ ap₂ (λ (a : List ℕ) (i : ℕ). sets a i (replicate m v)) was place
                    ∙ sets-append done (replicate m v) w₀ from
                    ∙ ap (sets w₀ from) (sym (next-laid m (omega arith)));
              };
        }

-- ---- reading: all runs are laid, and they make all numbers
sum-part : (ls : List ℕ) (j : ℕ) → j < length ls → sum (take j ls) + get_or ls j 0 ≤ sum ls
unfolding sum
sum-part ls j h =
    omega (arith, ap sum (take-append-drop j ls), sum-append (take j ls) (drop j ls), ap sum (drop-cons ls j 0 h))

all-at : (ls : List ℕ) (j : ℕ) → j < length ls → all (leb 1) ls ≡ true → 1 ≤ get_or ls j 0
unfolding all
all-at [] j h a = absurd (omega arith)
all-at (l ∷ ls) zero h a = leb-true 1 l (both_true (leb 1 l) (all (leb 1) ls) a).0
all-at (l ∷ ls) (suc j) h a = all-at ls j (omega arith) (both_true (leb 1 l) (all (leb 1) ls) a).1

module _ (k : ℕ) {n from : ℕ} {w w₁ : List ℕ} {r : Laid} (room : from + 3 * n ≤ length w) (few : k ≤ n)
    (so : Spread (part w (from + n) k) (part w (from + 2 * n) k) n n from w w₁ r) where
  abbrev values : List ℕ
  values = part w (from + n) k

  abbrev lengths : List ℕ
  lengths = part w (from + 2 * n) k

  many-values : length values ≡ k
  many-values = part_length w (from + n) k (omega arith)

  many-lengths : length lengths ≡ k
  many-lengths = part_length w (from + 2 * n) k (omega arith)

  -- a run that is left does not fit
  left_over : r.runs < length lengths → all (leb 1) lengths ≡ true → n < sum lengths
  left_over h a =
      let l = get_or lengths r.runs 0 in
      let one : 1 ≤ l = all-at lengths r.runs h a in
      let over : n < r.numbers + l = by_order r.numbers n (λ k. not-fits n r.numbers l (so.stops k h) one) (λ k. omega arith) in
      omega (arith, sum-part lengths r.runs h, so.laid.total)

  pub unrolled-left : r.runs < k → Got (unrolled n values lengths) from w w₁ (Err refusal.Broken)
  unfolding unrolled
  unrolled-left h =
      got-refused _ from w w₁ refusal.Broken
      (by-test (all (leb 1) lengths) (λ t. rw (t, ne_eqb (sum lengths) n (λ q. omega (arith, left_over (omega (arith, many-lengths)) t)))) (λ t. rw t))
      (laid_kept so.laid)

  module _ (h : k ≤ r.runs) where
    all-lengths : take r.runs lengths ≡ lengths
    all-lengths = take_all r.runs lengths (omega (arith, many-lengths))

    pub unrolled-short : r.numbers < n → Got (unrolled n values lengths) from w w₁ (Err refusal.Broken)
    unfolding unrolled
    unrolled-short l =
        got-refused _ from w w₁ refusal.Broken
        (need-broken (all (leb 1) lengths) _ (rw (ne_eqb (sum lengths) n (λ q. omega (arith, so.laid.total, ap sum all-lengths)))))
        (laid_kept so.laid)

    pub unrolled-whole : n ≤ r.numbers → differ values ≡ true → Got (unrolled n values lengths) from w w₁ (Ok n)
    unfolding unrolled
    unrolled-whole l d =
        let total : sum lengths ≡ n = omega (arith, so.laid.total, so.laid.within, ap sum all-lengths) in
        let long : length (unroll values lengths) ≡ n = unroll-length values lengths (many-values ∙ sym many-lengths) ∙ total in
        let all-values : take r.runs values ≡ values = take_all r.runs values (omega (arith, many-values)) in
        let whole : take n (unroll (take r.runs values) (take r.runs lengths)) ≡ unroll values lengths =
        ap₂ (λ (a b : List ℕ). take n (unroll a b)) all-values all-lengths ∙ take_all n (unroll values lengths) (omega arith) in
        got-stored _ from n w w₁ (unroll values lengths)
        (rw (ap (all (leb 1)) (sym all-lengths) ∙ so.laid.some, eq-eqb (sum lengths) n total, d))
        long
        (omega arith)
        (so.laid.here ∙ ap (sets w from) whole)

-- the values' neighbours are not all apart
pub unrolled-same : (vs ls : List ℕ) (n from : ℕ) (w : List ℕ) → differ vs ≡ false → Got (unrolled n vs ls) from w w (Err refusal.Broken)
unfolding unrolled
unrolled-same vs ls n from w e =
    got-refused _ from w w refusal.Broken (need-broken (all (leb 1) ls) _ (need-broken (eqb (sum ls) n) _ (rw e))) refl
