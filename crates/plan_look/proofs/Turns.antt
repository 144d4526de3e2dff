-- The first numbers of a lookup in work, and what a stage makes of them in their place. Assumes nothing.
use Prim.Native.Nat.{ℕ, suc, ◌+◌, ◌≤◌, ◌<◌}
use mathlib.Core.Path.{◌≡◌, refl, sym, ap, ◌∙◌}
use mathlib.Core.List.{List}
use native.Mathlib.Nat.{zero-add}
use native.Mathlib.Numerals.{add-one}
use native.Mathlib.Omega.{arith}
use Rattle.std.specs.Prelude.{Some, None}
use lib.ListN.{length, get_or, take}
use lib.Seq.{take_all, get_or-take}
use borrow.Author.Tests.{lt-ltb, le-ltb}
use Rattle.meaning.specs.Answer.{Answer, given, refused}
use Rattle.meaning.specs.Limits.{broken}
use Rattle.meaning.specs.Lists.{sum}
use Rattle.meaning.specs.Places.{part}
use Rattle.meaning.specs.Plan.{Plan, differences}
use Rattle.meaning.specs.Says.{refusal_number}
use Rattle.meaning.specs.Stages.{sums_from, within, look}
use Rattle.meaning.specs.declared.Refusal.{Refusal}
use Rattle.meaning.specs.declared.Refusal.TheVariants.{Broken}
use Rattle.meaning.proofs.Tests.{by_order}
use Rattle.leaves.proofs.Parts.{part_length}
use Rattle.codes.specs.Firsts.{Firsts, total}
use Rattle.codes.specs.declared.First.{First}
use Rattle.codes.proofs.Totals.{total-refused, total-taken}
use Rattle.stages.specs.Firsts.{first_small, Stored}
use Rattle.stages.proofs.Firsts.{first-most, first-small, first-large}
use Rattle.stages.proofs.Looks.{within-given, sum-taken}
use Rattle.stages.proofs.Parts.{part-get, shorter}
use Rattle.stages.proofs.Raises.{stored-kept, stored_at}
use Rattle.stages.proofs.Scans.{raised_by, raised_at as raised-at, raise-scan, sums-scan, scan-length}
use Rattle.stages.proofs.Through.{within-over, through-all, differences-first}
use Rattle.plan_look.specs.Turns.{raised_at, ended_by, stop_at}

-- ---- first numbers
-- c numbers of k, and a refusal after them
pub firsts-ended : (at : ℕ → Answer ℕ) (k from : ℕ) (w w' : List ℕ) (c : ℕ) (z : Refusal) → ((i : ℕ) → i < c → i < k → at i ≡ given (get_or w' (from + i) 0))
    → (c < k → at c ≡ refused (refusal_number z))
    → take from w' ≡ take from w → Firsts at k from w w' (ended_by k c z)
unfolding ended_by
firsts-ended at k from w w' c z are stops kept =
    by_order c k
    (λ h. rw (lt-ltb c k h) (record {
      most = omega arith;
      are = λ i l. are i l (omega arith);
      stops = λ l. (z, refl, stops l);
      all = λ b. absurd (omega arith);
      kept = kept;
    }))
    (λ h. rw (le-ltb c k h) (record {
      most = omega arith;
      are = λ i l. are i (omega arith) l;
      stops = λ l. absurd
          (omega arith);
      all = λ b. refl;
      kept = kept;
    }))

-- a lookup that refuses at its first place has none
pub firsts-none : (at : ℕ → Answer ℕ) (k from : ℕ) (w : List ℕ) (z : Refusal) → at 0 ≡ refused (refusal_number z) → Firsts at k from w w (ended_by k 0 z)
firsts-none at k from w z e = firsts-ended at k from w w 0 z (λ i h l. absurd (omega arith)) (λ h. e) refl

-- the same lookup by other words
pub firsts-as : (at at' : ℕ → Answer ℕ) (k from : ℕ) (w w' : List ℕ) (r : First) → ((i : ℕ) → at' i ≡ at i) → Firsts at k from w w' r → Firsts at' k from w w' r
firsts-as at at' k from w w' r e f =
    record { most = f.most; are = λ i h. e i ∙ f.are i h; stops = λ h. let (z, q, s) = f.stops h in (z, q, e r.count ∙ s); all = f.all; kept = f.kept }

-- what stands behind them does not matter
pub firsts-stay : (at : ℕ → Answer ℕ) (k from m : ℕ) (w w' w'' : List ℕ) (r : First) → from + k ≤ m → take m w'' ≡ take m w' → Firsts at k from w w' r
    → Firsts at k from w w'' r
firsts-stay at k from m w w' w'' r h e f =
    record {
      most = f.most;
      are = λ i l. f.are i l ∙ ap (λ (x : ℕ). given x) (same i (omega (arith, f.most)));
      stops = f.stops;
      all = f.all;
      kept = shorter from m w'' w' (omega arith) e ∙ f.kept;
    }
  where
    same : (i : ℕ) → from + i < m → get_or w' (from + i) 0 ≡ get_or w'' (from + i) 0
    same i l = sym (get_or-take m w' (from + i) 0 l) ∙ ap (λ (x : List ℕ). get_or x (from + i) 0) (sym e) ∙ get_or-take m w'' (from + i) 0 l

-- ---- what a stage makes of them, up to a number that is too large
module _ {at : ℕ → Answer ℕ} {k from : ℕ} {w₀ w : List ℕ} {got : First} (f : Firsts at k from w₀ w got) where
  abbrev got-numbers : List ℕ
  got-numbers = part w from got.count

  pub numbers-at : (i : ℕ) → i < got.count → at i ≡ given (get_or got-numbers i 0)
  numbers-at i h = f.are i h ∙ ap (λ (x : ℕ). given x) (sym (part-get w from got.count i h))

  module _ (room : from + got.count ≤ length w) where
    numbers-long : length got-numbers ≡ got.count
    numbers-long = part_length w from got.count room

    firsts-stopped : (stage : ℕ → Answer ℕ) (ys : List ℕ) → length ys ≡ got.count → ((i : ℕ) → i < got.count → stage i ≡ within (get_or ys i 0))
        → ((z : ℕ) → at got.count ≡ refused z → stage got.count ≡ refused z) → (w' : List ℕ) (c : ℕ) → Stored ys from w w' c
        → Firsts stage k from w₀ w' (stop_at got c)
    unfolding stop_at
    firsts-stopped stage ys long told stops w' c so =
        let few = first-most ys in
        by_order c got.count
        (λ h. rw (lt-ltb c got.count h)
        (record {
          most = omega (arith, f.most);
          are = λ i l. here i l (omega arith);
          stops = λ l. (Broken, refl, over h);
          all = λ b. absurd (omega (arith, f.most));
          kept = stored-kept so ∙ f.kept;
        }))
        (λ h. rw (le-ltb c got.count h) (record {
          most = f.most;
          are = λ i l. here i (omega arith) l;
          stops = λ l. let (z, q, s) = f.stops l in (z, q, stops (refusal_number z) s);
          all = f.all;
          kept = stored-kept so ∙ f.kept;
        }))
      where
        here : (i : ℕ) → i < c → i < got.count → stage i ≡ given (get_or w' (from + i) 0)
        here i l h =
            told i h ∙ within-given (get_or ys i 0) (first-small ys i (omega (arith, so.many))) ∙ ap (λ (x : ℕ). given x) (sym (stored_at so (omega arith) i l))

        over : c < got.count → stage c ≡ refused broken
        over h =
            let large = first-large ys (omega (arith, so.many)) in
            told c h ∙ ap (λ (i : ℕ). within (get_or ys i 0)) so.many ∙ within-over (get_or ys (first_small ys) 0) large

    pub raised-firsts : (m : ℕ) (w' : List ℕ) (c : ℕ) → Stored (raised_by m got-numbers) from w w' c → Firsts (raised_at m at) k from w₀ w' (stop_at got c)
    raised-firsts m w' c so =
        firsts-stopped (raised_at m at) (raised_by m got-numbers) (scan-length raised_by _ _ raise-scan m got-numbers ∙ numbers-long)
        (λ i h. rw (numbers-at i h) (ap within (raised-at m got-numbers i (omega (arith, numbers-long)))))
        (λ z e. rw e)
        w' c so

  -- ---- their sum
  -- what stops them, stops it
  stopped : {e : Refusal} → got.stop ≡ Some e → (got.count < k) × (at got.count ≡ refused (refusal_number e))
  stopped {e} h =
      by_order got.count k
      (λ l. let (z, q, s) = f.stops l in let same : z ≡ e = cc in (l, s ∙ ap (λ (x : Refusal). refused (refusal_number x)) same))
      (λ l. let q = f.all (omega (arith, f.most)) in let z : ◌≡◌ {A = ℕ} 0 1 = cc in absurd (omega arith))

  whole : got.stop ≡ None → k ≤ got.count
  whole h = by_order got.count k (λ l. let (z, q, s) = f.stops l in let z : ◌≡◌ {A = ℕ} 0 1 = cc in absurd (omega arith)) (λ l. l)

  pub total-fewer : {e : Refusal} → got.stop ≡ Some e → from + got.count ≤ length w → refused (refusal_number e) ≡ total at k
  total-fewer h room =
      let few = numbers-long room in
      let (l, s) = stopped h in
      sym (total-refused at got.count k _ _ l (total-taken at got-numbers (λ j l. numbers-at j (omega arith)) got.count (omega arith)) s)

  pub total-whole : got.stop ≡ None → from + k ≤ length w → (s : ℕ) → s ≡ sum (part w from k) → given s ≡ total at k
  total-whole q room s e =
      let h = whole q in
      let long = part_length w from k room in
      ap (λ (x : ℕ). given x) (e ∙ ap sum (sym (take_all k (part w from k) (omega arith))))
      ∙ sym (total-taken at (part w from k) (λ j l. f.are j (omega arith) ∙ ap (λ (x : ℕ). given x) (sym (part-get w from k j (omega arith)))) k (omega arith))

-- ---- under differences: all that a place is read from comes before its sum
module _ (q : Plan) (body : List ℕ) (n : ℕ) {k from : ℕ} {w₀ w : List ℕ} {got : First} (f : Firsts (look q body n) k from w₀ w got)
    (room : from + got.count ≤ length w) where
  abbrev taken : List ℕ
  taken = part w from got.count

  taken-long : length taken ≡ got.count
  taken-long = part_length w from got.count room

  sum_through : (i : ℕ) → i < got.count → look (differences q) body n i ≡ within (get_or (sums_from 0 taken) i 0)
  unfolding look
  sum_through i h =
      let through = through-all q body n i taken (omega (arith, taken-long)) (λ j l. numbers-at f j (omega arith)) in
      let sums = sum-taken 0 i taken (omega (arith, taken-long)) ∙ zero-add (sum (take (suc i) taken)) in
      rw (through, add-one i) (ap within (sym sums))

  pub summed-firsts : (w' : List ℕ) (c : ℕ) → Stored (sums_from 0 taken) from w w' c → Firsts (look (differences q) body n) k from w₀ w' (stop_at got c)
  summed-firsts w' c so =
      firsts-stopped f room (look (differences q) body n) (sums_from 0 taken) (scan-length sums_from _ _ sums-scan 0 taken ∙ taken-long) sum_through
      (λ z e. differences-first q body n got.count z (λ j l. (get_or taken j 0, numbers-at f j l)) e)
      w' c so
