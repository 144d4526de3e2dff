-- Runs whose first values and lengths stand in work, spread into the numbers that they make. Assumes nothing.
use Prim.Native.Nat.{ℕ, ◌+◌, ◌-◌, ◌*◌, ◌≤◌, ◌<◌, min}
use mathlib.Core.Path.{◌≡◌, refl, sym, ap, ◌∙◌}
use mathlib.Core.Bool.{true, false}
use mathlib.Core.List.{List}
use native.Mathlib.Nat.{zero-add, sub-zero}
use native.Mathlib.Omega.{arith}
use Rattle.std.specs.Prelude.{Some}
use lib.ListN.{length, get_or, take}
use lib.Seq.{length-take-le, get_or-take}
use borrow.Author.Tests.{lt-ltb, le-ltb}
use Rattle.meaning.specs.Answer.{Answer, given, refused, bind}
use Rattle.meaning.specs.Lists.{sum}
use Rattle.meaning.specs.Places.{part}
use Rattle.meaning.specs.Says.{refusal_number}
use Rattle.meaning.specs.Stages.{unroll, seek}
use Rattle.meaning.specs.declared.Refusal.{Refusal}
use Rattle.meaning.proofs.Tests.{by_order, by-test}
use Rattle.leaves.proofs.Parts.{part_length}
use Rattle.codes.specs.Firsts.{Firsts}
use Rattle.codes.specs.declared.First.{First}
use Rattle.stages.specs.Runs.{run_fits, Spread}
use Rattle.stages.specs.declared.Laid.{Laid}
use Rattle.stages.proofs.Parts.{part-get}
use Rattle.stages.proofs.RunsBack.{unroll-length}
use Rattle.stages.proofs.Seeks.{seek-none, seek-stops, seek-breaks, seek-here, seek-past, finds}
use Rattle.stages.proofs.Unrolls.{fits-so, laid-at, laid-behind, laid_kept, some-many}
use Rattle.plan_look.specs.Turns.{runs_at, ended_by, stop_of, next_refusal, RunsTurned}
use Rattle.plan_look.proofs.Turns.{firsts-ended}

module _ (from n k runs : ℕ) (w w₁ : List ℕ) (values lengths : First) (laid : Laid) (room : from + 3 * n ≤ length w) (far : k ≤ n)
    (both : ℕ) (eb : both ≡ min values.count lengths.count) (few : both ≤ n)
    (so : Spread (part w (from + n) both) (part w (from + 2 * n) both) n k from w w₁ laid)
    (value_at length_at : ℕ → Answer ℕ) (before behind : List ℕ)
    (fv : Firsts value_at (min runs k) (from + n) before w values) (fl : Firsts length_at (min runs k) (from + 2 * n) behind w lengths) where
  abbrev j : ℕ
  j = laid.runs

  abbrev s : ℕ
  s = laid.numbers

  abbrev laid_values : List ℕ
  laid_values = take j (part w (from + n) both)

  abbrev laid_lengths : List ℕ
  laid_lengths = take j (part w (from + 2 * n) both)

  laid-few : j ≤ both
  laid-few = omega (arith, so.laid.most, part_length w (from + 2 * n) both (omega arith))

  values-long : length laid_values ≡ j
  values-long = length-take-le j (part w (from + n) both) (omega (arith, laid-few, part_length w (from + n) both (omega arith)))

  lengths-long : length laid_lengths ≡ j
  lengths-long = length-take-le j (part w (from + 2 * n) both) so.laid.most

  length-is : (t : ℕ) → t < length laid_lengths → length_at (0 + t) ≡ given (get_or laid_lengths t 0)
  length-is t h =
      let l : t < j = omega (arith, lengths-long) in
      ap length_at (zero-add t) ∙ fl.are t (omega (arith, laid-few))
      ∙ ap (λ (x : ℕ). given x) (sym (get_or-take j (part w (from + 2 * n) both) t 0 l ∙ part-get w (from + 2 * n) both t (omega (arith, laid-few))))

  -- ---- the numbers that stand in work
  numbers-are : (i : ℕ) → i < s → i < k → runs_at n runs length_at value_at i ≡ given (get_or w₁ (from + i) 0)
  numbers-are i h l =
      let total = so.laid.total in
      let found = finds length_at n i laid_values laid_lengths 0 0 (values-long ∙ sym lengths-long) so.laid.some (omega (arith, so.laid.within))
      (omega arith) (omega arith) length-is in
      let t = found.run in
      let below : t < j = omega (arith, found.inside, lengths-long) in
      let sought : seek length_at n i runs 0 0 ≡ given t
      = found.found runs (omega (arith, lengths-long, laid-few, fl.most)) ∙ ap (λ (x : ℕ). given x) (zero-add t) in
      let long : length (unroll laid_values laid_lengths) ≡ s = unroll-length laid_values laid_lengths (values-long ∙ sym lengths-long) ∙ sym total in
      let value : get_or w (from + n + t) 0 ≡ get_or w₁ (from + i) 0
      = sym (get_or-take j (part w (from + n) both) t 0 below ∙ part-get w (from + n) both t (omega (arith, laid-few)))
      ∙ found.value ∙ ap (λ (x : ℕ). get_or (unroll laid_values laid_lengths) x 0) (sub-zero i) ∙ sym (laid-at so.laid (omega arith) i l (omega arith)) in
      rw sought (fv.are t (omega (arith, laid-few)) ∙ ap (λ (x : ℕ). given x) value)

  -- ---- why there are no more of them
  module _ (h : s < k) where
    past : seek length_at n s runs 0 0 ≡ seek length_at n s (runs - j) j s
    past =
        let total = so.laid.total in
        let left : runs - length laid_lengths ≡ runs - j = ap (λ (x : ℕ). runs - x) lengths-long in
        let next : 0 + length laid_lengths ≡ j = omega (arith, lengths-long) in
        let done : 0 + sum laid_lengths ≡ s = omega arith in
        seek-past length_at n s laid_lengths runs 0 0 (omega (arith, lengths-long, laid-few, fl.most)) so.laid.some
        (omega (arith, so.laid.within)) (omega arith) length-is
        ∙ rw (left, next, done)

    -- there are no more runs than numbers
    apart : j ≤ s
    apart = omega (arith, some-many laid_lengths so.laid.some, lengths-long, so.laid.total)

    module _ (l : ℕ) (el : l ≡ get_or w₁ (from + 2 * n + j) 0) where
      length-next : j < lengths.count → length_at j ≡ given l
      length-next m = fl.are j m ∙ ap (λ (x : ℕ). given x) (sym (el ∙ laid-behind so.laid (from + 2 * n + j) (omega arith)))

      fits_not : j < both → run_fits n s l ≡ true → ⊥
      fits_not m t =
          let same : get_or (part w (from + 2 * n) both) j 0 ≡ l
          = part-get w (from + 2 * n) both j m ∙ sym (el ∙ laid-behind so.laid (from + 2 * n + j) (omega arith)) in
          let no = so.stops h (omega (arith, part_length w (from + 2 * n) both (omega arith))) in
          let e : run_fits n s l ≡ false = ap (run_fits n s) (sym same) ∙ no in
          let z : ◌≡◌ {A = ℕ} 0 1 = cc in omega arith

      stops_so : runs_at n runs length_at value_at s ≡ refused (refusal_number (next_refusal n values lengths laid l))
      unfolding next_refusal
      stops_so =
          by_order j lengths.count
          (λ m. rw (lt-ltb j lengths.count m) (by-test (run_fits n s l)
          (λ t. rw t (no_value m t))
          (λ t. rw t (ap then (past ∙ seek-breaks length_at n s (runs - j) j s (omega (arith, fl.most)) l (length-next m) t)))))
          (λ m. rw (le-ltb j lengths.count m) (by_order j runs
          (λ u. let (z, q, t) = no_length m u in rw q (ap then (past ∙ seek-stops length_at n s (runs - j) j s (omega arith) _ t)))
          (λ u. rw (fl.all (omega (arith, fl.most, laid-few))) (ap then (past ∙ seek-none length_at n s (runs - j) j s (omega arith))))))
        where
          then : Answer ℕ → Answer ℕ
          then a = bind a value_at

          no_length : lengths.count ≤ j → j < runs → (z : Refusal) × (lengths.stop ≡ Some z) × (length_at j ≡ refused (refusal_number z))
          no_length m u =
              let e : j ≡ lengths.count = omega (arith, laid-few) in
              let (z, q, t) = fl.stops (omega (arith, apart)) in
              (z, q, ap length_at e ∙ t)

          no_value : j < lengths.count → run_fits n s l ≡ true → runs_at n runs length_at value_at s ≡ refused (refusal_number (stop_of values.stop))
          no_value m t =
              let e : j ≡ values.count = by_order j both (λ b. absurd (fits_not b t)) (λ b. omega (arith, laid-few)) in
              let (z, q, u) = fv.stops (omega (arith, fl.most)) in
              let none : value_at j ≡ refused (refusal_number z) = ap value_at e ∙ u in
              let here = seek-here length_at n s (runs - j) j s (omega (arith, fl.most)) l (length-next m) t (omega (arith, fits-so n s l t)) in
              rw q (ap then (past ∙ here) ∙ none)

pub runs-turned : (runs : ℕ) {from n k : ℕ} {w w₁ : List ℕ} {values lengths : First} {laid : Laid} → from + 3 * n ≤ length w → k ≤ n → values.count ≤ n
    → (both : ℕ) → both ≡ min values.count lengths.count → Spread (part w (from + n) both) (part w (from + 2 * n) both) n k from w w₁ laid
    → (z : Refusal) → z ≡ next_refusal n values lengths laid (get_or w₁ (from + 2 * n + laid.runs) 0)
    → RunsTurned from n k runs w values lengths w₁ (ended_by k laid.numbers z)
runs-turned runs {from} {n} {k} {w} {w₁} {values} {lengths} {laid} room far few both eb so z ez value_at length_at before behind fv fl =
    let b : both ≤ n = omega arith in
    firsts-ended (runs_at n runs length_at value_at) k from w w₁ laid.numbers z
    (numbers-are from n k runs w w₁ values lengths laid room far both eb b so value_at length_at before behind fv fl)
    (λ h. stops_so from n k runs w w₁ values lengths laid room far both eb b so value_at length_at before behind fv fl h _ refl
    ∙ ap (λ (x : Refusal). refused (refusal_number x)) (sym ez))
    (laid_kept so.laid)
