-- The loop that splits a list into its runs: what is still to be stored, stored from here, is the whole. Assumes nothing.
use Prim.Native.Nat.{ℕ, suc, ◌+◌, ◌-◌, ◌*◌, ◌≤◌, ◌<◌}
use mathlib.Core.Path.{◌≡◌, sym, ap, ap₂, ◌∙◌}
use mathlib.Core.List.{List, [], ◌∷◌}
use native.Mathlib.Nat.{add-zero, zero-add}
use native.Mathlib.Omega.{arith}
use lib.ListN.{length, get_or, take, drop, set, length-drop}
use lib.Seq.{sets, length-sets, get_or-take}
use Rattle.meaning.specs.Places.{part}
use Rattle.meaning.specs.Stages.{values_after, lengths_after, run_values, run_lengths}
use Rattle.meaning.proofs.Stores.{take-sets, sets-swap, part-sets, part_same}
use Rattle.leaves.proofs.Parts.{part_length}
use Rattle.stages.specs.Runs.{RunsMade}
use Rattle.stages.proofs.Parts.{part_at, part-first, part_end}
use Rattle.stages.proofs.Runs.{values_same, values-next, lengths-same, lengths-next, after-many, after-few, runs-many, runs-few}

-- `v` is the present run's value, `k` its length so far, `j` runs are behind it, `i` is the place
pub record Running (w₀ : List ℕ) (from n : ℕ) (w : List ℕ) (v k j i : ℕ) : Type 0 where
  pub room : from + 3 * n ≤ length w₀
  pub behind : j < i
  pub most : i ≤ n
  pub short : k ≤ i
  pub count : length (run_values (part w₀ from n)) ≡ j + length (values_after v (drop i (part w₀ from n)))
  pub rest : sets (sets w (from + n + j) (lengths_after v k (drop i (part w₀ from n)))) (from + 2 * n + j) (values_after v (drop i (part w₀ from n)))
      ≡ sets (sets w₀ (from + n) (run_lengths (part w₀ from n))) (from + 2 * n) (run_values (part w₀ from n))

-- both lists have been stored
made : (w₀ : List ℕ) (from n : ℕ) → from + 3 * n ≤ length w₀ → (w : List ℕ) (r : ℕ) → r ≡ length (run_values (part w₀ from n))
    → w ≡ sets (sets w₀ (from + n) (run_lengths (part w₀ from n))) (from + 2 * n) (run_values (part w₀ from n)) → RunsMade (part w₀ from n) from n w₀ w r
made w₀ from n room w r is e =
    let l = part w₀ from n in
    let w₁ = sets w₀ (from + n) (run_lengths l) in
    let few : length (run_values l) ≤ n = omega (arith, runs-few l, part_length w₀ from n (omega arith)) in
    let many : r ≡ length (run_lengths l) = is ∙ sym (runs-many l) in
    record {
      many = is;
      lengths =
          part_same w w₁ (from + n) r (from + 2 * n) (omega arith)
          (ap (take (from + 2 * n)) e ∙ take-sets (run_values l) w₁ (from + 2 * n) (from + 2 * n) (omega arith))
          ∙ rw many (part-sets (run_lengths l) w₀ (from + n) (omega arith));
      values = rw (e, is) (part-sets (run_values l) w₁ (from + 2 * n) (omega (arith, length-sets w₀ (from + n) (run_lengths l))));
      kept = ap (take (from + n)) e ∙ take-sets (run_values l) w₁ (from + n) (from + 2 * n) (omega arith)
          ∙ take-sets (run_lengths l) w₀ (from + n) (from + n) (omega arith);
    }

pub running_none : (n : ℕ) {w : List ℕ} {from : ℕ} → from + 3 * n ≤ length w → n ≡ 0 → RunsMade (part w from n) from n w w 0
unfolding run_values run_lengths
running_none n {w} {from} room e = made w from n room w 0 (rw e) (rw e)

pub running-start : {w : List ℕ} {from n : ℕ} → from + 3 * n ≤ length w → (n ≡ 0 → ⊥) → Running w from n w (get_or w from 0) 1 0 1
unfolding run_values run_lengths
running-start {w} {from} {n} room h =
    let e = part-first w from n (omega arith) h in
    record {
      room = room;
      behind = omega arith;
      most = omega arith;
      short = omega arith;
      count = ap (λ (l : List ℕ). length (run_values l)) e ∙ sym (zero-add (length (values_after (get_or w from 0) (drop 1 (part w from n)))));
      rest = rw (add-zero (from + n), add-zero (from + 2 * n))
          (sym (ap (λ (l : List ℕ). sets (sets w (from + n) (run_lengths l)) (from + 2 * n) (run_values l)) e));
    }

-- two stores, before the rest of the two lists
two-stores : (w ls vs : List ℕ) (b e k v : ℕ) → suc b + length ls ≤ e
    → sets (sets (set (set w b k) e v) (suc b) ls) (suc e) vs ≡ sets (sets w b (k ∷ ls)) e (v ∷ vs)
two-stores w ls vs b e k v h = ap (λ (m : List ℕ). sets m (suc e) vs) (sets-swap ls (v ∷ []) (set w b k) (suc b) e h)

module _ {w₀ : List ℕ} {from n : ℕ} {w : List ℕ} {v k j i : ℕ} (so : Running w₀ from n w v k j i) where
  pub running-kept : take (from + n) w ≡ take (from + n) w₀
  running-kept =
      sym (take-sets (values_after v (drop i (part w₀ from n))) (sets w (from + n + j) (lengths_after v k (drop i (part w₀ from n))))
      (from + n) (from + 2 * n + j) (omega arith)
      ∙ take-sets (lengths_after v k (drop i (part w₀ from n))) w (from + n) (from + n + j) (omega arith))
      ∙ ap (take (from + n)) so.rest
      ∙ take-sets (run_values (part w₀ from n)) (sets w₀ (from + n) (run_lengths (part w₀ from n))) (from + n) (from + 2 * n) (omega arith)
      ∙ take-sets (run_lengths (part w₀ from n)) w₀ (from + n) (from + n) (omega arith)

  seen : i < n → get_or w (from + i) 0 ≡ get_or w₀ (from + i) 0
  seen h =
      sym (get_or-take (from + n) w (from + i) 0 (omega arith)) ∙ ap (λ (l : List ℕ). get_or l (from + i) 0) running-kept
      ∙ get_or-take (from + n) w₀ (from + i) 0 (omega arith)

  opened : i < n → drop i (part w₀ from n) ≡ get_or w (from + i) 0 ∷ drop (i + 1) (part w₀ from n)
  opened h = part_at w₀ from n (omega arith) i h ∙ ap (λ (x : ℕ). x ∷ drop (i + 1) (part w₀ from n)) (sym (seen h))

  -- the run goes on
  pub running-same : i < n → get_or w (from + i) 0 ≡ v → Running w₀ from n w v (k + 1) j (i + 1)
  running-same h e =
      let l = drop (i + 1) (part w₀ from n) in
      let ev : values_after v (drop i (part w₀ from n)) ≡ values_after v l = ap (values_after v) (opened h) ∙ values_same v (get_or w (from + i) 0) l e in
      let el : lengths_after v k (drop i (part w₀ from n)) ≡ lengths_after v (k + 1) l
      = ap (lengths_after v k) (opened h) ∙ lengths-same v (get_or w (from + i) 0) l k e in
      record {
        room = so.room;
        behind = omega (arith, so.behind);
        most = omega arith;
        short = omega (arith, so.short);
        count = so.count ∙ ap (λ (m : List ℕ). j + length m) ev;
        rest = ap₂ (λ (a b : List ℕ). sets (sets w (from + n + j) a) (from + 2 * n + j) b) (sym el) (sym ev) ∙ so.rest;
      }

  -- the run ends before place i
  pub running-next : i < n → (get_or w (from + i) 0 ≡ v → ⊥)
      → Running w₀ from n (set (set w (from + n + j) k) (from + 2 * n + j) v) (get_or w (from + i) 0) 1 (j + 1) (i + 1)
  running-next h e =
      let x = get_or w (from + i) 0 in
      let l = drop (i + 1) (part w₀ from n) in
      let ev : values_after v (drop i (part w₀ from n)) ≡ v ∷ values_after x l = ap (values_after v) (opened h) ∙ values-next v x l e in
      let el : lengths_after v k (drop i (part w₀ from n)) ≡ k ∷ lengths_after x 1 l = ap (lengths_after v k) (opened h) ∙ lengths-next v x l k e in
      let len : length l ≡ n - (i + 1) = length-drop (i + 1) (part w₀ from n) ∙ ap (λ (m : ℕ). m - (i + 1)) (part_length w₀ from n (omega arith)) in
      let b : from + n + (j + 1) ≡ suc (from + n + j) = omega arith in
      let c : from + 2 * n + (j + 1) ≡ suc (from + 2 * n + j) = omega arith in
      record {
        room = so.room;
        behind = omega (arith, so.behind);
        most = omega arith;
        short = omega arith;
        count = omega (arith, so.count, ap length ev);
        rest =
            rw (b, c) (two-stores w (lengths_after x 1 l) (values_after x l) (from + n + j) (from + 2 * n + j) k v
            (omega (arith, so.behind, after-many x 1 l, after-few x l)))
            ∙ ap₂ (λ (p q : List ℕ). sets (sets w (from + n + j) p) (from + 2 * n + j) q) (sym el) (sym ev)
            ∙ so.rest;
      }

  -- the list ends
  pub running-end : n ≤ i → RunsMade (part w₀ from n) from n w₀ (set (set w (from + n + j) k) (from + 2 * n + j) v) (j + 1)
  unfolding values_after lengths_after
  running-end h =
      let z = part_end w₀ from n i h in
      made w₀ from n so.room _ (j + 1) (sym (so.count ∙ ap (λ (l : List ℕ). j + length (values_after v l)) z))
      (sym (ap (λ (l : List ℕ). sets (sets w (from + n + j) (lengths_after v k l)) (from + 2 * n + j) (values_after v l)) z) ∙ so.rest)
