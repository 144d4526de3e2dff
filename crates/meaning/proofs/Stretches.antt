-- A stretch of units at once, in a lookup and in a strict reading, for any unit reader. Assumes nothing.
use Prim.Native.Nat.{ℕ, ◌+◌, ◌-◌, ◌≤◌, ◌<◌}
use mathlib.Core.Path.{◌≡◌, refl, sym, ap, ◌∙◌}
use mathlib.Core.Bool.{Bool, true}
use mathlib.Core.List.{List, [], ◌++◌}
use native.Mathlib.Nat.{add-zero, add_assoc, sub-zero}
use native.Mathlib.Omega.{arith}
use lib.ListN.{length, get_or, length-append, get_or-append}
use lib.Seq.{sets, get_or-append-add}
use Rattle.meaning.specs.Answer.{Answer, given}
use Rattle.meaning.specs.Units.{look_units, Stretch, none, more}
use Rattle.meaning.proofs.Loops.{ReadSo, read-turn, Walked, walk_turn, walk_here}
use Rattle.meaning.proofs.Stores.{sets-append}
use Rattle.meaning.proofs.Tests.{by_order}
use Rattle.meaning.proofs.Units.{Good}

-- it has no numbers beyond the list
pub stretch-few : {P : Type 0} (unit : ℕ → P → Answer (P × List ℕ)) (joins : List ℕ → List ℕ → Bool) (left : ℕ) (p : P) → Good unit
    → {xs : List ℕ} {units : ℕ} {last : List ℕ} {q : P} → Stretch unit joins left p xs units last q → length xs ≤ left
stretch-few unit joins left p good none = omega arith
stretch-few unit joins left p good (more {xs} {units} {last} {q} s h u e j) =
    let few = good.few (left - length xs) q u (omega arith) e in
    rw (length-append xs u.1) (omega arith)

-- its first unit
pub stretch-first : {P : Type 0} (unit : ℕ → P → Answer (P × List ℕ)) (joins : List ℕ → List ℕ → Bool) (left : ℕ) (p : P) → Good unit
    → {xs : List ℕ} {units : ℕ} {last : List ℕ} {q : P} → Stretch unit joins left p xs units last q → 0 < length xs
    → (u : P × List ℕ) × (unit left p ≡ given u) × (get_or u.1 0 0 ≡ get_or xs 0 0)
stretch-first unit joins left p good none h = absurd (omega arith)
stretch-first unit joins left p good (more none l u e j) h = (u, rw (sub-zero left) at e, refl)
stretch-first unit joins left p good (more (more {xs} {units} {last} {q} s l u e j) l₂ u₂ e₂ j₂) h =
    let some = good.some (left - length xs) q u (omega arith) e in
    let few : 0 < length (xs ++ u.1) = rw (length-append xs u.1) (omega arith) in
    let (v, ev, g) = stretch-first unit joins left p good (more s l u e j) few in
    (v, ev, g ∙ sym (get_or-append (xs ++ u.1) u₂.1 0 0 few))

-- ---- in a lookup, after i numbers have been passed
module _ {P : Type 0} (unit : ℕ → P → Answer (P × List ℕ)) (joins : List ℕ → List ℕ → Bool) (n : ℕ) (p₀ : P) (good : Good unit) (i : ℕ) (p : P)
    (so : Walked unit n p₀ i p) where
  less : (j : ℕ) → n - i - j ≡ n - (i + j)
  less j = omega arith

  -- it is passed
  pub walk-stretch : {xs : List ℕ} {units : ℕ} {last : List ℕ} {q : P} → Stretch unit joins (n - i) p xs units last q → Walked unit n p₀ (i + length xs) q
  walk-stretch none = rw (add-zero i) so
  walk-stretch (more {xs} {units} {last} {q} s h u e j) =
      rw (length-append xs u.1, ← (add_assoc i (length xs) (length u.1)))
      (walk_turn unit n p₀ good (i + length xs) q (walk-stretch s) u (omega arith) (rw (less (length xs)) at e))

  -- its numbers are those at the next places
  pub stretch-here : {xs : List ℕ} {units : ℕ} {last : List ℕ} {q : P} → Stretch unit joins (n - i) p xs units last q → (j : ℕ) → j < length xs
      → look_units unit n (i + j) p₀ ≡ given (get_or xs j 0)
  stretch-here none j h = absurd (omega arith)
  stretch-here (more {xs} {units} {last} {q} s l u e t) j h =
      by_order j (length xs)
      (λ b. stretch-here s j b ∙ ap (λ (x : ℕ). given x) (sym (get_or-append xs u.1 0 j b)))
      (λ b. let k = walk-stretch s in
      let few = good.few (n - i - length xs) q u (omega arith) e in
      let m : length (xs ++ u.1) ≡ length xs + length u.1 = length-append xs u.1 in
      let a : i + j - (i + length xs) ≡ j - length xs = omega arith in
      let c : length xs + (j - length xs) ≡ j = omega arith in
      walk_here unit n p₀ good (i + length xs) q k u (rw (less (length xs)) at e) (i + j) (omega arith) (omega arith) (omega arith)
      ∙ ap (λ (x : ℕ). given x) (ap (λ (x : ℕ). get_or u.1 x 0) a ∙ sym (get_or-append-add xs u.1 (j - length xs) 0) ∙ ap
      (λ (x : ℕ). get_or (xs ++ u.1) x 0) c))

-- ---- in a strict reading, after i numbers, the last unit's being `before`
module _ {P : Type 0} (unit : ℕ → P → Answer (P × List ℕ)) (joins : List ℕ → List ℕ → Bool) (done : P → Bool) (n : ℕ) (p₀ : P) (w₀ : List ℕ) (from : ℕ)
    (good : Good unit)
    (room : from + n ≤ length w₀) (w : List ℕ) (i : ℕ) (before : List ℕ) (p : P) (so : ReadSo unit joins done n p₀ w₀ from w i before p) where
  -- one unit after those before it
  one_more : (xs : List ℕ) (last : List ℕ) (q : P) (u : P × List ℕ) → length xs < n - i → unit (n - i - length xs) q ≡ given u → joins last u.1 ≡ true
      → ReadSo unit joins done n p₀ w₀ from (sets w (from + i) xs) (i + length xs) last q
      → ReadSo unit joins done n p₀ w₀ from (sets w (from + i) (xs ++ u.1)) (i + length (xs ++ u.1)) u.1 u.0
  one_more xs last q u h e j r =
      let m : n - i - length xs ≡ n - (i + length xs) = omega arith in
      let a : from + i + length xs ≡ from + (i + length xs) = omega arith in
      let l : i + length (xs ++ u.1) ≡ i + length xs + length u.1 = rw (length-append xs u.1) (omega arith) in
      rw l
      (read-turn unit joins done n p₀ w₀ from good (sets w (from + i) xs) (i + length xs) last q r u _ room (omega arith) (rw m at e) j
      (sym (sets-append xs u.1 w (from + i)) ∙ rw a))

  -- all of it, where its first number lets its first unit follow the one before
  pub read-stretch : {xs : List ℕ} {units : ℕ} {last : List ℕ} {q : P} → Stretch unit joins (n - i) p xs units last q → 0 < length xs
      → ((ys : List ℕ) → get_or ys 0 0 ≡ get_or xs 0 0 → joins before ys ≡ true)
      → ReadSo unit joins done n p₀ w₀ from (sets w (from + i) xs) (i + length xs) last q
  read-stretch none h f = absurd (omega arith)
  read-stretch (more none l u e j) h f = one_more [] before p u l e (f u.1 refl) (rw (add-zero i) so)
  read-stretch (more (more {xs} {units} {last} {q} s l u e j) l₂ u₂ e₂ j₂) h f =
      let some = good.some (n - i - length xs) q u (omega arith) e in
      let few : 0 < length (xs ++ u.1) = rw (length-append xs u.1) (omega arith) in
      one_more (xs ++ u.1) u.1 u.0 u₂ l₂ e₂ j₂
      (read-stretch (more s l u e j) few (λ ys e₃. f ys (e₃ ∙ sym (get_or-append (xs ++ u.1) u₂.1 0 0 few))))
