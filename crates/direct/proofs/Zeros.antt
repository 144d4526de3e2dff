-- Zeros counted one by one: those that come first from a bit on, and those directly before a bit. Assumes nothing.
use Prim.Native.Nat.{ℕ, zero, suc, ◌+◌, ◌-◌, ◌≤◌, ◌<◌, min}
use mathlib.Core.Path.{◌≡◌, refl, ap, ◌∙◌}
use mathlib.Core.Bool.{true, false}
use mathlib.Core.List.{List, ◌∷◌}
use native.Mathlib.Omega.{arith}
use lib.Dec.{eqb}
use lib.ListN.{get_or, drop, drop_of_length-le}
use lib.Seq.{drop-cons}
use borrow.Author.Tests.{eqb-true, eqb-false}
use Rattle.meaning.specs.Bits.{zeros_first}
use Rattle.meaning.specs.Direct.{flags, zeros_before}
use Rattle.meaning.proofs.Tests.{by-test}
use Rattle.direct.specs.Parts.{Fit}
use Rattle.direct.proofs.Fits.{flags_long}

-- ---- from bit `first` on, so many have been counted
pub record From (body : List ℕ) (d first zeros : ℕ) : Type 0 where
  pub fit : Fit body d
  pub few : zeros ≤ 4
  pub inside : first + zeros ≤ d
  pub on : zeros_first (drop first (flags body)) ≡ zeros + zeros_first (drop (first + zeros) (flags body))

-- a bit that is no zero, and one that is
pub no_zero : (b : ℕ) (bits : List ℕ) → eqb b 0 ≡ false → zeros_first (b ∷ bits) ≡ 0
unfolding zeros_first
no_zero zero bits e = absurd (eqb-false 0 0 e refl)
no_zero (suc b) bits e = refl

one-zero : (b : ℕ) (bits : List ℕ) → eqb b 0 ≡ true → zeros_first (b ∷ bits) ≡ suc (zeros_first bits)
unfolding zeros_first
one-zero b bits e = rw (eqb-true b 0 e)

module _ {body : List ℕ} {d first zeros : ℕ} (inv : From body d first zeros) where
  -- the bits end
  pub from-none : d ≤ first + zeros → zeros ≡ min 4 (zeros_first (drop first (flags body)))
  unfolding zeros_first
  from-none h =
      let z : zeros_first (drop (first + zeros) (flags body)) ≡ 0 =
      ap zeros_first (drop_of_length-le (flags body) {i = first + zeros} (omega (arith, flags_long inv.fit))) in
      omega (arith, inv.on, inv.few)

  here : first + zeros < d → drop (first + zeros) (flags body) ≡ get_or (flags body) (first + zeros) 0 ∷ drop (suc (first + zeros)) (flags body)
  here h = drop-cons (flags body) (first + zeros) 0 (omega (arith, flags_long inv.fit))

  -- a bit that is no zero ends them
  pub from-stop : first + zeros < d → eqb (get_or (flags body) (first + zeros) 0) 0 ≡ false → zeros ≡ min 4 (zeros_first (drop first (flags body)))
  from-stop h e =
      let z : zeros_first (drop (first + zeros) (flags body)) ≡ 0 = ap zeros_first (here h) ∙ no_zero _ _ e in
      omega (arith, inv.on, inv.few)

  pub from-turn : zeros < 4 → first + zeros < d → eqb (get_or (flags body) (first + zeros) 0) 0 ≡ true → From body d first (zeros + 1)
  from-turn f h e =
      let n : first + (zeros + 1) ≡ suc (first + zeros) = omega arith in
      let z : zeros_first (drop (first + zeros) (flags body)) ≡ suc (zeros_first (drop (first + (zeros + 1)) (flags body))) =
      rw n (ap zeros_first (here h) ∙ one-zero _ _ e) in
      record { fit = inv.fit; few = omega arith; inside = omega arith; on = omega (arith, inv.on) }

-- ---- before bit `end`, so many have been counted
pub record Upto (body : List ℕ) (d end zeros : ℕ) : Type 0 where
  pub fit : Fit body d
  pub few : zeros ≤ 4
  pub inside : zeros ≤ end
  pub within : end ≤ d
  pub on : zeros_before 4 (flags body) end ≡ zeros + zeros_before (4 - zeros) (flags body) (end - zeros)

module _ (bits : List ℕ) where
  before-none : (k : ℕ) → zeros_before k bits 0 ≡ 0
  unfolding zeros_before
  before-none zero = refl
  before-none (suc k) = refl

  before-enough : (b : ℕ) → zeros_before 0 bits b ≡ 0
  unfolding zeros_before
  before-enough b = refl

  before-stop : (k b : ℕ) → eqb (get_or bits b 0) 0 ≡ false → zeros_before (suc k) bits (suc b) ≡ 0
  unfolding zeros_before
  before-stop k b e = rw e

  before-one : (k b : ℕ) → eqb (get_or bits b 0) 0 ≡ true → zeros_before (suc k) bits (suc b) ≡ suc (zeros_before k bits b)
  unfolding zeros_before
  before-one k b e = rw e

-- there are no more of them than bits
before-most : (k : ℕ) (bits : List ℕ) (b : ℕ) → zeros_before k bits b ≤ b
unfolding zeros_before
before-most zero bits b = omega arith
before-most (suc k) bits zero = omega arith
before-most (suc k) bits (suc b) =
    by-test (eqb (get_or bits b 0) 0) (λ e. rw e (omega (arith, before-most k bits b))) (λ e. rw e (omega arith))

pub before-few : (bits : List ℕ) (b : ℕ) {zeros : ℕ} → zeros ≡ zeros_before 4 bits b → zeros ≤ b
before-few bits b e = omega (arith, e, before-most 4 bits b)

module _ {body : List ℕ} {d end zeros : ℕ} (inv : Upto body d end zeros) where
  -- the bits begin
  pub upto-none : end ≤ zeros → zeros ≡ zeros_before 4 (flags body) end
  upto-none h =
      let e : end - zeros ≡ 0 = omega arith in
      let z : zeros_before (4 - zeros) (flags body) (end - zeros) ≡ 0 = rw e (before-none (flags body) (4 - zeros)) in
      omega (arith, inv.on)

  pub upto-stop : zeros < 4 → zeros < end → eqb (get_or (flags body) (end - zeros - 1) 0) 0 ≡ false → zeros ≡ zeros_before 4 (flags body) end
  upto-stop f h e =
      let k : 4 - zeros ≡ suc (3 - zeros) = omega arith in
      let b : end - zeros ≡ suc (end - zeros - 1) = omega arith in
      let z : zeros_before (4 - zeros) (flags body) (end - zeros) ≡ 0 = rw (k, b) (before-stop (flags body) (3 - zeros) (end - zeros - 1) e) in
      omega (arith, inv.on)

  pub upto-full : 4 ≤ zeros → 4 ≡ zeros_before 4 (flags body) end
  upto-full h =
      let k : 4 - zeros ≡ 0 = omega arith in
      let z : zeros_before (4 - zeros) (flags body) (end - zeros) ≡ 0 = rw k (before-enough (flags body) (end - zeros)) in
      omega (arith, inv.on, inv.few)

  pub upto_turn : zeros < 4 → zeros < end → eqb (get_or (flags body) (end - zeros - 1) 0) 0 ≡ true → Upto body d end (zeros + 1)
  upto_turn f h e =
      let k : 4 - zeros ≡ suc (4 - (zeros + 1)) = omega arith in
      let b : end - zeros ≡ suc (end - (zeros + 1)) = omega arith in
      let m : end - zeros - 1 ≡ end - (zeros + 1) = omega arith in
      let z : zeros_before (4 - zeros) (flags body) (end - zeros) ≡ suc (zeros_before (4 - (zeros + 1)) (flags body) (end - (zeros + 1))) =
      rw (k, b) (before-one (flags body) (4 - (zeros + 1)) (end - (zeros + 1)) (rw m at e)) in
      record { fit = inv.fit; few = omega arith; inside = omega arith; within = inv.within; on = omega (arith, inv.on) }
