-- How many binary digits a number has. Assumes nothing.
use mathlib.Core.Path.{◌≡◌, refl, sym, ap, ◌∙◌}
use Prim.Native.Nat.{ℕ, zero, suc, ◌+◌, ◌-◌, ◌*◌, ◌/◌, ◌%◌, ◌^◌, ◌≤◌, ◌<◌}
use native.Mathlib.Nat.{pow-suc, lt_of_not-le}
use native.Mathlib.Omega.{arith}
use mathlib.Core.List.{List, ◌∷◌}
use borrow.Author.Tests.{ne_eqb}
use lib.Count.{leading_top}
use lib.ListN.{length}
use lib.Pow.{pow_mono, pow_pos, high, low}
use Rattle.meaning.specs.Bits.{bits_high, number_high, digits_in, bit_length}
use Rattle.meaning.specs.Limits.{number_limit}
use Rattle.meaning.specs.Places.{Below}
use Rattle.elias.proofs.Numbers.{number-after, number_small, number-high, high-number, high-low}

digits-none : (k : ℕ) → digits_in k 0 ≡ 0
unfolding digits_in
digits-none zero = refl
digits-none (suc k) = refl

-- a number from 2 ^ m to 2 ^ (m + 1) - 1 has m + 1 digits
digits_are : (k m v : ℕ) → m < k → 2 ^ m ≤ v → v < 2 ^ suc m → digits_in k v ≡ suc m
unfolding digits_in
digits_are zero m v h lo hi = absurd (omega arith)
digits_are (suc k) zero v h lo hi =
    let half : v / 2 ≡ 0 = omega arith in
    rw (ne_eqb v 0 (λ e. omega arith), half, digits-none k)
digits_are (suc k) (suc m) v h lo hi =
    let lo' : 2 ^ m * 2 ≤ v = rw (pow-suc 2 m) at lo in
    let hi' : v < 2 ^ suc m * 2 = rw (pow-suc 2 (suc m)) at hi in
    rw (ne_eqb v 0 (λ e. omega (arith, pow_pos m)), digits_are k m (v / 2) (omega arith) (omega arith) (omega arith))

-- the length m + 1 of a number v
pub record Long (m v : ℕ) : Type 0 where
  pub least : 2 ^ m ≤ v
  pub below : v < 2 ^ suc m
  pub short : m ≤ 32
  pub is : bit_length v ≡ suc m

pub long : (m v : ℕ) → m ≤ 32 → 2 ^ m ≤ v → v < 2 ^ suc m → Long m v
unfolding bit_length
long m v h lo hi = record { least = lo; below = hi; short = h; is = digits_are 33 m v (omega arith) lo hi }

pub long_of : (v : ℕ) → 0 < v → v < 2 ^ 33 → (m : ℕ) × Long m v
long_of v h k = let t = leading_top 33 v h k in (t.0, long t.0 v (omega (arith, t.1)) t.2 t.3)

-- a power of at most v has an exponent below that of one above v
pub long-within : (m n v : ℕ) → 2 ^ m ≤ v → v < 2 ^ suc n → m ≤ n
long-within m n v lo hi = within (lt_of_not-le (λ (h : suc n ≤ m). over (2 ^ suc n) (2 ^ m) (pow_mono {i = suc n} {j = m} h) lo hi))
  where
    over : (p q : ℕ) → p ≤ q → q ≤ v → v < p → ⊥
    over p q a b c = omega arith

    within : m < suc n → m ≤ n
    within h = omega arith

-- the machine's logarithm gives it
pub length-log : (m v : ℕ) → v ≤ number_limit → 2 ^ m ≤ v → v < 2 * 2 ^ m → Long m v
length-log m v k lo hi = long m v (long-within m 32 v lo (omega arith)) lo (rw (pow-suc 2 m) (omega arith))

-- ---- a one and then some bits
module _ (t : List ℕ) (bits : Below 2 t) (few : length t ≤ 32) where
  pub one-long : Long (length t) (number_high 1 t)
  one-long =
      let e = number-after 1 t in
      let s = number_small t bits in
      long (length t) (number_high 1 t) few (omega arith) (rw (pow-suc 2 (length t)) (omega arith))

  -- its lower bits are those
  pub one-low : bits_high (length t) (number_high 1 t) ≡ t
  one-low = high-number 1 t bits

-- ---- and a number of m + 1 digits is such a one
module _ (m v : ℕ) (least : 2 ^ m ≤ v) (below : v < 2 ^ suc m) where
  whole : v ≡ 1 * 2 ^ m + (v - 2 ^ m)
  whole = omega arith

  less : v - 2 ^ m < 2 ^ m
  less = omega (arith, rw (pow-suc 2 m) at below)

  pub first_one : bits_high (suc m) v ≡ 1 ∷ bits_high m v
  unfolding bits_high
  first_one =
      let q : v / 2 ^ m ≡ 1 = ap (λ (n : ℕ). n / 2 ^ m) whole ∙ high 1 m less in
      rw q

  pub one_again : number_high 1 (bits_high m v) ≡ v
  one_again =
      let r : v % 2 ^ m ≡ v - 2 ^ m = ap (λ (n : ℕ). n % 2 ^ m) whole ∙ low 1 m less in
      number-high m v 1 ∙ omega arith

  -- the lower bits are those of what is left without the leading one
  pub without-one : bits_high m (v - 2 ^ m) ≡ bits_high m v
  without-one = sym (high-low m 1 (v - 2 ^ m) less) ∙ ap (bits_high m) (sym whole)
