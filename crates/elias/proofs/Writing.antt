-- Codewords pushed to an output in their parts. Assumes nothing.
use mathlib.Core.Path.{◌≡◌, sym, ap, ◌∙◌, subst}
use Prim.Native.Nat.{ℕ, suc, ◌+◌, ◌-◌, ◌*◌, ◌%◌, ◌^◌, ◌≤◌, ◌<◌}
use native.Mathlib.Nat.{pow-suc}
use native.Mathlib.Omega.{arith}
use mathlib.Core.List.{List, ◌++◌}
use lib.ListN.{length, length-append}
use Rattle.meaning.specs.Bits.{bits_high, bit_length}
use Rattle.meaning.specs.Elias.{gamma_bits, delta_bits}
use Rattle.meaning.specs.Limits.{number_limit}
use Rattle.elias.specs.Carry.{Free, Pushed}
use Rattle.elias.specs.declared.output.Pending.{Pending}
use Rattle.elias.proofs.Length.{long_of, without-one}
use Rattle.elias.proofs.Numbers.{high-length, high-zeros}
use Rattle.elias.proofs.Pushing.{push-then}
use Rattle.elias.proofs.Windows.{one_shl}

-- ---- a number of b bits
pub record Sized (b v : ℕ) : Type 0 where
  pub is : b ≡ bit_length v
  pub some : 0 < b
  pub few : b ≤ 33
  pub least : 2 ^ (b - 1) ≤ v
  pub below : v < 2 ^ b

pub sized : {b v : ℕ} → b ≡ bit_length v → 0 < v → v ≤ number_limit → Sized b v
sized {b} {v} e h k =
    let (m, l) = long_of v h (omega arith) in
    let less : suc m - 1 ≡ m = omega arith in
    rw (e, l.is) (record { is = sym l.is; some = omega arith; few = omega (arith, l.short); least = rw less l.least; below = l.below })

module _ {b v : ℕ} (s : Sized b v) where
  -- without its leading one
  abbrev rest : ℕ
  rest = v - (1 * 2 ^ (b - 1)) % 2 ^ 64

  one : (1 * 2 ^ (b - 1)) % 2 ^ 64 ≡ 2 ^ (b - 1)
  one = one_shl (b - 1) (omega (arith, s.some, s.few))

  double : v < 2 ^ suc (b - 1)
  double = let e : suc (b - 1) ≡ b = omega (arith, s.some) in rw e s.below

  pub rest-there : (1 * 2 ^ (b - 1)) % 2 ^ 64 ≤ v
  rest-there = omega (arith, one, s.least)

  pub rest-small : rest < 2 ^ (b - 1)
  rest-small = omega (arith, one, s.least, rw (pow-suc 2 (b - 1)) at double)

  rest-bits : bits_high (b - 1) rest ≡ bits_high (b - 1) v
  rest-bits = ap (λ (x : ℕ). bits_high (b - 1) (v - x)) one ∙ without-one (b - 1) v s.least double

  -- ---- the parts of its codewords
  gamma-parts : bits_high (b - 1) 0 ++ bits_high b v ≡ gamma_bits v
  unfolding gamma_bits
  gamma-parts = ap (λ (l : List ℕ). l ++ bits_high b v) (high-zeros (b - 1)) ∙ rw s.is

  delta-parts : gamma_bits b ++ bits_high (b - 1) rest ≡ delta_bits v
  unfolding delta_bits
  delta-parts = ap (λ (l : List ℕ). gamma_bits b ++ l) rest-bits ∙ rw s.is

  gamma-size : length (gamma_bits v) ≡ b - 1 + b
  gamma-size =
      ap length (sym gamma-parts) ∙ length-append (bits_high (b - 1) 0) (bits_high b v) ∙ omega (arith, high-length (b - 1) 0, high-length b v)

  delta-size : length (delta_bits v) ≡ length (gamma_bits b) + (b - 1)
  delta-size = ap length (sym delta-parts) ∙ length-append (gamma_bits b) (bits_high (b - 1) rest) ∙ omega (arith, high-length (b - 1) rest)

  -- ---- pushed in gamma: zeros, then its bits
  module _ {p : Pending} (room : Free p (length (gamma_bits v))) where
    pub gamma-room : Free p (b - 1)
    gamma-room = record { few = room.few; low = omega (arith, room.low, gamma-size) }

    pub gamma-room-2 : {q : Pending} {out out₁ : List ℕ} → Pushed (bits_high (b - 1) 0) p out out₁ q → Free q b
    gamma-room-2 zeros = record { few = zeros.few; low = omega (arith, room.low, gamma-size, zeros.reached, high-length (b - 1) 0) }

  pub gamma-pushed : {p q r : Pending} {out out₁ out₂ : List ℕ} → Pushed (bits_high (b - 1) 0) p out out₁ q → Pushed (bits_high b v) q out₁ out₂ r
      → Pushed (gamma_bits v) p out out₂ r
  gamma-pushed {p} {q} {r} {out} {out₁} {out₂} zeros bits = subst (λ (l : List ℕ). Pushed l p out out₂ r) gamma-parts (push-then zeros bits)

  -- ---- pushed in delta: its length, then its bits but one
  module _ {p : Pending} (room : Free p (length (delta_bits v))) where
    pub delta-room : Free p (length (gamma_bits b))
    delta-room = record { few = room.few; low = omega (arith, room.low, delta-size) }

    pub delta-room-2 : {q : Pending} {out out₁ : List ℕ} → Pushed (gamma_bits b) p out out₁ q → Free q (b - 1)
    delta-room-2 long = record { few = long.few; low = omega (arith, room.low, delta-size, long.reached) }

  pub delta-pushed : {p q r : Pending} {out out₁ out₂ : List ℕ} → Pushed (gamma_bits b) p out out₁ q → Pushed (bits_high (b - 1) rest) q out₁ out₂ r
      → Pushed (delta_bits v) p out out₂ r
  delta-pushed {p} {q} {r} {out} {out₁} {out₂} long bits = subst (λ (l : List ℕ). Pushed l p out out₂ r) delta-parts (push-then long bits)
