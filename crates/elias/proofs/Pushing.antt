-- Bits pushed to an output, a byte at a time. Assumes nothing.
use mathlib.Core.Path.{◌≡◌, refl, sym, ap, ap₂, ◌∙◌}
use Prim.Native.Nat.{ℕ, ◌+◌, ◌-◌, ◌*◌, ◌/◌, ◌%◌, ◌^◌, ◌≤◌, ◌<◌}
use native.Mathlib.Nat.{add-zero, mod-lt}
use native.Mathlib.Numerals.{add-one}
use native.Mathlib.Omega.{arith}
use mathlib.Core.List.{List, [], ◌∷◌, ◌++◌, append_assoc}
use lib.Arith.{digits_lt}
use lib.ListN.{length, drop, set, replicate, length-append, drop_of_length-le}
use lib.Pow.{pow_pos, pow-add}
use lib.Seq.{sets}
use Rattle.meaning.specs.Bits.{bits_high, number_high, pack}
use Rattle.meaning.specs.Places.{Wrote}
use Rattle.elias.specs.Carry.{waiting, Free, Pushed}
use Rattle.elias.specs.Padded.{padded}
use Rattle.elias.specs.declared.output.Pending.{Pending}
use Rattle.elias.proofs.Numbers.{high-length, high-split, high-zeros, number-high}
use Rattle.elias.proofs.Pack.{byte-padded, pack-none, pack-next, pack-high}
use Rattle.elias.proofs.Padding.{padded-whole}
use Rattle.elias.proofs.Windows.{shl-mod, shl-bits}

-- ---- the loop that puts the bytes that are filled: of `bits` the last `count` are still to be put, from `byte` on
pub record Emits (out₀ : List ℕ) (bits count₀ byte₀ : ℕ) (out : List ℕ) (count byte : ℕ) : Type 0 where
  pub reached : 8 * byte + count ≡ 8 * byte₀ + count₀
  pub fewer : count ≤ count₀
  pub same : (rest : List ℕ) → sets out byte (pack (bits_high count bits ++ rest)) ≡ sets out₀ byte₀ (pack (bits_high count₀ bits ++ rest))

-- the first byte of more than eight bits
first_byte : (bits : ℕ) (out rest : List ℕ) (k byte : ℕ)
    → sets (set out byte (bits / 2 ^ k % 256)) (byte + 1) (pack (bits_high k bits ++ rest)) ≡ sets out byte (pack (bits_high (8 + k) bits ++ rest))
first_byte bits out rest k byte =
    ap (λ (at : ℕ). sets (set out byte (bits / 2 ^ k % 256)) at (pack (bits_high k bits ++ rest))) (add-one byte)
    ∙ ap (sets out byte) (sym (pack-high (bits / 2 ^ k) (bits_high k bits ++ rest))
    ∙ ap pack (sym (append_assoc (bits_high 8 (bits / 2 ^ k)) (bits_high k bits) rest) ∙ ap (λ (l : List ℕ). l ++ rest) (sym (high-split 8 k bits))))

module _ {out₀ : List ℕ} {bits count₀ byte₀ : ℕ} where
  pub emit-turn : {out out' : List ℕ} {count byte : ℕ} → Emits out₀ bits count₀ byte₀ out count byte → 8 ≤ count
      → out' ≡ set out byte (bits / 2 ^ (count - 8) % 256) → Emits out₀ bits count₀ byte₀ out' (count - 8) (byte + 1)
  emit-turn {out} {out'} {count} {byte} e h is =
      let whole : 8 + (count - 8) ≡ count = omega arith in
      record {
        reached = omega (arith, e.reached);
        fewer = omega (arith, e.fewer);
        same = λ rest.
            ap (λ (o : List ℕ). sets o (byte + 1) (pack (bits_high (count - 8) bits ++ rest))) is
            ∙ first_byte bits out rest (count - 8) byte
            ∙ ap (λ (n : ℕ). sets out byte (pack (bits_high n bits ++ rest))) whole
            ∙ e.same rest;
      }

-- ---- the bits of v after those that wait
abbrev pushed : ℕ → ℕ → ℕ → ℕ
pushed w v n = (w * 2 ^ n) % 2 ^ 64 + v

module _ (w : ℕ) {v n : ℕ} (small : v < 2 ^ n) (short : n ≤ 33) where
  push-bits : (c : ℕ) → c < 8 → bits_high (c + n) (pushed w v n) ≡ bits_high c w ++ bits_high n v
  push-bits c few =
      let all : 64 - (c + n) + c + n ≡ 64 = omega arith in
      rw all at (shl-bits (64 - (c + n)) c n w v small)

  pub push-fits : pushed w v n < 2 ^ 64
  push-fits =
      let all : 64 - n + n ≡ 64 = omega arith in
      let shifted : (w * 2 ^ n) % 2 ^ 64 ≡ (w % 2 ^ (64 - n)) * 2 ^ n = rw all at (shl-mod w (64 - n) n) in
      let top : 2 ^ (64 - n) * 2 ^ n ≡ 2 ^ 64 = sym (pow-add 2 (64 - n) n) ∙ ap (λ (k : ℕ). 2 ^ k) all in
      omega (arith, shifted, top, digits_lt {c = 2 ^ n} (mod-lt w (pow_pos (64 - n))) small)

-- all bytes are put that are filled
pub emit-end : {out₀ out : List ℕ} {p : Pending} {v n count byte : ℕ} → Free p n → v < 2 ^ n → n ≤ 33
    → Emits out₀ (pushed p.bits v n) (p.count + n) p.at.byte out count byte → count < 8
    → Pushed (bits_high n v) p out₀ out (record { at = record { byte = byte }; bits = pushed p.bits v n; count = count })
emit-end {out₀} {out} {p} {v} {n} room small short e h =
    let bits : bits_high (p.count + n) (pushed p.bits v n) ≡ waiting p ++ bits_high n v = push-bits p.bits small short p.count room.few in
    record {
      few = h;
      reached = omega (arith, e.reached, high-length n v);
      same = λ rest. e.same rest
          ∙ ap (λ (l : List ℕ). sets out₀ p.at.byte (pack l)) (ap (λ (l : List ℕ). l ++ rest) bits ∙ append_assoc (waiting p) (bits_high n v) rest);
    }

-- ---- one after the other
pub push-then : {l m : List ℕ} {p q r : Pending} {out out₁ out₂ : List ℕ} → Pushed l p out out₁ q → Pushed m q out₁ out₂ r → Pushed (l ++ m) p out out₂ r
push-then {l} {m} {p} {q} {r} {out} {out₁} {out₂} a b =
    record {
      few = b.few;
      reached = omega (arith, a.reached, b.reached, length-append l m);
      same = λ rest. b.same rest ∙ a.same (m ++ rest) ∙ ap (λ (x : List ℕ). sets out p.at.byte (pack (waiting p ++ x))) (sym (append_assoc l m rest));
    }

-- ---- the last bits
last_byte : {c : ℕ} (w : ℕ) → 0 < c → c < 8 → pack (bits_high c w) ≡ (w * 2 ^ (8 - c)) % 2 ^ 64 % 256 ∷ []
last_byte {c} w h k =
    let l = bits_high c w in
    let y = (w * 2 ^ (8 - c)) % 2 ^ 64 in
    let n = high-length c w in
    let eight : c + (8 - c) ≡ 8 = omega arith in
    let room : length l + (8 - c) ≡ 8 = omega arith in
    let all : 56 + c + (8 - c) ≡ 64 = omega arith in
    let shifted : bits_high 8 y ≡ l ++ bits_high (8 - c) 0 = simp (all, eight, add-zero) at (shl-bits 56 c (8 - c) w 0 (pow_pos (8 - c))) in
    let bits : bits_high 8 y ≡ l ++ replicate (8 - c) 0 = shifted ∙ ap (λ (r : List ℕ). l ++ r) (high-zeros (8 - c)) in
    let full : padded 8 l ≡ l ++ replicate (8 - c) 0 = ap (λ (j : ℕ). padded j l) (sym room) ∙ padded-whole l (8 - c) in
    let first : number_high 0 (padded 8 l) ≡ y % 256 = ap (number_high 0) (full ∙ sym bits) ∙ number-high 8 y 0 ∙ omega arith in
    let none : pack (drop 8 l) ≡ [] = ap pack (drop_of_length-le l {i = 8} (omega arith)) ∙ pack-none in
    pack-next l (omega arith) ∙ ap₂ (λ (b : ℕ) (r : List ℕ). b ∷ r) (byte-padded l ∙ first) none

pub last-put : {p : Pending} {out out' : List ℕ} → Free p 0 → 0 < p.count
    → out' ≡ set out p.at.byte ((p.bits * 2 ^ (8 - p.count)) % 2 ^ 64 % 256)
    → Wrote (pack (waiting p)) p.at.byte out out' (record { byte = p.at.byte + 1 })
last-put {p} f h e = let l = last_byte p.bits h f.few in record { ends = rw l; here = rw l e }

pub last_none : (p : Pending) {out : List ℕ} → p.count ≡ 0 → Wrote (pack (waiting p)) p.at.byte out out (record { byte = p.at.byte })
unfolding bits_high
last_none p e = rw (e, pack-none) (record { ends = sym (add-zero p.at.byte); here = refl })
