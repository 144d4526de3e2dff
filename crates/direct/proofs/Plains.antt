-- Plain numbers: the zeros before a number's end by one look at two bytes of bits, and its bytes by one mask of four. Assumes nothing.
use Prim.Native.Nat.{ℕ, zero, suc, ◌+◌, ◌-◌, ◌*◌, ◌/◌, ◌%◌, ◌^◌, ◌≤◌, ◌<◌}
use mathlib.Core.Path.{◌≡◌, refl, sym, ap, ap₂, ◌∙◌}
use mathlib.Core.List.{List, [], ◌∷◌, ◌++◌, append_assoc}
use native.Mathlib.Omega.{arith}
use lib.Bits.{bit_and, and_mask}
use lib.Count.{count_trailing_zeros, under}
use lib.ListN.{length, get_or, set, take, drop, length-drop, take-append-drop}
use lib.Seq.{drop_at, drop-drop, take-add, take_at, take-take, length-take-le}
use Rattle.std.specs.Prelude.{Ok}
use Rattle.meaning.specs.Answer.{given}
use Rattle.meaning.specs.Bits.{bits_low, low_bits, zeros_first}
use Rattle.meaning.specs.Bytes.{number_of, word_at}
use Rattle.meaning.specs.DataBytes.{byte_length}
use Rattle.meaning.specs.Direct.{flag_bytes, sum_count, sums_at, data_at, flags}
use Rattle.meaning.specs.Places.{Below}
use Rattle.meaning.specs.declared.Position.{Position}
use Rattle.meaning.proofs.Bounds.{below-take, below-drop}
use Rattle.words.proofs.Bytes.{number-few, number-low}
use Rattle.words.proofs.LowBits.{bits-length, bits-low, bits-parts, low-take, low-drop, low-number}
use Rattle.words.proofs.Straight.{fewest-1, fewest-2, fewest-3, fewest-4}
use Rattle.direct.specs.Parts.{Fit, next_in}
use Rattle.direct.proofs.Fits.{standing, data-few, flags-from}
use Rattle.direct.proofs.Nexts.{in-given, next-given, Onward, onward-turn}

-- ---- the zeros that come first, by the count of trailing zeros
module _ (bits : List ℕ) where
  first-zeros : (k m n : ℕ) → m ≤ k → count_trailing_zeros k n < m → zeros_first (bits_low m n ++ bits) ≡ count_trailing_zeros k n
  unfolding count_trailing_zeros bits_low zeros_first
  first-zeros k zero n few h = absurd (omega arith)
  first-zeros zero (suc m) n few h = absurd (omega arith)
  first-zeros (suc k) (suc m) n few h =
      by_bit (n % 2) (count_trailing_zeros k (n / 2)) (bits_low m (n / 2) ++ bits) h (λ l. first-zeros k m (n / 2) (omega arith) l)
    where
      by_bit : (b t : ℕ) (rest : List ℕ) → under b t < suc m → (t < m → zeros_first rest ≡ t) → zeros_first (b ∷ rest) ≡ under b t
      by_bit zero t rest h g = ap suc (g (omega arith))
      by_bit (suc b) t rest h g = refl

-- where some of the bits are cut off
cut-zeros : (v : ℕ) (later : List ℕ) (n : ℕ) → 4 ≤ n → count_trailing_zeros 32 v < 4 → zeros_first (take n (bits_low 4 v ++ later)) ≡ count_trailing_zeros 32 v
cut-zeros v later n few h =
    let long : length (bits_low 4 v) ≡ 4 = bits-length 4 v in
    let e : n ≡ 4 + (n - 4) = omega arith in
    let cut : take n (bits_low 4 v ++ later) ≡ bits_low 4 v ++ take (n - 4) later =
    ap (λ (k : ℕ). take k (bits_low 4 v ++ later)) e ∙ take-add 4 (n - 4) (bits_low 4 v ++ later)
    ∙ ap₂ (λ (a b : List ℕ). a ++ take (n - 4) b) (take_at (bits_low 4 v) later 4 long) (drop_at (bits_low 4 v) later 4 long) in
    ap zeros_first cut ∙ first-zeros (take (n - 4) later) 32 4 v (omega arith) h

-- the bits of bytes from bit r of the first on: four are in the first two bytes
module _ (bytes : List ℕ) (bound : Below 256 bytes) (two : 2 ≤ length bytes) (r : ℕ) (small : r < 8) where
  abbrev pair : ℕ
  pair = number_of (take 2 bytes)

  abbrev later : List ℕ
  later = bits_low (12 - r) (pair / 2 ^ r / 2 ^ 4) ++ drop 16 (low_bits bytes)

  pair-bits : take 16 (low_bits bytes) ≡ bits_low 16 pair
  pair-bits =
      let n : length (take 2 bytes) ≡ 2 = length-take-le 2 bytes two in
      low-take 2 bytes ∙ sym (low-number (take 2 bytes) (below-take 256 2 bytes bound)) ∙ rw n

  four-bits : drop r (low_bits bytes) ≡ bits_low 4 (pair / 2 ^ r) ++ later
  four-bits =
      let before = bits_low r (pair % 2 ^ r) in
      let rest = drop 16 (low_bits bytes) in
      let near = bits_low 4 (pair / 2 ^ r) in
      let far = bits_low (12 - r) (pair / 2 ^ r / 2 ^ 4) in
      let a : 16 ≡ r + (4 + (12 - r)) = omega arith in
      let parts : bits_low 16 pair ≡ before ++ (near ++ far) =
      ap (λ (k : ℕ). bits_low k pair) a ∙ bits-parts r (4 + (12 - r)) pair
      ∙ ap (λ (l : List ℕ). before ++ l) (bits-parts 4 (12 - r) (pair / 2 ^ r) ∙ ap (λ (l : List ℕ). l ++ far) (bits-low 4 (pair / 2 ^ r))) in
      let whole : low_bits bytes ≡ before ++ (near ++ (far ++ rest)) =
      sym (take-append-drop 16 (low_bits bytes)) ∙ ap (λ (l : List ℕ). l ++ rest) (pair-bits ∙ parts)
      ∙ append_assoc before (near ++ far) rest ∙ ap (λ (l : List ℕ). before ++ l) (append_assoc near far rest) in
      ap (drop r) whole ∙ drop_at before (near ++ (far ++ rest)) r (bits-length r (pair % 2 ^ r))

  -- some of these bits, of which the first four tell the zeros
  pair-zeros : (n : ℕ) → 4 ≤ n → count_trailing_zeros 32 (pair / 2 ^ r) < 4
      → zeros_first (take n (drop r (low_bits bytes))) ≡ count_trailing_zeros 32 (pair / 2 ^ r)
  pair-zeros n few h = ap (λ (l : List ℕ). zeros_first (take n l)) four-bits ∙ cut-zeros (pair / 2 ^ r) later n few h

module _ {body : List ℕ} {d : ℕ} (fit : Fit body d) (bound : Below 256 body) (i : ℕ) (inside : i + 4 ≤ d) where
  pub near-inside : 4 + i / 8 + 2 ≤ length body
  near-inside = omega (arith, (standing fit).ends)

  abbrev near : ℕ
  near = number_of (take 2 (drop (4 + i / 8) body)) / 2 ^ (i % 8)

  pub near-zeros : count_trailing_zeros 32 near < 4 → zeros_first (drop i (flags body)) ≡ count_trailing_zeros 32 near
  near-zeros h =
      let q = i / 8 in
      let bits = low_bits (drop 4 body) in
      let e : i ≡ 8 * q + i % 8 = omega arith in
      let there : drop i bits ≡ drop (i % 8) (low_bits (drop (4 + q) body)) =
      ap (λ (k : ℕ). drop k bits) e ∙ sym (drop-drop (i % 8) (8 * q) bits) ∙ ap (drop (i % 8)) (low-drop q (drop 4 body) ∙ ap low_bits (drop-drop q 4 body)) in
      ap zeros_first (flags-from fit i (omega arith) ∙ ap (take (d - i)) there)
      ∙ pair-zeros (drop (4 + q) body) (below-drop 256 (4 + q) body bound) (omega (arith, near-inside, length-drop (4 + q) body)) (i % 8) (omega arith)
      (d - i) (omega arith) h

-- ---- the number of so many bytes, of four
abbrev pub largest_of : List ℕ
largest_of = 255 ∷ 65535 ∷ 16777215 ∷ 4294967295 ∷ []

abbrev pub smallest_of : List ℕ
smallest_of = 0 ∷ 256 ∷ 65536 ∷ 16777216 ∷ []

pub record WholeIs (bytes : List ℕ) (f x : ℕ) : Type 0 where
  pub is : x ≡ number_of (take (f + 1) bytes)
  pub needs : byte_length x ≡ f + 1

module _ (bytes : List ℕ) (bound : Below 256 bytes) where
  low-bytes : (l : ℕ) → bit_and (number_of bytes) (2 ^ (8 * l) - 1) ≡ number_of (take l bytes)
  low-bytes l = and_mask (number_of bytes) (8 * l) ∙ number-low l bytes bound

  pub whole_is : (f : ℕ) → f ≤ 3 → get_or smallest_of f 0 ≤ bit_and (number_of bytes) (get_or largest_of f 0)
      → WholeIs bytes f (bit_and (number_of bytes) (get_or largest_of f 0))
  whole_is zero h s =
      let e = low-bytes 1 in
      record { is = e; needs = omega (arith, (fewest-1 [] 0 (bit_and (number_of bytes) 255) (omega (arith, e, number-few 1 bytes bound))).0) }
  whole_is (suc zero) h s =
      let e = low-bytes 2 in
      record { is = e; needs = omega (arith, (fewest-2 [] 0 (bit_and (number_of bytes) 65535) s (omega (arith, e, number-few 2 bytes bound))).0) }
  whole_is (suc (suc zero)) h s =
      let e = low-bytes 3 in
      record { is = e; needs = omega (arith, (fewest-3 [] 0 (bit_and (number_of bytes) 16777215) s (omega (arith, e, number-few 3 bytes bound))).0) }
  whole_is (suc (suc (suc zero))) h s =
      record { is = low-bytes 4; needs = omega (arith, (fewest-4 [] 0 (bit_and (number_of bytes) 4294967295) s).0) }
  whole_is (suc (suc (suc (suc f)))) h s = absurd (omega arith)

-- ---- one after another: the data begins at an offset, and a number that begins before bit `end` is not among the last three data bytes
pub record Plainly (body : List ℕ) (d left : ℕ) (at : Position) (w₁ : List ℕ) (i₁ b₁ from begin end most : ℕ) (w : List ℕ) (i b : ℕ) : Type 0 where
  pub onward : Onward body d left at from most w₁ i₁ b₁ w i b
  pub bound : Below 256 body
  pub begins : begin ≡ data_at d
  pub ends : end ≡ d - 3

module _ {body : List ℕ} {d left : ℕ} {at : Position} {w₁ : List ℕ} {i₁ b₁ from begin end most : ℕ} {w : List ℕ} {i b : ℕ}
    (so : Plainly body d left at w₁ i₁ b₁ from begin end most w i b) where
  module _ (inside : b < end) where
    pub plain-near : b + 4 ≤ d
    plain-near = omega (arith, so.ends)

    pub plain-few : d < 2 ^ 32
    plain-few = data-few so.onward.fit so.bound

    pub plain-far : begin + b + 4 < 2 ^ 63
    unfolding data_at sums_at flag_bytes sum_count
    plain-far = omega (arith, so.begins, plain-near, plain-few)

    pub plain_word : begin + b + 4 ≤ length body
    unfolding data_at sums_at flag_bytes sum_count
    plain_word = omega (arith, (standing so.onward.fit).ends, so.begins, plain-near)

    module _ {zeros : ℕ} (few : zeros ≤ 3) (told : zeros < 4 → zeros_first (drop b (flags body)) ≡ zeros)
        {word : ℕ} (read : word ≡ word_at body (begin + b)) (needed : get_or smallest_of zeros 0 ≤ bit_and word (get_or largest_of zeros 0)) where
      abbrev number : ℕ
      number = bit_and word (get_or largest_of zeros 0)

      whole : WholeIs (take 4 (drop (begin + b) body)) zeros number
      unfolding word_at
      whole =
          let bytes = take 4 (drop (begin + b) body) in
          rw read
          (whole_is bytes (below-take 256 4 (drop (begin + b) body) (below-drop 256 (begin + b) body so.bound))
          zeros few (rw read at needed))

      plain-next : given (number, b + (zeros + 1)) ≡ next_in body b
      plain-next =
          let e : number ≡ number_of (take (zeros + 1) (drop (data_at d + b) body)) =
          whole.is ∙ rw so.begins (ap number_of (take-take (zeros + 1) 4 (drop (data_at d + b) body) (omega arith))) in
          let z = told (omega arith) in
          next-given so.onward.fit b (omega arith) (omega (arith, plain-near)) (Ok number)
          (in-given so.onward.fit b (zeros + 1) (omega arith) e whole.needs) refl

      pub plain_turn : i < most → Plainly body d left at w₁ i₁ b₁ from begin end most (set w (from + i) number) (i + 1) (b + (zeros + 1))
      plain_turn more =
          record {
            onward = onward-turn so.onward more (Ok (record { number = number; end = record { index = b + (zeros + 1) } })) plain-next refl;
            bound = so.bound;
            begins = so.begins;
            ends = so.ends;
          }
