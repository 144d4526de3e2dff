-- The bit of the k-th one of a word, found by halves: of 2 ^ n bits that hold it, the lower or the upper half does. Assumes nothing.
use Prim.Native.Nat.{ℕ, zero, suc, ◌+◌, ◌-◌, ◌*◌, ◌/◌, ◌%◌, ◌^◌, ◌≤◌, ◌<◌}
use mathlib.Core.Path.{◌≡◌, refl, sym, ap, ap₂, ◌∙◌}
use mathlib.Core.List.{List, [], ◌∷◌, ◌++◌}
use native.Mathlib.Nat.{add-zero, one-mul, two-pow-succ, mod-lt}
use native.Mathlib.Omega.{arith}
use lib.Count.{ones, ones-le}
use lib.ListN.{length, get_or}
use lib.Pow.{pow_pos, shl_exact}
use Rattle.meaning.specs.Answer.{Answer, given, refused}
use Rattle.meaning.specs.Bits.{bits_low}
use Rattle.meaning.specs.Lists.{sum}
use Rattle.meaning.specs.Rank.{one_at}
use Rattle.meaning.proofs.Ranks.{later, one_left, one_right}
use Rattle.leaves.proofs.Joined.{sum-append}
use Rattle.words.proofs.LowBits.{bits-length, bits_below, bits-ones, bits-parts, bits-low}

-- a one moved up
pub shifted_one : (k : ℕ) → k < 64 → 1 * 2 ^ k % 2 ^ 64 ≡ 2 ^ k
shifted_one k h = shl_exact {a = 1} 1 k 64 (omega arith) (omega arith) ∙ one-mul (2 ^ k)

later-once : (a : Answer ℕ) → a ≡ later 0 a
later-once (given i) = ap (λ (n : ℕ). given n) (omega arith)
later-once (refused r) = refl

later-later : (m n : ℕ) (a : Answer ℕ) → later m (later n a) ≡ later (m + n) a
later-later m n (given i) = ap (λ (n : ℕ). given n) (omega arith)
later-later m n (refused r) = refl

-- the ones in the lowest bits
pub low_ones : (k c : ℕ) → ones (c % 2 ^ k) ≡ sum (bits_low k c)
low_ones k c = sym (bits-ones k (c % 2 ^ k) (mod-lt c (pow_pos k))) ∙ ap sum (bits-low k c)

-- the one that is looked for is the left-th of the lowest 2 ^ n bits of the rest, which stand from a bit of the word on
pub record HalfSo (e word k rest left bit n : ℕ) : Type 0 where
  pub inside : bit + 2 ^ n ≤ 64
  pub held : left < sum (bits_low (2 ^ n) rest)
  pub so : one_at e k (bits_low 64 word) ≡ later bit (one_at e left (bits_low (2 ^ n) rest))

-- the halves, by their places
abbrev pub halves : List ℕ
halves = 32 ∷ 16 ∷ 8 ∷ 4 ∷ 2 ∷ 1 ∷ []

half_at : (i : ℕ) → i < 6 → get_or halves i 0 ≡ 2 ^ (6 - (i + 1))
half_at zero h = refl
half_at (suc zero) h = refl
half_at (suc (suc zero)) h = refl
half_at (suc (suc (suc zero))) h = refl
half_at (suc (suc (suc (suc zero)))) h = refl
half_at (suc (suc (suc (suc (suc zero))))) h = refl
half_at (suc (suc (suc (suc (suc (suc i)))))) h = absurd (omega arith)

-- the same where a half is left
pub record Halved (e word k rest left bit half m : ℕ) : Type 0 where
  pub is : half ≡ 2 ^ m
  pub inside : bit + (half + half) ≤ 64
  pub held : left < sum (bits_low half rest) + sum (bits_low half (rest / 2 ^ half))
  pub so : one_at e k (bits_low 64 word) ≡ later bit (one_at e left (bits_low half rest ++ bits_low half (rest / 2 ^ half)))

pub halved : {e word k rest left bit i : ℕ} → HalfSo e word k rest left bit (6 - i) → i < 6 → Halved e word k rest left bit (get_or halves i 0) (6 - (i + 1))
halved {e} {word} {k} {rest} {left} {bit} {i} so more =
    let half = get_or halves i 0 in
    let is : half ≡ 2 ^ (6 - (i + 1)) = half_at i more in
    let next : 6 - i ≡ suc (6 - (i + 1)) = omega arith in
    let two : 2 ^ (6 - i) ≡ half + half = ap (λ (n : ℕ). 2 ^ n) next ∙ two-pow-succ (6 - (i + 1)) ∙ rw is in
    let parts : bits_low (2 ^ (6 - i)) rest ≡ bits_low half rest ++ bits_low half (rest / 2 ^ half) =
    ap (λ (w : ℕ). bits_low w rest) two ∙ bits-parts half half rest ∙ ap (λ (l : List ℕ). l ++ bits_low half (rest / 2 ^ half)) (bits-low half rest) in
    record {
      is = is;
      inside = omega (arith, so.inside, two);
      held = omega (arith, so.held, ap sum parts, sum-append (bits_low half rest) (bits_low half (rest / 2 ^ half)));
      so = so.so ∙ ap (λ (l : List ℕ). later bit (one_at e left l)) parts;
    }

module _ {e word k rest left bit half m : ℕ} (so : Halved e word k rest left bit half m) where
  pub half-inside : half < 64
  half-inside = omega (arith, so.inside, so.is, pow_pos m)

  mask_is : 1 * 2 ^ half % 2 ^ 64 ≡ 2 ^ half
  mask_is = shifted_one half half-inside

  -- how many ones the lower half has
  pub half-ones : ones (rest % (1 * 2 ^ half % 2 ^ 64)) ≡ sum (bits_low half rest)
  half-ones = ap (λ (x : ℕ). ones (rest % x)) mask_is ∙ low_ones half rest

  pub half-few : ones (rest % (1 * 2 ^ half % 2 ^ 64)) ≤ half
  half-few = omega (arith, ap (λ (x : ℕ). ones (rest % x)) mask_is, ones-le half (rest % 2 ^ half) (mod-lt rest (pow_pos half)))

  pub half-lower : left < ones (rest % (1 * 2 ^ half % 2 ^ 64)) → HalfSo e word k rest left bit m
  half-lower h =
      let here : left < sum (bits_low half rest) = omega (arith, half-ones) in
      let wide : bits_low half rest ≡ bits_low (2 ^ m) rest = ap (λ (w : ℕ). bits_low w rest) so.is in
      record {
        inside = omega (arith, so.inside, so.is);
        held = omega (arith, ap sum wide);
        so = so.so
            ∙ ap (later bit) (one_left e left (bits_low half rest) (bits_low half (rest / 2 ^ half)) (bits_below half rest) here ∙ ap (one_at e left) wide);
      }

  pub half-upper : ones (rest % (1 * 2 ^ half % 2 ^ 64)) ≤ left
      → HalfSo e word k (rest / 2 ^ half) (left - ones (rest % (1 * 2 ^ half % 2 ^ 64))) (bit + half) m
  half-upper h =
      let low = bits_low half rest in
      let high = bits_low half (rest / 2 ^ half) in
      let passed : sum low ≤ left = omega (arith, half-ones) in
      let wide : high ≡ bits_low (2 ^ m) (rest / 2 ^ half) = ap (λ (w : ℕ). bits_low w (rest / 2 ^ half)) so.is in
      record {
        inside = omega (arith, so.inside, so.is);
        held = omega (arith, so.held, half-ones, ap sum wide);
        so = so.so ∙ ap (later bit) (one_right e left low high (bits_below half rest) passed)
            ∙ later-later bit (length low) (one_at e (left - sum low) high)
            ∙ ap₂ (λ (n : ℕ) (a : Answer ℕ). later (bit + n) a) (bits-length half rest)
            (ap₂ (λ (n : ℕ) (l : List ℕ). one_at e (left - n) l) (sym half-ones) wide);
      }

-- one bit is left, and it is set
one_bit : (e left b : ℕ) → b < 2 → left < b → one_at e left (b ∷ []) ≡ given 0
unfolding one_at
one_bit e left zero h more = absurd (omega arith)
one_bit e zero (suc b) h more = refl
one_bit e (suc left) (suc b) h more = absurd (omega arith)

pub half-end : {e word k rest left bit n : ℕ} → HalfSo e word k rest left bit n → n ≡ 0 → one_at e k (bits_low 64 word) ≡ given bit
unfolding bits_low sum
half-end {e} {word} {k} {rest} {left} {bit} {n} so z =
    let last : left < sum (bits_low 1 rest) = rw z at so.held in
    let whole : one_at e k (bits_low 64 word) ≡ later bit (one_at e left (bits_low 1 rest)) = rw z at so.so in
    whole ∙ ap (later bit) (one_bit e left (rest % 2) (omega arith) (omega arith)) ∙ ap (λ (n : ℕ). given n) (add-zero bit)
