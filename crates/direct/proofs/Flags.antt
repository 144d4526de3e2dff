-- The bits of a list put a byte at a time, lowest bit first: those that fill no byte yet wait. Assumes nothing.
use Prim.Native.Nat.{ℕ, suc, ◌+◌, ◌-◌, ◌*◌, ◌/◌, ◌%◌, ◌^◌, ◌≤◌, ◌<◌}
use mathlib.Core.Path.{◌≡◌, refl, sym, ap, ap₂, ◌∙◌}
use mathlib.Core.List.{List, [], ◌∷◌, ◌++◌, append_assoc, append-nil}
use native.Mathlib.Nat.{pow-suc, one-mul}
use native.Mathlib.Omega.{arith}
use lib.ListN.{length, get_or, set, drop, length-append}
use lib.Pow.{pow_pos, pow-add, pow_mono, shl_exact}
use lib.Seq.{take_at, drop_at, take_all}
use Rattle.meaning.specs.Bits.{bits_low, number_low, pack_low}
use Rattle.meaning.specs.DataBytes.{byte_length}
use Rattle.meaning.specs.Direct.{flag_bytes, last_bits}
use Rattle.meaning.specs.Lists.{joined}
use Rattle.meaning.specs.Places.{Wrote}
use Rattle.leaves.proofs.Joined.{joined-rest, joined-past}
use Rattle.leaves.proofs.Putting.{Left, left-start, left-most, left-turn, left_end, wrote_as}
use Rattle.words.proofs.DataBytes.{held, data-most}
use Rattle.words.proofs.LowBits.{bits-length, bits-zero, bits-append, number-bits, pack-length}
use Rattle.words.proofs.Puts.{put_one}
use Rattle.direct.specs.Parts.{flags_of}
use Rattle.direct.proofs.Lengths.{flags-length}

-- ---- bits in as many bytes as they take
abbrev packed : List ℕ → List ℕ
packed bits = pack_low (flag_bytes (length bits)) bits

packed_none : packed [] ≡ []
unfolding flag_bytes pack_low
packed_none = refl

-- a full byte first
packed-full : (b : ℕ) (more : List ℕ) → b < 256 → packed (bits_low 8 b ++ more) ≡ b ∷ packed more
unfolding flag_bytes pack_low
packed-full b more h =
    let bits = bits_low 8 b ++ more in
    let n : (length bits + 7) / 8 ≡ suc ((length more + 7) / 8) = omega (arith, length-append (bits_low 8 b) more, bits-length 8 b) in
    rw n
    (ap₂ (λ (x : ℕ) (l : List ℕ). x ∷ pack_low ((length more + 7) / 8) l)
    (ap number_low (take_at (bits_low 8 b) more 8 (bits-length 8 b)) ∙ number-bits 8 b h)
    (drop_at (bits_low 8 b) more 8 (bits-length 8 b)))

-- bits that fill no byte
packed-last : (count wait : ℕ) → 0 < count → count < 8 → wait < 2 ^ count → packed (bits_low count wait) ≡ wait % 256 ∷ []
unfolding flag_bytes pack_low
packed-last count wait some few small =
    let bits = bits_low count wait in
    let n : (length bits + 7) / 8 ≡ 1 = omega (arith, bits-length count wait) in
    let least : 2 ^ count ≤ 2 ^ 8 = pow_mono {i = count} {j = 8} (omega arith) in
    let same : wait ≡ wait % 256 = omega arith in
    rw n
    (ap (λ (x : ℕ). x ∷ [])
    (ap number_low (take_all 8 bits (omega (arith, bits-length count wait))) ∙ number-bits count wait small ∙ same))

-- a number's bits are those of a power of two
last-bits : (x : ℕ) → last_bits x ≡ bits_low (byte_length x) (2 ^ (byte_length x - 1))
unfolding last_bits bits_low
last-bits x =
    let k = byte_length x - 1 in
    let long : k + 1 ≡ byte_length x = omega (arith, (held x).least) in
    let one : 0 + 2 ^ k * 1 ≡ 2 ^ k = omega arith in
    ap (λ (l : List ℕ). l ++ (1 ∷ [])) (sym (bits-zero k))
    ∙ sym (bits-append k 1 0 1 (pow_pos k))
    ∙ ap₂ bits_low long one

-- ---- what waits, and the numbers from i on, are still to be put: putting them makes the whole
pub record FlagSo (xs : List ℕ) (at : ℕ) (out₀ out : List ℕ) (to wait count i : ℕ) : Type 0 where
  pub short : at + length xs < 2 ^ 63
  pub small : wait < 2 ^ count
  pub left : Left (packed (joined last_bits xs)) at out₀ (packed (bits_low count wait ++ joined last_bits (drop i xs))) out to

pub flag-start : (xs : List ℕ) (at : ℕ) (out₀ : List ℕ) → at + length xs < 2 ^ 63 → FlagSo xs at out₀ out₀ at 0 0 0
unfolding bits_low
flag-start xs at out₀ short =
    record { short = short; small = omega arith; left = left-start (packed (joined last_bits xs)) at out₀ }

module _ {xs : List ℕ} {at : ℕ} {out₀ out : List ℕ} {to wait count i : ℕ} (so : FlagSo xs at out₀ out to wait count i) where
  -- no offset is far from the first
  pub flag-near : to ≤ at + length xs
  unfolding flag_bytes
  flag-near =
      let bits = joined last_bits xs in
      omega (arith, left-most so.left, pack-length (flag_bytes (length bits)) bits, flags-length xs, data-most xs)

  -- a number's bits wait too
  module _ {l : ℕ} (few : count < 8) (more : i < length xs) (el : l ≡ byte_length (get_or xs i 0)) where
    pub flag-some : 1 ≤ l
    flag-some = omega (arith, (held (get_or xs i 0)).least)

    pub flag-few : count + l < 12
    flag-few = omega (arith, (held (get_or xs i 0)).most)

    shifted : (1 * 2 ^ (count + l - 1)) % 2 ^ 32 ≡ 2 ^ (count + l - 1)
    shifted = shl_exact {a = 1} 1 (count + l - 1) 32 (omega arith) (omega (arith, flag-few)) ∙ one-mul (2 ^ (count + l - 1))

    grown : wait + 2 ^ (count + l - 1) < 2 ^ (count + l)
    grown =
        let next : count + l ≡ suc (count + l - 1) = omega (arith, flag-some) in
        let twice : 2 ^ (count + l) ≡ 2 ^ (count + l - 1) * 2 = ap (λ (k : ℕ). 2 ^ k) next ∙ pow-suc 2 (count + l - 1) in
        let least : 2 ^ count ≤ 2 ^ (count + l - 1) = pow_mono {i = count} {j = count + l - 1} (omega (arith, flag-some)) in
        omega (arith, so.small)

    pub flag-fits : wait + (1 * 2 ^ (count + l - 1)) % 2 ^ 32 < 2 ^ 32
    flag-fits = rw shifted (omega (arith, grown, pow_mono {i = count + l} {j = 12} (omega (arith, flag-few))))

    both : bits_low (count + l) (wait + 2 ^ (count + l - 1)) ≡ bits_low count wait ++ last_bits (get_or xs i 0)
    both =
        let top : count + l - 1 ≡ count + (l - 1) = omega (arith, flag-some) in
        let power : 2 ^ (count + l - 1) ≡ 2 ^ count * 2 ^ (l - 1) = ap (λ (k : ℕ). 2 ^ k) top ∙ pow-add 2 count (l - 1) in
        let own : bits_low l (2 ^ (l - 1)) ≡ last_bits (get_or xs i 0) = rw el (sym (last-bits (get_or xs i 0))) in
        rw power (bits-append count l wait (2 ^ (l - 1)) so.small) ∙ ap (λ (b : List ℕ). bits_low count wait ++ b) own

    pub flag-more : FlagSo xs at out₀ out to (wait + (1 * 2 ^ (count + l - 1)) % 2 ^ 32) (count + l) (i + 1)
    flag-more =
        let x = get_or xs i 0 in
        let rest = joined last_bits (drop (i + 1) xs) in
        let same : bits_low count wait ++ joined last_bits (drop i xs) ≡ bits_low (count + l) (wait + 2 ^ (count + l - 1)) ++ rest =
        ap (λ (b : List ℕ). bits_low count wait ++ b) (joined-rest last_bits xs 0 i more) ∙ sym (append_assoc (bits_low count wait) (last_bits x) rest)
        ∙ ap (λ (b : List ℕ). b ++ rest) (sym both) in
        rw shifted (record { short = so.short; small = grown; left = rw same at so.left })

  -- eight of them are put
  pub flag-full : {out' : List ℕ} → 8 ≤ count → out' ≡ set out to (wait % 256)
      → FlagSo xs at out₀ out' (to + 1) (wait / 256) (count - 8) i
  flag-full full e =
      let rest = joined last_bits (drop i xs) in
      let eight : count ≡ 8 + (count - 8) = omega arith in
      let power : 2 ^ count ≡ 2 ^ 8 * 2 ^ (count - 8) = ap (λ (k : ℕ). 2 ^ k) eight ∙ pow-add 2 8 (count - 8) in
      let whole : wait ≡ wait % 256 + 256 * (wait / 256) = omega arith in
      let low : wait % 256 < 256 = omega arith in
      let split : bits_low count wait ≡ bits_low 8 (wait % 256) ++ bits_low (count - 8) (wait / 256) =
      ap₂ bits_low eight whole ∙ bits-append 8 (count - 8) (wait % 256) (wait / 256) low in
      let same : packed (bits_low count wait ++ rest) ≡ (wait % 256 ∷ []) ++ packed (bits_low (count - 8) (wait / 256) ++ rest) =
      ap packed (ap (λ (b : List ℕ). b ++ rest) split ∙ append_assoc (bits_low 8 (wait % 256)) (bits_low (count - 8) (wait / 256)) rest)
      ∙ packed-full (wait % 256) (bits_low (count - 8) (wait / 256) ++ rest) low in
      record {
        short = so.short;
        small = omega (arith, so.small, power);
        left = left-turn so.left same (put_one e refl);
      }

  -- all numbers' bits wait or are put
  module _ (all : length xs ≤ i) where
    last : bits_low count wait ++ joined last_bits (drop i xs) ≡ bits_low count wait
    last = rw (joined-past last_bits xs i all) (append-nil (bits_low count wait))

    as-whole : packed (joined last_bits xs) ≡ flags_of xs
    as-whole = ap (λ (k : ℕ). pack_low (flag_bytes k) (joined last_bits xs)) (flags-length xs)

    pub flag-end : {out' : List ℕ} → 0 < count → count < 8 → out' ≡ set out to (wait % 256)
        → Wrote (flags_of xs) at out₀ out' (record { byte = to + 1 })
    flag-end some few e =
        let front : packed (bits_low count wait ++ joined last_bits (drop i xs)) ≡ (wait % 256 ∷ []) ++ [] =
        ap packed last ∙ packed-last count wait some few so.small in
        wrote_as as-whole (left_end (left-turn so.left front (put_one e refl)) refl)

    pub flag-end-none : count ≡ 0 → Wrote (flags_of xs) at out₀ out (record { byte = to })
    unfolding bits_low
    flag-end-none none =
        let rest : packed (bits_low count wait ++ joined last_bits (drop i xs)) ≡ [] =
        ap packed (last ∙ ap (λ (k : ℕ). bits_low k wait) none) ∙ packed_none in
        wrote_as as-whole (left_end so.left rest)
