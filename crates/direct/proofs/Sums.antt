-- The sums of a list's bits put one after the other, each where a number's bytes reach the end of a stretch. Assumes nothing.
use Prim.Native.Nat.{ℕ, zero, suc, ◌+◌, ◌-◌, ◌*◌, ◌/◌, ◌%◌, ◌^◌, ◌≤◌, ◌<◌}
use mathlib.Core.Path.{◌≡◌, refl, sym, ap, ◌∙◌}
use mathlib.Core.List.{List, ◌++◌}
use native.Mathlib.Nat.{add-zero}
use native.Mathlib.Omega.{arith}
use lib.ListN.{length, get_or, take, length-append}
use lib.Seq.{sets, take_all}
use Rattle.meaning.specs.Bytes.{bytes_of}
use Rattle.meaning.specs.DataBytes.{byte_length, data_bytes}
use Rattle.meaning.specs.Direct.{sum_count, last_bits, sum_bytes}
use Rattle.meaning.specs.Lists.{joined}
use Rattle.meaning.specs.Places.{Wrote}
use Rattle.meaning.specs.Rank.{ones_before}
use Rattle.meaning.proofs.Tests.{by_order}
use Rattle.leaves.proofs.Putting.{wrote_after}
use Rattle.words.proofs.Bytes.{bytes-length}
use Rattle.words.proofs.DataBytes.{held, data-most}
use Rattle.direct.specs.Parts.{sums_of}
use Rattle.direct.proofs.Lengths.{begins, begins-next, begins-most, flags-length, ones-begin, ones-inside}

-- two bytes a sum
pub sums-length : (k : ℕ) (bits : List ℕ) → length (sum_bytes k bits) ≡ 2 * k
unfolding sum_bytes
sums-length zero bits = refl
sums-length (suc k) bits =
    let sum = bytes_of 2 (ones_before bits (512 * suc k)) in
    length-append (sum_bytes k bits) sum ∙ omega (arith, sums-length k bits, bytes-length 2 (ones_before bits (512 * suc k)))

sums_next : (k : ℕ) (bits : List ℕ) → sum_bytes (suc k) bits ≡ sum_bytes k bits ++ bytes_of 2 (ones_before bits (512 * suc k))
unfolding sum_bytes
sums_next k bits = refl

-- the sums of the stretches that the bits of the first i numbers fill are put, and so many bits are left over
pub record SumSo (xs : List ℕ) (at : ℕ) (out₀ out : List ℕ) (to count i : ℕ) : Type 0 where
  pub short : at + 4 * length xs < 2 ^ 63
  pub over : count ≡ begins xs i % 512
  pub wrote : Wrote (sum_bytes (begins xs i / 512) (joined last_bits xs)) at out₀ out (record { byte = to })

pub sum-start : (xs : List ℕ) (at : ℕ) (out₀ : List ℕ) → at + 4 * length xs < 2 ^ 63 → SumSo xs at out₀ out₀ at 0 0
unfolding sum_bytes joined
sum-start xs at out₀ short = record { short = short; over = refl; wrote = record { ends = sym (add-zero at); here = refl } }

module _ {xs : List ℕ} {at : ℕ} {out₀ out : List ℕ} {to count i : ℕ} (so : SumSo xs at out₀ out to count i) where
  -- no offset is far from the first
  pub sum_near : to ≤ at + 4 * length xs
  sum_near =
      let k = begins xs i / 512 in
      omega (arith, so.wrote.ends, sums-length k (joined last_bits xs), begins-most xs i, flags-length xs, data-most xs)

  pub sum-few : count < 512
  sum-few = omega (arith, so.over)

  -- ---- a number's bytes
  module _ {l : ℕ} (more : i < length xs) (el : l ≡ byte_length (get_or xs i 0)) where
    next : begins xs (i + 1) ≡ begins xs i + l
    next = begins-next xs i more ∙ ap (λ (k : ℕ). begins xs i + k) (sym el)

    pub short-number : l ≤ 4
    short-number = omega (arith, (held (get_or xs i 0)).most)

    -- they reach no stretch's end
    pub sum_more : count + l < 512 → SumSo xs at out₀ out to (count + l) (i + 1)
    sum_more few =
        let same : begins xs i / 512 ≡ begins xs (i + 1) / 512 = omega (arith, so.over, next) in
        record { short = so.short; over = omega (arith, so.over, next); wrote = rw same at so.wrote }

    -- they reach one: as many numbers end before it as ended before this one, and this one where its last byte is the stretch's last
    ended_is : (ended : ℕ) → 512 ≤ count + l → (0 < count + l - 512 → ended ≡ i) → (count + l - 512 ≡ 0 → ended ≡ i + 1)
        → ones_before (joined last_bits xs) (512 * suc (begins xs i / 512)) ≡ ended
    ended_is ended full within whole =
        by_order 0 (count + l - 512)
        (λ goes_on.
        let at-end : 512 * suc (begins xs i / 512) ≡ begins xs i + (512 - count) = omega (arith, so.over) in
        ap (ones_before (joined last_bits xs)) at-end
        ∙ ones-inside xs i more (512 - count) (omega (arith, el))
        ∙ sym (within goes_on))
        (λ ends.
        let at-end : 512 * suc (begins xs i / 512) ≡ begins xs (i + 1) = omega (arith, so.over, next) in
        ap (ones_before (joined last_bits xs)) at-end
        ∙ ones-begin xs (i + 1) (omega arith)
        ∙ sym (whole (omega arith)))

    pub sum-full : {ended : ℕ} {out' : List ℕ} → 512 ≤ count + l → (0 < count + l - 512 → ended ≡ i) → (count + l - 512 ≡ 0 → ended ≡ i + 1)
        → out' ≡ sets out to (bytes_of 2 ended) → SumSo xs at out₀ out' (to + 2) (count + l - 512) (i + 1)
    sum-full {ended} {out'} full within whole e =
        let bits = joined last_bits xs in
        let k = begins xs i / 512 in
        let stretch : begins xs (i + 1) / 512 ≡ suc k = omega (arith, so.over, next, short-number) in
        let sum : bytes_of 2 ended ≡ bytes_of 2 (ones_before bits (512 * suc k)) = ap (bytes_of 2) (sym (ended_is ended full within whole)) in
        let put : Wrote (bytes_of 2 (ones_before bits (512 * suc k))) to out out' (record { byte = to + 2 }) =
        record { ends = omega (arith, bytes-length 2 (ones_before bits (512 * suc k))); here = e ∙ ap (sets out to) sum } in
        record {
          short = so.short;
          over = omega (arith, so.over, next, short-number);
          wrote = rw (stretch, sums_next k bits) (wrote_after so.wrote put);
        }

  -- ---- all numbers' bytes
  pub sum-end : length xs ≤ i → Wrote (sums_of xs) at out₀ out (record { byte = to })
  unfolding sum_count
  sum-end all =
      let every : take i xs ≡ xs = take_all i xs all in
      let long : begins xs i ≡ length (data_bytes xs) = ap (λ (ys : List ℕ). length (joined last_bits ys)) every ∙ flags-length xs in
      rw long at so.wrote
