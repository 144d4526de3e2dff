-- The parts of a body of code 8: what is written stands where it is read, and a body that holds a list is what is written of it. Assumes nothing.
use Prim.Native.Nat.{ℕ, zero, suc, ◌+◌, ◌-◌, ◌*◌, ◌^◌, ◌≤◌, ◌<◌}
use mathlib.Core.Path.{◌≡◌, refl, sym, ap, ap₂, ◌∙◌}
use mathlib.Core.Bool.{true}
use mathlib.Core.List.{List, ◌++◌, append_assoc}
use native.Mathlib.Nat.{add-zero}
use native.Mathlib.Omega.{arith}
use lib.Dec.{leb}
use lib.ListN.{length, take, drop, replicate, length-append, length-drop, take-append-drop}
use lib.Seq.{take_at, drop_at, take-add, take-take, drop-drop}
use borrow.Author.Tests.{eq-eqb, eqb-true, le-leb}
use Rattle.meaning.specs.Bits.{low_bits, pack_low}
use Rattle.meaning.specs.Bytes.{bytes_of, number_of, word, word_at}
use Rattle.meaning.specs.DataBytes.{data_bytes}
use Rattle.meaning.specs.Direct.{flag_bytes, sum_count, sums_at, data_at, last_bits, sum_bytes, direct_parts, write_direct}
use Rattle.meaning.specs.Direct.{parts_fit, flags, sum_at, true_sums, spare_zero}
use Rattle.meaning.specs.Limits.{number_limit, most_numbers}
use Rattle.meaning.specs.Lists.{sum, joined}
use Rattle.meaning.specs.Places.{Below}
use Rattle.meaning.specs.Rank.{ones_before}
use Rattle.meaning.proofs.Bounds.{below-nil, below-append, below-take, below-drop}
use Rattle.meaning.proofs.Tests.{by_order, both_true, true-both}
use Rattle.leaves.proofs.Joined.{sum-append, all-zeros, zeros-all}
use Rattle.leaves.proofs.Parts.{part_length}
use Rattle.words.proofs.Bytes.{bytes-length, bytes_small, number-bytes, bytes-number}
use Rattle.words.proofs.DataBytes.{data-most, data-small}
use Rattle.words.proofs.LowBits.{low-append, low-take, pack-length, pack-low}
use Rattle.words.proofs.Words.{word_small, word-long, word_first, word_after, word-at}
use Rattle.direct.proofs.Lengths.{flags-length, flags-below, flags-sum}
use Rattle.words.proofs.Packed.{pack-zeros, low-pack, pack-below}
use Rattle.direct.proofs.Sums.{sums-length}
use Rattle.direct.proofs.Holding.{body-headed, Closed, Holds}

-- ---- sums
pub sums-small : (k : ℕ) (bits : List ℕ) → Below 256 (sum_bytes k bits)
unfolding sum_bytes
sums-small zero bits = below-nil 256 (omega arith)
sums-small (suc k) bits =
    let last = bytes_of 2 (ones_before bits (512 * suc k)) in
    below-append 256 (sum_bytes k bits) last (sums-small k bits) (bytes_small 2 (ones_before bits (512 * suc k)))

-- each sum stands at twice its number
sums_part : (k : ℕ) (bits rest : List ℕ) (s : ℕ) → s < k → take 2 (drop (2 * s) (sum_bytes k bits ++ rest)) ≡ bytes_of 2 (ones_before bits (512 * suc s))
unfolding sum_bytes
sums_part zero bits rest s h = absurd (omega arith)
sums_part (suc k) bits rest s h =
    let last = bytes_of 2 (ones_before bits (512 * suc k)) in
    ap (λ (l : List ℕ). take 2 (drop (2 * s) l)) (append_assoc (sum_bytes k bits) last rest)
    ∙ by_order s k
    (λ before. sums_part k bits (last ++ rest) s before)
    (λ after. let is : s ≡ k = omega arith in
    rw is (ap (take 2) (drop_at (sum_bytes k bits) (last ++ rest) (2 * k) (sums-length k bits))
    ∙ take_at last rest 2 (bytes-length 2 (ones_before bits (512 * suc k)))))

-- the first k sums of a body are true
abbrev pub SumsTrue : List ℕ → ℕ → Type 0
SumsTrue body k = (s : ℕ) → s < k → sum_at body s ≡ ones_before (flags body) (512 * suc s)

sums-true : (k : ℕ) (body : List ℕ) → SumsTrue body k → true_sums k body ≡ true
unfolding true_sums
sums-true zero body h = refl
sums-true (suc k) body h =
    rw (sums-true k body (λ s less. h s (omega arith)), eq-eqb (sum_at body k) (ones_before (flags body) (512 * suc k)) (h k (omega arith)))

pub true-sums : (k : ℕ) (body : List ℕ) → true_sums k body ≡ true → SumsTrue body k
unfolding true_sums
true-sums zero body e s h = absurd (omega arith)
true-sums (suc k) body e s h =
    let (before, last) = both_true (true_sums k body) _ e in
    by_order s k
    (λ less. true-sums k body before s less)
    (λ more. let is : s ≡ k = omega arith in rw is (eqb-true (sum_at body k) (ones_before (flags body) (512 * suc k)) last))

-- true sums are those that would be written
sums-back : (body : List ℕ) → Below 256 body → (k : ℕ) → sums_at (word_at body 0) + 2 * k ≤ length body → SumsTrue body k
    → sum_bytes k (flags body) ≡ take (2 * k) (drop (sums_at (word_at body 0)) body)
unfolding sum_bytes sum_at
sums-back body b zero fits h = refl
sums-back body b (suc k) fits h =
    let at = sums_at (word_at body 0) in
    let pair = take 2 (drop (at + 2 * k) body) in
    let two : length pair ≡ 2 = part_length body (at + 2 * k) 2 (omega arith) in
    let last : bytes_of 2 (ones_before (flags body) (512 * suc k)) ≡ pair =
    ap (bytes_of 2) (sym (h k (omega arith))) ∙ ap (λ (n : ℕ). bytes_of n (number_of pair)) (sym two)
    ∙ bytes-number pair (below-take 256 2 (drop (at + 2 * k) body) (below-drop 256 (at + 2 * k) body b)) in
    let next : 2 * k + 2 ≡ 2 * suc k = omega arith in
    ap₂ ◌++◌ (sums-back body b k (omega arith) (λ s less. h s (omega arith))) (last ∙ ap (take 2) (sym (drop-drop (2 * k) at body)))
    ∙ sym (take-add (2 * k) 2 (drop at body)) ∙ ap (λ (n : ℕ). take n (drop at body)) next

-- ---- a written body
pub ones-most : (bits : List ℕ) (k : ℕ) → ones_before bits k ≤ sum bits
unfolding ones_before
ones-most bits k = omega (arith, ap sum (take-append-drop k bits), sum-append (take k bits) (drop k bits))

module _ (d : ℕ) (bits bytes : List ℕ) where
  parts-after : drop 4 (direct_parts d bits bytes) ≡ pack_low (flag_bytes d) bits ++ (sum_bytes (sum_count d) bits ++ bytes)
  unfolding direct_parts
  parts-after = word_after d (pack_low (flag_bytes d) bits ++ (sum_bytes (sum_count d) bits ++ bytes))

  parts-sums : drop (sums_at d) (direct_parts d bits bytes) ≡ sum_bytes (sum_count d) bits ++ bytes
  unfolding sums_at
  parts-sums =
      sym (drop-drop (flag_bytes d) 4 (direct_parts d bits bytes)) ∙ ap (drop (flag_bytes d)) parts-after
      ∙ drop_at (pack_low (flag_bytes d) bits) (sum_bytes (sum_count d) bits ++ bytes) (flag_bytes d) (pack-length (flag_bytes d) bits)

  parts-data : drop (data_at d) (direct_parts d bits bytes) ≡ bytes
  unfolding data_at
  parts-data =
      sym (drop-drop (2 * sum_count d) (sums_at d) (direct_parts d bits bytes)) ∙ ap (drop (2 * sum_count d)) parts-sums
      ∙ drop_at (sum_bytes (sum_count d) bits) bytes (2 * sum_count d) (sums-length (sum_count d) bits)

  pub parts-length : length (direct_parts d bits bytes) ≡ data_at d + length bytes
  unfolding direct_parts data_at sums_at
  parts-length =
      let sums = sum_bytes (sum_count d) bits in
      word-long d (pack_low (flag_bytes d) bits ++ (sums ++ bytes))
      ∙ omega (
        arith,
        length-append (pack_low (flag_bytes d) bits) (sums ++ bytes),
        length-append sums bytes,
        pack-length (flag_bytes d) bits,
        sums-length (sum_count d) bits,
      )

  pub parts-small : Below 2 bits → Below 256 bytes → Below 256 (direct_parts d bits bytes)
  unfolding direct_parts
  parts-small b s =
      let sums = sum_bytes (sum_count d) bits in
      below-append 256 (word d) (pack_low (flag_bytes d) bits ++ (sums ++ bytes)) (word_small d)
      (below-append 256 (pack_low (flag_bytes d) bits) (sums ++ bytes) (pack-below (flag_bytes d) bits b)
      (below-append 256 sums bytes (sums-small (sum_count d) bits) s))

  module _ (bounded : d < number_limit) (many : length bits ≡ d) (full : length bytes ≡ d) (low : Below 2 bits) (few : sum bits < 2 ^ 16) where
    parts-head : word_at (direct_parts d bits bytes) 0 ≡ d
    unfolding direct_parts
    parts-head = word_first d (pack_low (flag_bytes d) bits ++ (sum_bytes (sum_count d) bits ++ bytes)) bounded

    -- the bits, and zeros behind them
    parts_low : low_bits (pack_low (flag_bytes d) bits) ≡ bits ++ replicate (8 * flag_bytes d - length bits) 0
    unfolding flag_bytes
    parts_low = low-pack (flag_bytes d) bits low (omega arith)

    parts-flags : flags (direct_parts d bits bytes) ≡ bits
    unfolding flags
    parts-flags =
        let pack = pack_low (flag_bytes d) bits in
        let rest = sum_bytes (sum_count d) bits ++ bytes in
        let zeros = replicate {A = ℕ} (8 * flag_bytes d - length bits) 0 in
        rw (parts-head, parts-after, low-append pack rest, parts_low, append_assoc bits zeros (low_bits rest)) (take_at bits (zeros ++ low_bits rest) d many)

    parts-true : SumsTrue (direct_parts d bits bytes) (sum_count d)
    unfolding sum_at
    parts-true s h =
        let body = direct_parts d bits bytes in
        let ones = ones_before bits (512 * suc s) in
        rw (parts-head, parts-flags)
        (ap (λ (l : List ℕ). number_of (take 2 l)) (sym (drop-drop (2 * s) (sums_at d) body) ∙ ap (drop (2 * s)) parts-sums)
        ∙ ap number_of (sums_part (sum_count d) bits bytes s h) ∙ number-bytes 2 ones (omega (arith, ones-most bits (512 * suc s))))

    parts-closed : Closed (direct_parts d bits bytes)
    unfolding parts_fit spare_zero data_at sums_at
    parts-closed =
        let body = direct_parts d bits bytes in
        let pack = pack_low (flag_bytes d) bits in
        let zeros = replicate {A = ℕ} (8 * flag_bytes d - length bits) 0 in
        let first : take (flag_bytes d) (drop 4 body) ≡ pack =
        ap (take (flag_bytes d)) parts-after ∙ take_at pack (sum_bytes (sum_count d) bits ++ bytes) (flag_bytes d) (pack-length (flag_bytes d) bits) in
        let spare : drop d (low_bits pack) ≡ zeros = ap (drop d) parts_low ∙ drop_at bits zeros d many in
        record {
          fit =
              rw parts-head (true-both (leb 4 (length body)) (leb (data_at d + d) (length body)) (le-leb 4 (length body) (omega (arith, parts-length)))
              (le-leb (data_at d + d) (length body) (omega (arith, parts-length))));
          whole = rw parts-head (omega (arith, parts-length));
          spare = rw (parts-head, first, spare) (all-zeros (8 * flag_bytes d - length bits));
          sums = rw parts-head (sums-true (sum_count d) body parts-true);
        }

    pub parts-hold : (xs : List ℕ) → bits ≡ joined last_bits xs → bytes ≡ data_bytes xs → Below number_limit xs → Holds (direct_parts d bits bytes) 0 xs
    parts-hold xs eb ed small =
        record {
          closed = parts-closed;
          inside = omega arith;
          bits = parts-flags ∙ eb;
          bytes = rw (parts-head, add-zero (data_at d)) (parts-data ∙ ed);
          small = small;
        }

-- a written body holds its list, where the counts fit their fields
pub written-holds : (xs : List ℕ) → length xs ≤ most_numbers → Below number_limit xs → Holds (write_direct xs) 0 xs
unfolding write_direct
written-holds xs few small =
    parts-hold (length (data_bytes xs)) (joined last_bits xs) (data_bytes xs) (omega (arith, data-most xs)) (flags-length xs) refl (flags-below xs)
    (omega (arith, flags-sum xs)) xs refl refl small

pub written_small : (xs : List ℕ) → Below 256 (write_direct xs)
unfolding write_direct
written_small xs = parts-small (length (data_bytes xs)) (joined last_bits xs) (data_bytes xs) (flags-below xs) (data-small xs)

-- ---- a body that was read
-- its bits packed again are its own
bits_back : (body : List ℕ) → Below 256 body → Closed body
    → pack_low (flag_bytes (word_at body 0)) (flags body) ≡ take (flag_bytes (word_at body 0)) (drop 4 body)
unfolding flags spare_zero flag_bytes data_at sums_at
bits_back body b h =
    let d = word_at body 0 in
    let n = flag_bytes d in
    let pack = take n (drop 4 body) in
    let spare = drop d (low_bits pack) in
    let size : length pack ≡ n = part_length body 4 n (omega (arith, h.whole)) in
    let first : flags body ≡ take d (low_bits pack) =
    sym (take-take d (8 * n) (low_bits (drop 4 body)) (omega arith)) ∙ ap (take d) (low-take n (drop 4 body)) in
    sym (pack-zeros n (flags body) (length spare))
    ∙ ap (pack_low n) (ap₂ ◌++◌ first (sym (zeros-all spare h.spare)) ∙ take-append-drop d (low_bits pack))
    ∙ ap (λ (k : ℕ). pack_low k (low_bits pack)) (sym size)
    ∙ pack-low pack (below-take 256 n (drop 4 body) (below-drop 256 4 body b))

parts-back : (body : List ℕ) → Below 256 body → Closed body → direct_parts (word_at body 0) (flags body) (drop (data_at (word_at body 0)) body) ≡ body
unfolding direct_parts data_at sums_at
parts-back body b h =
    let d = word_at body 0 in
    let n = flag_bytes d in
    let m = 2 * sum_count d in
    let sums = sums-back body b (sum_count d) (omega (arith, h.whole)) (true-sums (sum_count d) body h.sums) in
    let from-sums : sum_bytes (sum_count d) (flags body) ++ drop (data_at d) body ≡ drop (sums_at d) body =
    ap₂ ◌++◌ sums (sym (drop-drop m (sums_at d) body)) ∙ take-append-drop m (drop (sums_at d) body) in
    let from_bits : pack_low n (flags body) ++ drop (sums_at d) body ≡ drop 4 body =
    ap₂ ◌++◌ (bits_back body b h) (sym (drop-drop n 4 body)) ∙ take-append-drop n (drop 4 body) in
    rw (from-sums, from_bits, word-at body 0 b (body-headed body h.fit)) (take-append-drop 4 body)

-- what holds a list is what is written of it
pub holds-written : (body : List ℕ) (xs : List ℕ) → Below 256 body → Holds body 0 xs → write_direct xs ≡ body
unfolding write_direct
holds-written body xs b h =
    let d = word_at body 0 in
    let bytes : drop (data_at d) body ≡ data_bytes xs = ap (λ (k : ℕ). drop k body) (sym (add-zero (data_at d))) ∙ h.bytes in
    let many : length (data_bytes xs) ≡ d = sym (ap length bytes) ∙ length-drop (data_at d) body ∙ omega (arith, h.closed.whole) in
    rw (many, ← h.bits, ← bytes) (parts-back body b h.closed)
