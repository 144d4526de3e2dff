-- Numbers of 1 to 4 bytes, byte by byte, as straight-line code reads and puts them, and eight numbers stored at once. Assumes nothing.
use Prim.Native.Nat.{ℕ, suc, ◌+◌, ◌-◌, ◌*◌, ◌/◌, ◌%◌, ◌^◌, ◌≤◌, ◌<◌}
use mathlib.Core.Path.{◌≡◌, refl, ap, ◌∙◌}
use mathlib.Core.List.{List}
use native.Mathlib.Nat.{add_assoc, div-div-eq-div-mul}
use native.Mathlib.Numerals.{add-one, towards_suc}
use native.Mathlib.Omega.{arith}
use lib.ListN.{length, get_or, take, drop, set, length-drop}
use lib.Seq.{sets, drop-cons}
use borrow.Author.Tests.{lt-ltb, le-ltb}
use Rattle.std.specs.Int.{w64, from_le_bytes}
use Rattle.std.proofs.lemmas.List.{take_all}
use Rattle.meaning.specs.Bytes.{bytes_of, number_of}
use Rattle.meaning.specs.DataBytes.{byte_length, fewest}
use Rattle.meaning.specs.Places.{part}
use Rattle.leaves.proofs.Parts.{part_length, part-each}
use Rattle.words.proofs.Bytes.{number-split}

-- ---- read
module _ (s : List ℕ) where
  number-next : (at k : ℕ) → at < length s → number_of (take (suc k) (drop at s)) ≡ get_or s at 0 + 256 * number_of (take k (drop (at + 1) s))
  unfolding number_of
  number-next at k h = rw (drop-cons s at 0 h, add-one)

  none : (at : ℕ) → number_of (take 0 (drop at s)) ≡ 0
  unfolding number_of
  none at = refl

  pub number-1 : (at : ℕ) → at + 1 ≤ length s → number_of (take 1 (drop at s)) ≡ get_or s at 0
  number-1 at h = number-next at 0 (omega arith) ∙ omega (arith, none (at + 1))

  -- the byte after the next
  later : (at k : ℕ) → get_or s (at + 1 + k) 0 ≡ get_or s (at + (1 + k)) 0
  later at k = ap (λ (i : ℕ). get_or s i 0) (add_assoc at 1 k)

  pub number-2 : (at : ℕ) → at + 2 ≤ length s → number_of (take 2 (drop at s)) ≡ get_or s at 0 + 256 * get_or s (at + 1) 0
  number-2 at h = number-next at 1 (omega arith) ∙ omega (arith, number-1 (at + 1) (omega arith))

  pub number-3 : (at : ℕ) → at + 3 ≤ length s → number_of (take 3 (drop at s)) ≡ get_or s at 0 + 256 * get_or s (at + 1) 0 + 65536 * get_or s (at + 2) 0
  number-3 at h = number-next at 2 (omega arith) ∙ omega (arith, number-2 (at + 1) (omega arith), later at 1)

  pub number-4 : (at : ℕ) → at + 4 ≤ length s
      → number_of (take 4 (drop at s)) ≡ get_or s at 0 + 256 * get_or s (at + 1) 0 + 65536 * get_or s (at + 2) 0 + 16777216 * get_or s (at + 3) 0
  number-4 at h = number-next at 3 (omega arith) ∙ omega (arith, number-3 (at + 1) (omega arith), later at 1, later at 2)

-- ---- bytes that are read at once
le-8 : (bs : List ℕ) → length bs ≡ 8 → from_le_bytes w64 bs ≡ number_of bs
le-8 bs n =
    let high : take 4 (drop 4 bs) ≡ drop 4 bs = take_all 4 (drop 4 bs) (omega (arith, length-drop 4 bs)) in
    omega (arith, number-4 bs 0 (omega arith), number-4 bs 4 (omega arith), number-split 4 bs, ap number_of high)

module _ (s : List ℕ) (at : ℕ) {bs : List ℕ} {w : ℕ} where
  pub eight-there : at + 8 ≤ length s → bs ≡ take (at + 8 - at) (drop at s) → w ≡ from_le_bytes w64 bs → w ≡ number_of (take 8 (drop at s))
  eight-there h e is =
      let e₈ : bs ≡ take 8 (drop at s) = let n : at + 8 - at ≡ 8 = omega arith in rw n at e in
      is ∙ le-8 bs (ap length e₈ ∙ part_length s at 8 h) ∙ ap number_of e₈

-- ---- put
-- the bytes of x are its quotients by the powers of 256
byte-3 : (x : ℕ) → x / 256 / 256 ≡ x / 65536
byte-3 x = div-div-eq-div-mul x 256 256

byte-4 : (x : ℕ) → x / 256 / 256 / 256 ≡ x / 16777216
byte-4 x = ap (λ (y : ℕ). y / 256) (byte-3 x) ∙ div-div-eq-div-mul x 65536 256

module _ (out : List ℕ) (at x : ℕ) where
  two : at + 2 ≡ suc (suc at)
  two = omega arith

  three : at + 3 ≡ suc (suc (suc at))
  three = omega arith

  abbrev put_1 : List ℕ
  put_1 = set out at (x % 256)

  abbrev put_2 : List ℕ
  put_2 = set put_1 (at + 1) (x / 256 % 256)

  abbrev put_3 : List ℕ
  put_3 = set put_2 (at + 2) (x / 65536 % 256)

  abbrev put_4 : List ℕ
  put_4 = set put_3 (at + 3) (x / 16777216 % 256)

  pub fewest-1 : x < 256 → (at + 1 ≡ at + byte_length x) × (put_1 ≡ sets out at (fewest x))
  unfolding fewest byte_length bytes_of
  fewest-1 a = rw (lt-ltb x (2 ^ 8) a) (refl, refl)

  pub fewest-2 : 256 ≤ x → x < 65536 → (at + 2 ≡ at + byte_length x) × (put_2 ≡ sets out at (fewest x))
  unfolding fewest byte_length bytes_of
  fewest-2 a b = rw (le-ltb x (2 ^ 8) a, lt-ltb x (2 ^ 16) b, add-one at) (refl, refl)

  pub fewest-3 : 65536 ≤ x → x < 16777216 → (at + 3 ≡ at + byte_length x) × (put_3 ≡ sets out at (fewest x))
  unfolding fewest byte_length bytes_of
  fewest-3 b c = rw (le-ltb x (2 ^ 8) (omega arith), le-ltb x (2 ^ 16) b, lt-ltb x (2 ^ 24) c) (refl, rw (byte-3 x, two, add-one at))

  pub fewest-4 : 16777216 ≤ x → (at + 4 ≡ at + byte_length x) × (put_4 ≡ sets out at (fewest x))
  unfolding fewest byte_length bytes_of
  fewest-4 c = rw (le-ltb x (2 ^ 8) (omega arith), le-ltb x (2 ^ 16) (omega arith), le-ltb x (2 ^ 24) c) (refl, rw (byte-4 x, byte-3 x, three, two, add-one at))

-- ---- the eight elements of a list from an offset on, stored one after another
pub eight-stored : (list : List ℕ) (from : ℕ) (out : List ℕ) (to : ℕ) {a b c d e f g h : ℕ} → from + 8 ≤ length list
    → a ≡ get_or list from 0 → b ≡ get_or list (from + 1) 0 → c ≡ get_or list (from + 2) 0 → d ≡ get_or list (from + 3) 0
    → e ≡ get_or list (from + 4) 0 → f ≡ get_or list (from + 5) 0 → g ≡ get_or list (from + 6) 0 → h ≡ get_or list (from + 7) 0
    → set (set (set (set (set (set (set (set out to a) (to + 1) b) (to + 2) c) (to + 3) d) (to + 4) e) (to + 5) f) (to + 6) g) (to + 7) h
    ≡ sets out to (part list from 8)
eight-stored list from out to inside ea eb ec ed ee ef eg eh =
    rw (ea, eb, ec, ed, ee, ef, eg, eh, part-each 8 list from inside) (simp towards_suc refl)
