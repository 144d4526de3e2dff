-- Eight bytes as one number, shifted until its first bit is the one asked for. Assumes nothing.
use mathlib.Core.Path.{◌≡◌, sym, ap, ap₂, ◌∙◌}
use Prim.Native.Nat.{ℕ, ◌+◌, ◌-◌, ◌*◌, ◌/◌, ◌%◌, ◌^◌, ◌≤◌, ◌<◌, min}
use native.Mathlib.Nat.{zero-add, add-zero, one-mul, mul-mod_left, mod-eq_of_lt}
use native.Mathlib.Omega.{arith}
use mathlib.Core.List.{List, [], ◌∷◌, ◌++◌, append_assoc, append-nil}
use lib.ListN.{length, get_or, take, drop, replicate, length-drop}
use lib.Pow.{pow_pos, pow-lt, mod-pow-add, shl-shr, shr-shr, shr_mod}
use lib.Seq.{take-take, take-append-le, drop-drop}
use Rattle.meaning.specs.Bits.{bits_high, bits_of, number_high}
use Rattle.meaning.specs.Lists.{joined}
use Rattle.leaves.proofs.Joined.{joined-append}
use Rattle.std.proofs.lemmas.List.{take_all, drop_min, drop-replicate}
use Rattle.std.specs.Int.{w64, from_be_bytes}
use Rattle.meaning.specs.Places.{Below}
use Rattle.meaning.proofs.Bounds.{below-drop}
use Rattle.leaves.proofs.Parts.{part-each}
use Rattle.elias.specs.Padded.{padded}
use Rattle.elias.proofs.Numbers.{high-length, high-append, high-mod, high-take, high-drop, number-high}
use Rattle.elias.proofs.Pack.{bits-drop, bits-padded}
use Rattle.elias.proofs.Padding.{padded-length, padded-below, padded-whole, padded-take, padded-drop, padded-there}

-- ---- bytes as a number
four-bits : (a b c d : ℕ) → b < 256 → c < 256 → d < 256 → bits_high 32 (((a * 256 + b) * 256 + c) * 256 + d) ≡ bits_of (a ∷ b ∷ c ∷ d ∷ [])
unfolding bits_of joined
four-bits a b c d hb hc hd =
    high-append 24 8 ((a * 256 + b) * 256 + c) d hd
    ∙ ap (λ (l : List ℕ). l ++ bits_high 8 d) (high-append 16 8 (a * 256 + b) c hc ∙ ap (λ (l : List ℕ). l ++ bits_high 8 c) (high-append 8 8 a b hb))
    ∙ regroup (bits_high 8 a) (bits_high 8 b) (bits_high 8 c) (bits_high 8 d)
  where
    regroup : (p q r s : List ℕ) → ((p ++ q) ++ r) ++ s ≡ p ++ (q ++ (r ++ (s ++ [])))
    regroup p q r s = simp (append_assoc, append-nil)

pub eight-bits : (a b c d e f g h : ℕ) → b < 256 → c < 256 → d < 256 → e < 256 → f < 256 → g < 256 → h < 256
    → bits_high 64 ((((a * 256 + b) * 256 + c) * 256 + d) * 4294967296 + (((e * 256 + f) * 256 + g) * 256 + h)) ≡ bits_of (a ∷ b ∷ c ∷ d ∷ e ∷ f ∷ g ∷ h ∷ [])
unfolding bits_of
eight-bits a b c d e f g h hb hc hd he hf hg hh =
    high-append 32 32 (((a * 256 + b) * 256 + c) * 256 + d) (((e * 256 + f) * 256 + g) * 256 + h) (omega arith)
    ∙ ap₂ (λ (x y : List ℕ). x ++ y) (four-bits a b c d hb hc hd) (four-bits e f g h hf hg hh)
    ∙ sym (joined-append (bits_high 8) (a ∷ b ∷ c ∷ d ∷ []) (e ∷ f ∷ g ∷ h ∷ []))

be-bits : (bs : List ℕ) → length bs ≡ 8 → Below 256 bs → bits_high 64 (from_be_bytes w64 bs) ≡ bits_of bs
be-bits bs n h =
    let x = λ (i : ℕ). get_or bs i 0 in
    let sum : from_be_bytes w64 bs ≡ (((x 0 * 256 + x 1) * 256 + x 2) * 256 + x 3) * 4294967296 + (((x 4 * 256 + x 5) * 256 + x 6) * 256 + x 7) = omega arith in
    let each : x 0 ∷ x 1 ∷ x 2 ∷ x 3 ∷ x 4 ∷ x 5 ∷ x 6 ∷ x 7 ∷ [] ≡ bs = sym (part-each 8 bs 0 (omega arith)) ∙ take_all 8 bs (omega arith) in
    ap (bits_high 64) sum ∙ eight-bits (x 0) (x 1) (x 2) (x 3) (x 4) (x 5) (x 6) (x 7) (h 1) (h 2) (h 3) (h 4) (h 5) (h 6) (h 7) ∙ ap bits_of each

-- the number of eight bytes from an offset on
pub window-bits : (s : List ℕ) (k : ℕ) {w : ℕ} {bs : List ℕ} → Below 256 s → bs ≡ padded 8 (drop k s) → w ≡ from_be_bytes w64 bs
    → bits_high 64 w ≡ padded 64 (drop (8 * k) (bits_of s))
window-bits s k {w} {bs} h e is =
    let l = padded 8 (drop k s) in
    ap (bits_high 64) (is ∙ ap (from_be_bytes w64) e) ∙ be-bits l (padded-length 8 (drop k s)) (padded-below 256 8 (drop k s) (below-drop 256 k s h))
    ∙ bits-padded 8 (drop k s) ∙ ap (padded 64) (bits-drop k s)

-- eight bytes that are there
pub inside : (s : List ℕ) (k : ℕ) → k + 8 ≤ length s → take (k + 8 - k) (drop k s) ≡ padded 8 (drop k s)
inside s k h =
    let n : k + 8 - k ≡ 8 = omega arith in
    rw n (sym (padded-there 8 (drop k s) (omega (arith, length-drop k s))))

-- bytes put over zeros, as many as are there from an offset on
abbrev pub over_zeros : List ℕ → List ℕ → ℕ → List ℕ
over_zeros s put m = put ++ drop (length (take (length s - m) (drop m s))) (replicate 8 0)

pub near_end : (s put : List ℕ) (k m : ℕ) → length s < k + 8 → m ≡ min k (length s) → put ≡ take (length s - m) (drop m s)
    → over_zeros s put m ≡ padded 8 (drop k s)
near_end s put k m h em ep =
    let l = drop k s in
    let there : take (length s - m) (drop m s) ≡ l =
    take_all (length s - m) (drop m s) (omega (arith, length-drop m s)) ∙ ap (λ (j : ℕ). drop j s) em ∙ drop_min k s in
    let few : length l + (8 - length l) ≡ 8 = omega (arith, length-drop k s) in
    rw (ep, there, drop-replicate {X = ℕ} (length l) 8 0) (sym (padded-whole l (8 - length l)) ∙ ap (λ (n : ℕ). padded n l) few)

-- ---- shifts of a number of so many bits
pub shl-mod : (w j k : ℕ) → (w * 2 ^ k) % 2 ^ (j + k) ≡ (w % 2 ^ j) * 2 ^ k
shl-mod w j k =
    mod-pow-add (w * 2 ^ k) j k
    ∙ ap₂ (λ (x y : ℕ). x % 2 ^ j * 2 ^ k + y) (shl-shr w k) (mul-mod_left w (2 ^ k))
    ∙ add-zero (w % 2 ^ j * 2 ^ k)

-- a one, shifted
pub one_shl : (n : ℕ) → n < 64 → (1 * 2 ^ n) % 2 ^ 64 ≡ 2 ^ n
one_shl n h = ap (λ (x : ℕ). x % 2 ^ 64) (one-mul (2 ^ n)) ∙ mod-eq_of_lt (pow-lt {i = n} {j = 64} h)

-- k bits put after the m lowest of w
pub shl-bits : (i m k w v : ℕ) → v < 2 ^ k → bits_high (m + k) ((w * 2 ^ k) % 2 ^ (i + m + k) + v) ≡ bits_high m w ++ bits_high k v
shl-bits i m k w v h =
    ap (λ (x : ℕ). bits_high (m + k) (x + v)) (shl-mod w (i + m) k)
    ∙ high-append m k (w % 2 ^ (i + m)) v h
    ∙ ap (λ (l : List ℕ). l ++ bits_high k v) (high-mod m i w)

-- shifted, the bits from the k-th on, and zeros
pub shl-drop : (n m k w : ℕ) → n ≡ m + k → bits_high n ((w * 2 ^ k) % 2 ^ n) ≡ drop k (bits_high n w) ++ bits_high k 0
shl-drop n m k w en =
    let shifted : bits_high (m + k) ((w * 2 ^ k) % 2 ^ (m + k)) ≡ bits_high m w ++ bits_high k 0 =
    simp (zero-add, add-zero) at (shl-bits 0 m k w 0 (pow_pos k)) in
    let ek : k + m ≡ n = omega arith in
    ap (λ (j : ℕ). bits_high j ((w * 2 ^ k) % 2 ^ j)) en
    ∙ shifted
    ∙ ap (λ (l : List ℕ). l ++ bits_high k 0) (sym (high-drop k m w) ∙ ap (λ (j : ℕ). drop k (bits_high j w)) ek)

-- a list's bits from the k-th on, where a number has n of them
peek-at : (n m k w : ℕ) (l : List ℕ) → n ≡ m + k → 57 ≤ m → bits_high n w ≡ padded n l → take 57 (bits_high n ((w * 2 ^ k) % 2 ^ n)) ≡ padded 57 (drop k l)
peek-at n m k w l en h e =
    let ek : k + m ≡ n = omega arith in
    let e₅₇ : m ≡ 57 + (m - 57) = omega arith in
    let after : drop k (bits_high n w) ≡ padded m (drop k l) = ap (drop k) e ∙ ap (λ (j : ℕ). drop k (padded j l)) (sym ek) ∙ padded-drop k m l in
    ap (take 57) (shl-drop n m k w en)
    ∙ take-append-le 57 (drop k (bits_high n w)) (bits_high k 0) (omega (arith, length-drop k (bits_high n w), high-length n w))
    ∙ ap (take 57) (after ∙ ap (λ (j : ℕ). padded j (drop k l)) e₅₇)
    ∙ padded-take 57 (m - 57) (drop k l)

peek-bits : (w k : ℕ) (l : List ℕ) → k < 8 → bits_high 64 w ≡ padded 64 l → take 57 (bits_high 64 ((w * 2 ^ k) % 2 ^ 64)) ≡ padded 57 (drop k l)
peek-bits w k l h e = peek-at 64 (64 - k) k w l (omega arith) (omega arith) e

-- from the byte that holds a bit
pub peek-from : (w p : ℕ) (l : List ℕ) → bits_high 64 w ≡ padded 64 (drop (8 * (p / 8)) l)
    → take 57 (bits_high 64 ((w * 2 ^ (p % 8)) % 2 ^ 64)) ≡ padded 57 (drop p l)
peek-from w p l e =
    let at : 8 * (p / 8) + p % 8 ≡ p = omega arith in
    peek-bits w (p % 8) (drop (8 * (p / 8)) l) (omega arith) e ∙ ap (padded 57) (drop-drop (p % 8) (8 * (p / 8)) l ∙ ap (λ (j : ℕ). drop j l) at)

top-at : (s n k : ℕ) → s < 2 ^ (n + k) → s / 2 ^ k ≡ number_high 0 (take n (bits_high (n + k) s))
top-at s n k h = sym (ap (number_high 0) (high-take n k s) ∙ number-high n (s / 2 ^ k) 0 ∙ plain (2 ^ n) (s / 2 ^ k % 2 ^ n) ∙ shr_mod n k h)
  where
    plain : (p r : ℕ) → 0 * p + r ≡ r
    plain p r = omega arith

pub top-bits : (s n : ℕ) → s < 2 ^ 64 → n ≤ 57 → s / 2 / 2 ^ (63 - n) ≡ number_high 0 (take n (bits_high 64 s))
top-bits s n h k =
    let one : 1 + (63 - n) ≡ 64 - n = omega arith in
    let all : n + (64 - n) ≡ 64 = omega arith in
    shr-shr s 1 (63 - n) ∙ ap (λ (j : ℕ). s / 2 ^ j) one ∙ top-at s n (64 - n) (rw all h) ∙ ap (λ (j : ℕ). number_high 0 (take n (bits_high j s))) all

-- so many bits of a list, where they are there
pub top-list : (s n : ℕ) (l : List ℕ) → n ≤ 57 → n ≤ length l → take 57 (bits_high 64 s) ≡ padded 57 l → take n (bits_high 64 s) ≡ take n l
top-list s n l h k e =
    let e₅₇ : 57 ≡ n + (57 - n) = omega arith in
    sym (take-take n 57 (bits_high 64 s) h) ∙ ap (take n) (e ∙ ap (λ (j : ℕ). padded j l) e₅₇) ∙ padded-take n (57 - n) l ∙ padded-there n l k
