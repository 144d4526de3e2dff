-- Bits of numbers and of bytes, lowest first: how many they are, which they are, and that they make the number and the bytes again. Assumes nothing.
use Prim.Native.Nat.{ℕ, zero, suc, ◌+◌, ◌*◌, ◌/◌, ◌%◌, ◌^◌, ◌<◌}
use mathlib.Core.Path.{◌≡◌, refl, sym, ap, ap₂, ◌∙◌}
use mathlib.Core.List.{List, [], ◌∷◌, ◌++◌, append-nil, append_assoc}
use native.Mathlib.Nat.{pow-suc, zero-add, add-zero, add_comm, mul_comm, mul_assoc, div-div-eq-div-mul, zero-div, mod-lt}
use native.Mathlib.Omega.{arith}
use lib.Count.{ones, ones_step}
use lib.ListN.{length, get_or, take, drop, replicate, length-append, drop_of_length-le, get_or-append}
use lib.Pow.{pow_pos, split}
use lib.Seq.{take_at, drop_at, take-add, take-nil, drop-drop, get_or-drop}
use Rattle.meaning.specs.Bits.{bits_low, number_low, low_bits, pack_low}
use Rattle.meaning.specs.Bytes.{number_of}
use Rattle.meaning.specs.Lists.{sum, joined}
use Rattle.meaning.specs.Places.{Below}
use Rattle.meaning.proofs.Bounds.{below-nil, below-cons, below-append}
use Rattle.leaves.proofs.Joined.{joined-append}

-- ---- of a number
pub bits-length : (k c : ℕ) → length (bits_low k c) ≡ k
unfolding bits_low
bits-length zero c = refl
bits-length (suc k) c = ap suc (bits-length k (c / 2))

bits_none : (c : ℕ) → bits_low 0 c ≡ []
unfolding bits_low
bits_none c = refl

pub bits_below : (k c : ℕ) → Below 2 (bits_low k c)
unfolding bits_low
bits_below zero c = below-nil 2 (omega arith)
bits_below (suc k) c = below-cons 2 (c % 2) (bits_low k (c / 2)) (omega arith) (bits_below k (c / 2))

pub bits-zero : (k : ℕ) → bits_low k 0 ≡ replicate k 0
unfolding bits_low
bits-zero zero = refl
bits-zero (suc k) = ap (λ (l : List ℕ). 0 ∷ l) (bits-zero k)

-- the bits of a number in two parts
pub bits-append : (a b low high : ℕ) → low < 2 ^ a → bits_low (a + b) (low + 2 ^ a * high) ≡ bits_low a low ++ bits_low b high
unfolding bits_low
bits-append zero b low high h = let e : low + 1 * high ≡ high = omega arith in ap₂ bits_low (zero-add b) e
bits-append (suc a) b low high h =
    let p : 2 ^ suc a ≡ 2 ^ a * 2 = pow-suc 2 a in
    let q : 2 ^ suc a * high ≡ 2 * (2 ^ a * high) = rw p (ap (λ (z : ℕ). z * high) (mul_comm (2 ^ a) 2) ∙ mul_assoc 2 (2 ^ a) high) in
    let m : suc a + b ≡ suc (a + b) = omega arith in
    let r : (low + 2 ^ suc a * high) % 2 ≡ low % 2 = omega (arith, q) in
    let s : (low + 2 ^ suc a * high) / 2 ≡ low / 2 + 2 ^ a * high = omega (arith, q) in
    ap (λ (n : ℕ). bits_low n (low + 2 ^ suc a * high)) m
    ∙ ap₂ (λ (x y : ℕ). x ∷ bits_low (a + b) y) r s
    ∙ ap (λ (l : List ℕ). low % 2 ∷ l) (bits-append a b (low / 2) high (omega (arith, p)))

pub bits-parts : (a b c : ℕ) → bits_low (a + b) c ≡ bits_low a (c % 2 ^ a) ++ bits_low b (c / 2 ^ a)
bits-parts a b c =
    let whole : c % 2 ^ a + 2 ^ a * (c / 2 ^ a) ≡ c =
    ap (λ (x : ℕ). c % 2 ^ a + x) (mul_comm (2 ^ a) (c / 2 ^ a)) ∙ add_comm (c % 2 ^ a) (c / 2 ^ a * 2 ^ a) ∙ split c a in
    ap (bits_low (a + b)) (sym whole) ∙ bits-append a b (c % 2 ^ a) (c / 2 ^ a) (mod-lt c (pow_pos a))

-- the lowest bits are those of what is left below them
pub bits-low : (k c : ℕ) → bits_low k (c % 2 ^ k) ≡ bits_low k c
bits-low k c =
    sym (append-nil (bits_low k (c % 2 ^ k))) ∙ ap (λ (l : List ℕ). bits_low k (c % 2 ^ k) ++ l) (sym (bits_none (c / 2 ^ k)))
    ∙ sym (bits-parts k 0 c) ∙ ap (λ (n : ℕ). bits_low n c) (add-zero k)

-- each bit
pub bits-get : (k c i : ℕ) → i < k → get_or (bits_low k c) i 0 ≡ c / 2 ^ i % 2
unfolding bits_low
bits-get zero c i h = absurd (omega arith)
bits-get (suc k) c zero h = let e : c / 1 ≡ c = omega arith in rw e
bits-get (suc k) c (suc i) h =
    bits-get k (c / 2) i (omega arith)
    ∙ ap (λ (x : ℕ). x % 2) (div-div-eq-div-mul c 2 (2 ^ i) ∙ ap (λ (x : ℕ). c / x) (mul_comm 2 (2 ^ i) ∙ sym (pow-suc 2 i)))

-- as many ones as the count of ones says
pub bits-ones : (k c : ℕ) → c < 2 ^ k → sum (bits_low k c) ≡ ones c
unfolding bits_low sum ones
bits-ones zero c h = let e : c ≡ 0 = omega arith in rw e
bits-ones (suc k) c h =
    let p : 2 ^ suc k ≡ 2 ^ k * 2 = pow-suc 2 k in
    ap (λ (x : ℕ). c % 2 + x) (bits-ones k (c / 2) (omega (arith, p))) ∙ sym (ones_step c)

-- ---- and back
pub bits-number : (bs : List ℕ) → Below 2 bs → bits_low (length bs) (number_low bs) ≡ bs
unfolding bits_low number_low
bits-number [] h = refl
bits-number (b ∷ bs) h =
    let lt : b < 2 = h 0 in
    let low : (b + 2 * number_low bs) % 2 ≡ b = omega arith in
    let high : (b + 2 * number_low bs) / 2 ≡ number_low bs = omega arith in
    rw (low, high, bits-number bs (λ i. h (suc i)))

pub number_small : (bs : List ℕ) → Below 2 bs → number_low bs < 2 ^ length bs
unfolding number_low
number_small [] h = omega arith
number_small (b ∷ bs) h = rw (pow-suc 2 (length bs)) (omega (arith, h 0, number_small bs (λ i. h (suc i))))

pub number-bits : (k c : ℕ) → c < 2 ^ k → number_low (bits_low k c) ≡ c
unfolding bits_low number_low
number-bits zero c h = omega arith
number-bits (suc k) c h =
    let p : 2 ^ suc k ≡ 2 ^ k * 2 = pow-suc 2 k in
    rw (number-bits k (c / 2) (omega (arith, p))) (omega arith)

-- zeros above add nothing
pub number-zeros : (bs : List ℕ) (n : ℕ) → number_low (bs ++ replicate n 0) ≡ number_low bs
unfolding number_low
number-zeros [] zero = refl
number-zeros [] (suc n) = rw (number-zeros [] n)
number-zeros (b ∷ bs) n = rw (number-zeros bs n)

-- ---- of bytes
pub low-length : (bytes : List ℕ) → length (low_bits bytes) ≡ 8 * length bytes
unfolding low_bits joined
low-length [] = refl
low-length (b ∷ bytes) = length-append (bits_low 8 b) (joined (bits_low 8) bytes) ∙ omega (arith, bits-length 8 b, low-length bytes)

pub low_below : (bytes : List ℕ) → Below 2 (low_bits bytes)
unfolding low_bits joined
low_below [] = below-nil 2 (omega arith)
low_below (b ∷ bytes) = below-append 2 (bits_low 8 b) (joined (bits_low 8) bytes) (bits_below 8 b) (low_below bytes)

pub low-append : (xs ys : List ℕ) → low_bits (xs ++ ys) ≡ low_bits xs ++ low_bits ys
unfolding low_bits
low-append xs ys = joined-append (bits_low 8) xs ys

-- whole bytes left out, or taken alone
pub low-drop : (k : ℕ) (bytes : List ℕ) → drop (8 * k) (low_bits bytes) ≡ low_bits (drop k bytes)
unfolding low_bits joined
low-drop zero bytes = refl
low-drop (suc k) [] = drop_of_length-le [] {i = 8 * suc k} (omega arith)
low-drop (suc k) (b ∷ bytes) =
    let e : 8 * suc k ≡ 8 * k + 8 = omega arith in
    rw e (sym (drop-drop (8 * k) 8 (low_bits (b ∷ bytes)) ∙ ap (λ (n : ℕ). drop n (low_bits (b ∷ bytes))) (add_comm 8 (8 * k))))
    ∙ ap (drop (8 * k)) (drop_at (bits_low 8 b) (low_bits bytes) 8 (bits-length 8 b)) ∙ low-drop k bytes

pub low-take : (k : ℕ) (bytes : List ℕ) → take (8 * k) (low_bits bytes) ≡ low_bits (take k bytes)
unfolding low_bits joined
low-take zero bytes = refl
low-take (suc k) [] = take-nil (8 * suc k)
low-take (suc k) (b ∷ bytes) =
    let e : 8 * suc k ≡ 8 + 8 * k = omega arith in
    rw e (take-add 8 (8 * k) (low_bits (b ∷ bytes)))
    ∙ ap₂ ◌++◌ (take_at (bits_low 8 b) (low_bits bytes) 8 (bits-length 8 b))
    (ap (take (8 * k)) (drop_at (bits_low 8 b) (low_bits bytes) 8 (bits-length 8 b)) ∙ low-take k bytes)

-- each bit, by its byte
pub low-get : (bytes : List ℕ) (i : ℕ) → get_or (low_bits bytes) i 0 ≡ get_or bytes (i / 8) 0 / 2 ^ (i % 8) % 2
unfolding low_bits joined
low-get bytes i =
    let e : i ≡ 8 * (i / 8) + i % 8 = omega arith in
    ap (λ (n : ℕ). get_or (low_bits bytes) n 0) e
    ∙ sym (get_or-drop (8 * (i / 8)) (low_bits bytes) (i % 8) 0)
    ∙ ap (λ (l : List ℕ). get_or l (i % 8) 0) (low-drop (i / 8) bytes)
    ∙ first (drop (i / 8) bytes) (i % 8) (omega arith)
    ∙ ap (λ (b : ℕ). b / 2 ^ (i % 8) % 2) (get_or-drop (i / 8) bytes 0 0 ∙ ap (λ (n : ℕ). get_or bytes n 0) (add-zero (i / 8)))
  where
    first : (bs : List ℕ) (r : ℕ) → r < 8 → get_or (low_bits bs) r 0 ≡ get_or bs 0 0 / 2 ^ r % 2
    first [] r h = let z : 0 / 2 ^ r ≡ 0 = zero-div (2 ^ r) in rw z
    first (b ∷ bs) r h =
        get_or-append (bits_low 8 b) (low_bits bs) 0 r (omega (arith, bits-length 8 b)) ∙ bits-get 8 b r h

-- the bits of the number that bytes make; in a wider number, zeros above them
pub low_zeros : (bytes : List ℕ) (n : ℕ) → Below 256 bytes → bits_low (8 * length bytes + n) (number_of bytes) ≡ low_bits bytes ++ replicate n 0
unfolding low_bits joined number_of
low_zeros [] n h = rw (zero-add n) (bits-zero n)
low_zeros (b ∷ bytes) n h =
    let e : 8 * suc (length bytes) + n ≡ 8 + (8 * length bytes + n) = omega arith in
    rw e (bits-append 8 (8 * length bytes + n) b (number_of bytes) (h 0))
    ∙ ap (λ (l : List ℕ). bits_low 8 b ++ l) (low_zeros bytes n (λ i. h (suc i)))
    ∙ sym (append_assoc (bits_low 8 b) (low_bits bytes) (replicate n 0))

pub low-number : (bytes : List ℕ) → Below 256 bytes → bits_low (8 * length bytes) (number_of bytes) ≡ low_bits bytes
low-number bytes h =
    ap (λ (n : ℕ). bits_low n (number_of bytes)) (sym (add-zero (8 * length bytes))) ∙ low_zeros bytes 0 h ∙ append-nil (low_bits bytes)

-- ---- bits packed in bytes
pub pack-length : (n : ℕ) (bits : List ℕ) → length (pack_low n bits) ≡ n
unfolding pack_low
pack-length zero bits = refl
pack-length (suc n) bits = ap suc (pack-length n (drop 8 bits))

pub pack-low : (bytes : List ℕ) → Below 256 bytes → pack_low (length bytes) (low_bits bytes) ≡ bytes
unfolding pack_low low_bits joined
pack-low [] h = refl
pack-low (b ∷ bytes) h =
    ap₂ (λ (x : ℕ) (l : List ℕ). x ∷ pack_low (length bytes) l)
    (ap number_low (take_at (bits_low 8 b) (low_bits bytes) 8 (bits-length 8 b)) ∙ number-bits 8 b (h 0))
    (drop_at (bits_low 8 b) (low_bits bytes) 8 (bits-length 8 b))
    ∙ ap (λ (l : List ℕ). b ∷ l) (pack-low bytes (λ i. h (suc i)))
