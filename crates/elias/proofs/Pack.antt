-- Bits packed into bytes, and the bits of bytes. Assumes nothing.
use mathlib.Core.Path.{◌≡◌, refl, sym, ap, ap₂, ◌∙◌}
use Prim.Native.Nat.{ℕ, zero, suc, ◌+◌, ◌-◌, ◌*◌, ◌/◌, ◌%◌, ◌<◌}
use native.Mathlib.Nat.{mod-eq_of_lt}
use native.Mathlib.Omega.{arith}
use mathlib.Core.List.{List, [], ◌∷◌, ◌++◌}
use lib.ListN.{length, drop, replicate, length-append, length-replicate, length-drop}
use lib.Seq.{take_at, drop_at, drop-nil, drop-append-add}
use Rattle.meaning.specs.Bits.{bits_high, bits_of, number_high, byte_of, pack_in, pack}
use Rattle.meaning.specs.Lists.{joined}
use Rattle.meaning.specs.Places.{Below}
use Rattle.meaning.proofs.Bounds.{below-nil, below-cons, below-append, below_left, below-drop}
use Rattle.elias.specs.Padded.{padded}
use Rattle.elias.proofs.Numbers.{high-length, high_bits, high-zeros, high-number, number-high, number_small}
use Rattle.elias.proofs.Padding.{padded-length, padded-below, padded-append, padded-whole, padded-add, padded-there, padded-eight}

-- ---- the bits of bytes
bits-length : (s : List ℕ) → length (bits_of s) ≡ 8 * length s
unfolding bits_of joined
bits-length [] = refl
bits-length (x ∷ xs) = length-append (bits_high 8 x) (bits_of xs) ∙ omega (arith, high-length 8 x, bits-length xs)

-- how many are left from a bit on
pub bits_left : (p : ℕ) (s : List ℕ) → length (drop p (bits_of s)) ≡ 8 * length s - p
bits_left p s = length-drop p (bits_of s) ∙ ap (λ (n : ℕ). n - p) (bits-length s)

pub bits_below : (s : List ℕ) → Below 2 (bits_of s)
unfolding bits_of joined
bits_below [] = below-nil 2 (omega arith)
bits_below (x ∷ xs) = below-append 2 (bits_high 8 x) (bits_of xs) (high_bits 8 x) (bits_below xs)

pub bits-drop : (k : ℕ) (s : List ℕ) → bits_of (drop k s) ≡ drop (8 * k) (bits_of s)
unfolding bits_of joined
bits-drop zero s = refl
bits-drop (suc k) [] = sym (drop-nil (8 * suc k))
bits-drop (suc k) (x ∷ xs) =
    let e : 8 * suc k ≡ length (bits_high 8 x) + 8 * k = omega (arith, high-length 8 x) in
    bits-drop k xs ∙ sym (drop-append-add (bits_high 8 x) (bits_of xs) (8 * k)) ∙ ap (λ (n : ℕ). drop n (bits_high 8 x ++ bits_of xs)) (sym e)

-- bytes that are not there have bits that are not there
pub bits-padded : (n : ℕ) (s : List ℕ) → bits_of (padded n s) ≡ padded (8 * n) (bits_of s)
unfolding bits_of joined padded
bits-padded zero s = refl
bits-padded (suc n) [] =
    let e : 8 * suc n ≡ 8 + 8 * n = omega arith in
    ap₂ (λ (a r : List ℕ). a ++ r) (high-zeros 8) (bits-padded n []) ∙ sym (padded-add 8 (8 * n) []) ∙ ap (λ (k : ℕ). padded k []) (sym e)
bits-padded (suc n) (x ∷ xs) =
    let e : 8 * suc n ≡ length (bits_high 8 x) + 8 * n = omega (arith, high-length 8 x) in
    ap (λ (r : List ℕ). bits_high 8 x ++ r) (bits-padded n xs)
    ∙ sym (padded-append (bits_high 8 x) (bits_of xs) (8 * n))
    ∙ ap (λ (k : ℕ). padded k (bits_high 8 x ++ bits_of xs)) (sym e)

-- ---- a byte
pub byte-padded : (l : List ℕ) → byte_of l ≡ number_high 0 (padded 8 l)
unfolding byte_of number_high
byte-padded l = rw (padded-eight 0 l) (omega arith)

byte-bits : (l : List ℕ) → Below 2 l → bits_high 8 (byte_of l) ≡ padded 8 l
byte-bits l b = ap (bits_high 8) (byte-padded l) ∙ (rw (padded-length 8 l) at (high-number 0 (padded 8 l) (padded-below 2 8 l b)))

byte_small : (l : List ℕ) → Below 2 l → byte_of l < 256
byte_small l b = rw (byte-padded l) (rw (padded-length 8 l) at (number_small (padded 8 l) (padded-below 2 8 l b)))

-- of eight bits, whatever follows
byte_high : (y : ℕ) (r : List ℕ) → byte_of (bits_high 8 y ++ r) ≡ y % 256
byte_high y r =
    let n = high-length 8 y in
    byte-padded (bits_high 8 y ++ r)
    ∙ ap (number_high 0) (padded-there 8 (bits_high 8 y ++ r) (omega (arith, length-append (bits_high 8 y) r)) ∙ take_at (bits_high 8 y) r 8 n)
    ∙ number-high 8 y 0 ∙ omega arith

-- ---- packed
pub pack-none : pack [] ≡ []
unfolding pack pack_in
pack-none = refl

pub pack-next : (l : List ℕ) → 0 < length l → pack l ≡ byte_of l ∷ pack (drop 8 l)
unfolding pack pack_in
pack-next l h = let e : (length l + 7) / 8 ≡ suc ((length (drop 8 l) + 7) / 8) = omega (arith, length-drop 8 l) in rw e

-- a whole byte, and the rest
pub pack-high : (y : ℕ) (l : List ℕ) → pack (bits_high 8 y ++ l) ≡ y % 256 ∷ pack l
pack-high y l =
    pack-next (bits_high 8 y ++ l) (omega (arith, length-append (bits_high 8 y) l, high-length 8 y))
    ∙ ap₂ (λ (b : ℕ) (r : List ℕ). b ∷ pack r) (byte_high y l) (drop_at (bits_high 8 y) l 8 (high-length 8 y))

in-length : (n : ℕ) (l : List ℕ) → length (pack_in n l) ≡ n
unfolding pack_in
in-length zero l = refl
in-length (suc n) l = ap suc (in-length n (drop 8 l))

pub pack-length : (l : List ℕ) → length (pack l) ≡ (length l + 7) / 8
unfolding pack
pack-length l = in-length ((length l + 7) / 8) l

in-below : (n : ℕ) (l : List ℕ) → Below 2 l → Below 256 (pack_in n l)
unfolding pack_in
in-below zero l b = below-nil 256 (omega arith)
in-below (suc n) l b = below-cons 256 (byte_of l) (pack_in n (drop 8 l)) (byte_small l b) (in-below n (drop 8 l) (below-drop 2 8 l b))

pub pack-below : (l : List ℕ) → Below 2 l → Below 256 (pack l)
unfolding pack
pack-below l b = in-below ((length l + 7) / 8) l b

-- ---- the bits of what was packed: the bits, and spare ones
in-bits : (n : ℕ) (l : List ℕ) → Below 2 l → bits_of (pack_in n l) ≡ padded (8 * n) l
unfolding pack_in bits_of joined padded
in-bits zero l b = refl
in-bits (suc n) l b =
    let e : 8 * suc n ≡ 8 + 8 * n = omega arith in
    ap₂ (λ (a r : List ℕ). a ++ r) (byte-bits l b) (in-bits n (drop 8 l) (below-drop 2 8 l b))
    ∙ sym (padded-add 8 (8 * n) l) ∙ ap (λ (k : ℕ). padded k l) (sym e)

abbrev pub spare : List ℕ → ℕ
spare l = 8 * ((length l + 7) / 8) - length l

pub pack-bits : (l : List ℕ) → Below 2 l → bits_of (pack l) ≡ l ++ replicate (spare l) 0
unfolding pack
pack-bits l b =
    let e : 8 * ((length l + 7) / 8) ≡ length l + spare l = omega arith in
    in-bits ((length l + 7) / 8) l b ∙ ap (λ (k : ℕ). padded k l) e ∙ padded-whole l (spare l)

-- ---- bytes are what their bits make
in-back : (s : List ℕ) → Below 256 s → pack_in (length s) (bits_of s) ≡ s
unfolding pack_in bits_of joined
in-back [] h = refl
in-back (x ∷ xs) h =
    ap₂ (λ (b : ℕ) (r : List ℕ). b ∷ r) (byte_high x (bits_of xs) ∙ mod-eq_of_lt (h 0))
    (ap (pack_in (length xs)) (drop_at (bits_high 8 x) (bits_of xs) 8 (high-length 8 x)) ∙ in-back xs (λ i. h (suc i)))

pack-back : (s : List ℕ) → Below 256 s → pack (bits_of s) ≡ s
unfolding pack
pack-back s h =
    let e : (length (bits_of s) + 7) / 8 ≡ length s = omega (arith, bits-length s) in
    ap (λ (n : ℕ). pack_in n (bits_of s)) e ∙ in-back s h

-- bytes whose bits are l and fewer than eight zeros are l packed
pub packed : (s l : List ℕ) (m : ℕ) → Below 256 s → m < 8 → bits_of s ≡ l ++ replicate m 0 → pack l ≡ s
packed s l m h k e =
    let b : Below 2 l = below_left 2 l (replicate m 0) (rw e at (bits_below s)) in
    let n : 8 * length s ≡ length l + m =
    sym (bits-length s) ∙ ap length e ∙ length-append l (replicate m 0) ∙ ap (λ (j : ℕ). length l + j) (length-replicate m 0) in
    let same : spare l ≡ m = omega arith in
    sym (pack-back (pack l) (pack-below l b)) ∙ ap pack (pack-bits l b ∙ ap (λ (j : ℕ). l ++ replicate j 0) same ∙ sym e) ∙ pack-back s h
