-- Bits packed in bytes are there again, and zeros behind them change nothing. Assumes nothing.
use Prim.Native.Nat.{ℕ, zero, suc, ◌-◌, ◌*◌, ◌≤◌}
use mathlib.Core.Path.{◌≡◌, refl, sym, ap, ap₂, ◌∙◌}
use mathlib.Core.List.{List, [], ◌∷◌, ◌++◌}
use native.Mathlib.Nat.{lt_of_lt_of_le}
use native.Mathlib.Omega.{arith}
use lib.ListN.{length, take, drop, replicate, length-append, length-replicate, length-take, length-drop, take-append-drop}
use lib.Pow.{pow_mono}
use lib.Seq.{length-take-le, take-nil, drop-nil}
use Rattle.meaning.specs.Bits.{bits_low, number_low, low_bits, pack_low}
use Rattle.meaning.specs.Lists.{joined}
use Rattle.meaning.specs.Places.{Below}
use Rattle.meaning.proofs.Bounds.{below-nil, below-cons, below-append, below-take, below-drop, below-zeros}
use Rattle.words.proofs.LowBits.{bits-number, number_small, number-zeros}

-- the first m of bits and zeros behind them, and the others
take-zeros : (m : ℕ) (bits : List ℕ) (k : ℕ) → (j : ℕ) × (take m (bits ++ replicate k 0) ≡ take m bits ++ replicate j 0)
take-zeros zero bits k = (0, refl)
take-zeros (suc m) [] zero = (0, refl)
take-zeros (suc m) [] (suc k) = let (j, e) = take-zeros m [] k in (suc j, ap (λ (l : List ℕ). 0 ∷ l) (e ∙ ap (λ (l : List ℕ). l ++ replicate j 0) (take-nil m)))
take-zeros (suc m) (b ∷ bits) k = let (j, e) = take-zeros m bits k in (j, ap (λ (l : List ℕ). b ∷ l) e)

drop-zeros : (m : ℕ) (bits : List ℕ) (k : ℕ) → (j : ℕ) × (drop m (bits ++ replicate k 0) ≡ drop m bits ++ replicate j 0)
drop-zeros zero bits k = (k, refl)
drop-zeros (suc m) [] zero = (0, refl)
drop-zeros (suc m) [] (suc k) = let (j, e) = drop-zeros m [] k in (j, e ∙ ap (λ (l : List ℕ). l ++ replicate j 0) (drop-nil m))
drop-zeros (suc m) (b ∷ bits) k = drop-zeros m bits k

pub pack-zeros : (n : ℕ) (bits : List ℕ) (k : ℕ) → pack_low n (bits ++ replicate k 0) ≡ pack_low n bits
unfolding pack_low
pack-zeros zero bits k = refl
pack-zeros (suc n) bits k =
    let (i, first) = take-zeros 8 bits k in
    let (j, others) = drop-zeros 8 bits k in
    ap₂ (λ (x : ℕ) (l : List ℕ). x ∷ l) (ap number_low first ∙ number-zeros (take 8 bits) i) (ap (pack_low n) others ∙ pack-zeros n (drop 8 bits) j)

-- bits that fill so many bytes
low-full : (n : ℕ) (bits : List ℕ) → Below 2 bits → length bits ≡ 8 * n → low_bits (pack_low n bits) ≡ bits
unfolding pack_low low_bits joined
low-full zero [] b h = refl
low-full zero (x ∷ bits) b h = absurd (omega arith)
low-full (suc n) bits b h =
    let many : length (take 8 bits) ≡ 8 = length-take-le 8 bits (omega arith) in
    let first : bits_low 8 (number_low (take 8 bits)) ≡ take 8 bits =
    ap (λ (k : ℕ). bits_low k (number_low (take 8 bits))) (sym many) ∙ bits-number (take 8 bits) (below-take 2 8 bits b) in
    ap₂ ◌++◌ first (low-full n (drop 8 bits) (below-drop 2 8 bits b) (omega (arith, length-drop 8 bits))) ∙ take-append-drop 8 bits

-- bits that n bytes have room for
pub low-pack : (n : ℕ) (bits : List ℕ) → Below 2 bits → length bits ≤ 8 * n → low_bits (pack_low n bits) ≡ bits ++ replicate (8 * n - length bits) 0
low-pack n bits b h =
    let k = 8 * n - length bits in
    let many = length-append bits (replicate k 0) in
    sym (ap low_bits (pack-zeros n bits k))
    ∙ low-full n (bits ++ replicate k 0) (below-append 2 bits (replicate k 0) b (below-zeros 2 k (omega arith)))
    (omega (arith, length-replicate {A = ℕ} k 0))

pub pack-below : (n : ℕ) (bits : List ℕ) → Below 2 bits → Below 256 (pack_low n bits)
unfolding pack_low
pack-below zero bits b = below-nil 256 (omega arith)
pack-below (suc n) bits b =
    let few : length (take 8 bits) ≤ 8 = omega (arith, length-take 8 bits) in
    below-cons 256 (number_low (take 8 bits)) (pack_low n (drop 8 bits)) (lt_of_lt_of_le (number_small (take 8 bits) (below-take 2 8 bits b)) (pow_mono few))
    (pack-below n (drop 8 bits) (below-drop 2 8 bits b))
