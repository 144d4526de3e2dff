-- The bits of a number, highest first, and the number that bits make. Assumes nothing.
use mathlib.Core.Path.{◌≡◌, refl, sym, ap, ap₂, ◌∙◌}
use Prim.Native.Nat.{ℕ, zero, suc, ◌+◌, ◌*◌, ◌/◌, ◌%◌, ◌^◌, ◌<◌}
use native.Mathlib.Nat.{add-mul, mul_assoc, mul_comm, pow-suc, mod-lt, zero-div, zero-add, suc-add}
use native.Mathlib.Numerals.{one-add}
use native.Mathlib.Omega.{arith}
use mathlib.Core.List.{List, [], ◌∷◌, ◌++◌}
use lib.ListN.{length, replicate, take, drop}
use lib.Pow.{pow_pos, split, mod-pow-add, field, mod-mod-pow, shr-shr, high, low}
use lib.Seq.{take_at, drop_at}
use Rattle.meaning.specs.Bits.{bits_high, number_high}
use Rattle.meaning.specs.Places.{Below}
use Rattle.meaning.proofs.Bounds.{below-nil, below-cons}

pub high-length : (n v : ℕ) → length (bits_high n v) ≡ n
unfolding bits_high
high-length zero v = refl
high-length (suc n) v = ap suc (high-length n v)

pub high_bits : (n v : ℕ) → Below 2 (bits_high n v)
unfolding bits_high
high_bits zero v = below-nil 2 (omega arith)
high_bits (suc n) v = below-cons 2 (v / 2 ^ n % 2) (bits_high n v) (omega arith) (high_bits n v)

pub high-zeros : (n : ℕ) → bits_high n 0 ≡ replicate n 0
unfolding bits_high
high-zeros zero = refl
high-zeros (suc n) = ap₂ (λ (a : ℕ) (r : List ℕ). a ∷ r) (ap (λ (a : ℕ). a % 2) (zero-div (2 ^ n))) (high-zeros n)

-- ---- the number that bits make
next-sum : (a b p r : ℕ) → (a * 2 + b) * p + r ≡ a * (p * 2) + (b * p + r)
next-sum a b p r =
    ap (λ (n : ℕ). n + r) (add-mul (a * 2) b p ∙ ap (λ (n : ℕ). n + b * p) (mul_assoc a 2 p ∙ ap (λ (n : ℕ). a * n) (mul_comm 2 p)))
    ∙ regroup (a * (p * 2)) (b * p) r
  where
    regroup : (x c d : ℕ) → x + c + d ≡ x + (c + d)
    regroup x c d = omega arith

-- after a number a, each bit doubles it
pub number-after : (a : ℕ) (l : List ℕ) → number_high a l ≡ a * 2 ^ length l + number_high 0 l
unfolding number_high
number-after a [] = omega arith
number-after a (b ∷ bs) =
    number-after (a * 2 + b) bs
    ∙ next-sum a b (2 ^ length bs) (number_high 0 bs)
    ∙ ap₂ (λ (p r : ℕ). a * p + r) (sym (pow-suc 2 (length bs))) (sym (number-after b bs) ∙ ap (λ (c : ℕ). number_high c bs) (omega arith))

pub number_append : (a : ℕ) (l m : List ℕ) → number_high a (l ++ m) ≡ number_high (number_high a l) m
unfolding number_high
number_append a [] m = refl
number_append a (b ∷ l) m = number_append (a * 2 + b) l m

pub number-zeros : (n : ℕ) → number_high 0 (replicate n 0) ≡ 0
unfolding number_high
number-zeros zero = refl
number-zeros (suc n) = number-zeros n

pub number_small : (l : List ℕ) → Below 2 l → number_high 0 l < 2 ^ length l
unfolding number_high
number_small [] h = omega arith
number_small (zero ∷ bs) h = rw (pow-suc 2 (length bs)) (omega (arith, number_small bs (λ i. h (suc i))))
number_small (suc b ∷ bs) h =
    let one : 0 * 2 + suc b ≡ 1 = omega (arith, h 0) in
    rw (one, pow-suc 2 (length bs), number-after 1 bs) (omega (arith, number_small bs (λ i. h (suc i))))

-- the number of n of v's bits is v's remainder
pub number-high : (n v a : ℕ) → number_high a (bits_high n v) ≡ a * 2 ^ n + v % 2 ^ n
unfolding number_high bits_high
number-high zero v a = omega arith
number-high (suc n) v a =
    number-high n v (a * 2 + v / 2 ^ n % 2)
    ∙ next-sum a (v / 2 ^ n % 2) (2 ^ n) (v % 2 ^ n)
    ∙ ap₂ (λ (p r : ℕ). a * p + r) (sym (pow-suc 2 n)) (sym (mod-pow-add v 1 n) ∙ ap (λ (k : ℕ). v % 2 ^ k) (one-add n))

-- ---- the bits of such a number
pub high-number : (a : ℕ) (l : List ℕ) → Below 2 l → bits_high (length l) (number_high a l) ≡ l
unfolding number_high bits_high
high-number a [] h = refl
high-number a (b ∷ bs) h =
    let small = number_small bs (λ i. h (suc i)) in
    let q : number_high (a * 2 + b) bs / 2 ^ length bs ≡ a * 2 + b =
    ap (λ (n : ℕ). n / 2 ^ length bs) (number-after (a * 2 + b) bs) ∙ high (a * 2 + b) (length bs) small in
    let e : number_high (a * 2 + b) bs / 2 ^ length bs % 2 ≡ b = ap (λ (n : ℕ). n % 2) q ∙ odd a b (h 0) in
    ap₂ (λ (x : ℕ) (r : List ℕ). x ∷ r) e (high-number (a * 2 + b) bs (λ i. h (suc i)))
  where
    odd : (x y : ℕ) → y < 2 → (x * 2 + y) % 2 ≡ y
    odd x y k = omega arith

-- ---- only the n lowest bits of a number count
pub high-mod : (n i v : ℕ) → bits_high n (v % 2 ^ (i + n)) ≡ bits_high n v
unfolding bits_high
high-mod zero i v = refl
high-mod (suc n) i v =
    let e : i + suc n ≡ i + 1 + n = omega arith in
    ap (λ (k : ℕ). bits_high (suc n) (v % 2 ^ k)) e
    ∙ ap₂ (λ (x : ℕ) (r : List ℕ). x ∷ r) (ap (λ (k : ℕ). k % 2) (field v (i + 1) n) ∙ mod-mod-pow (v / 2 ^ n) i 1) (high-mod n (i + 1) v)

pub high-low : (n a r : ℕ) → r < 2 ^ n → bits_high n (a * 2 ^ n + r) ≡ bits_high n r
high-low n a r h = sym (high-mod n 0 (a * 2 ^ n + r)) ∙ ap (bits_high n) (ap (λ (k : ℕ). (a * 2 ^ n + r) % 2 ^ k) (zero-add n) ∙ low a n h)

-- the bits of a number in two parts
pub high-append : (m n a r : ℕ) → r < 2 ^ n → bits_high (m + n) (a * 2 ^ n + r) ≡ bits_high m a ++ bits_high n r
unfolding bits_high
high-append zero n a r h = ap (λ (k : ℕ). bits_high k (a * 2 ^ n + r)) (zero-add n) ∙ high-low n a r h
high-append (suc m) n a r h =
    let x = a * 2 ^ n + r in
    let e : x / 2 ^ (m + n) ≡ a / 2 ^ m = ap (λ (k : ℕ). x / 2 ^ k) (swap m n) ∙ sym (shr-shr x n m) ∙ ap (λ (y : ℕ). y / 2 ^ m) (high a n h) in
    ap (λ (k : ℕ). bits_high k x) (suc-add m n)
    ∙ ap₂ (λ (b : ℕ) (l : List ℕ). b ∷ l) (ap (λ (y : ℕ). y % 2) e) (high-append m n a r h)
  where
    swap : (i j : ℕ) → i + j ≡ j + i
    swap i j = omega arith

-- the same of any number: the higher bits are those of the quotient
pub high-split : (m n v : ℕ) → bits_high (m + n) v ≡ bits_high m (v / 2 ^ n) ++ bits_high n v
high-split m n v =
    ap (bits_high (m + n)) (sym (split v n))
    ∙ high-append m n (v / 2 ^ n) (v % 2 ^ n) (mod-lt v (pow_pos n))
    ∙ ap (λ (l : List ℕ). bits_high m (v / 2 ^ n) ++ l) (ap (λ (k : ℕ). bits_high n (v % 2 ^ k)) (sym (zero-add n)) ∙ high-mod n 0 v)

pub high-take : (m n v : ℕ) → take m (bits_high (m + n) v) ≡ bits_high m (v / 2 ^ n)
high-take m n v = ap (take m) (high-split m n v) ∙ take_at (bits_high m (v / 2 ^ n)) (bits_high n v) m (high-length m (v / 2 ^ n))

pub high-drop : (m n v : ℕ) → drop m (bits_high (m + n) v) ≡ bits_high n v
high-drop m n v = ap (drop m) (high-split m n v) ∙ drop_at (bits_high m (v / 2 ^ n)) (bits_high n v) m (high-length m (v / 2 ^ n))
