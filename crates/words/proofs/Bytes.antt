-- Numbers in bytes: written, read, and back. Assumes nothing.
use Prim.Native.Nat.{ℕ, zero, suc, ◌+◌, ◌*◌, ◌/◌, ◌%◌, ◌^◌, ◌<◌}
use mathlib.Core.Path.{◌≡◌, refl, ap, ◌∙◌}
use mathlib.Core.List.{List, [], ◌∷◌}
use native.Mathlib.Nat.{mul_assoc, pow-suc}
use native.Mathlib.Omega.{arith}
use lib.ListN.{length, take, drop}
use lib.Pow.{pow_pos, pow-add, low, high}
use Rattle.meaning.specs.Bytes.{bytes_of, number_of}
use Rattle.meaning.specs.Places.{Below}
use Rattle.meaning.proofs.Bounds.{below-nil, below-cons}

pub bytes-length : (k x : ℕ) → length (bytes_of k x) ≡ k
unfolding bytes_of
bytes-length zero x = refl
bytes-length (suc k) x = ap suc (bytes-length k (x / 256))

pub bytes_small : (k x : ℕ) → Below 256 (bytes_of k x)
unfolding bytes_of
bytes_small zero x = below-nil 256 (omega arith)
bytes_small (suc k) x = below-cons 256 (x % 256) (bytes_of k (x / 256)) (omega arith) (bytes_small k (x / 256))

-- k bytes hold x
pub number-bytes : (k x : ℕ) → x < 256 ^ k → number_of (bytes_of k x) ≡ x
unfolding bytes_of number_of
number-bytes zero x h = omega arith
number-bytes (suc k) x h =
    let h' : x < 256 ^ k * 256 = rw pow-suc at h in
    rw (number-bytes k (x / 256) (omega arith)) (omega arith)

pub number_small : (bs : List ℕ) → Below 256 bs → number_of bs < 256 ^ length bs
unfolding number_of
number_small [] h = omega arith
number_small (b ∷ bs) h = rw (pow-suc 256 (length bs)) (omega (arith, h 0, number_small bs (λ i. h (suc i))))

-- the bytes of the number that bytes make
pub bytes-number : (bs : List ℕ) → Below 256 bs → bytes_of (length bs) (number_of bs) ≡ bs
unfolding bytes_of number_of
bytes-number [] h = refl
bytes-number (b ∷ bs) h =
    let lt : b < 256 = h 0 in
    let low : (b + 256 * number_of bs) % 256 ≡ b = omega arith in
    let high : (b + 256 * number_of bs) / 256 ≡ number_of bs = omega arith in
    rw (low, high, bytes-number bs (λ i. h (suc i)))

-- the number of bytes by their first l and the rest
pub number-split : (l : ℕ) (bs : List ℕ) → number_of bs ≡ number_of (drop l bs) * 2 ^ (8 * l) + number_of (take l bs)
unfolding number_of
number-split zero bs = omega arith
number-split (suc l) [] = omega arith
number-split (suc l) (b ∷ bs) =
    let e : 8 * suc l ≡ 8 * l + 8 = omega arith in
    rw (e, pow-add 2 (8 * l) 8, ← (mul_assoc (number_of (drop l bs)) (2 ^ (8 * l)) (2 ^ 8)), number-split l bs) (omega arith)

-- ---- bytes as one number: the first l of them, and the rest
pub number-few : (l : ℕ) (bs : List ℕ) → Below 256 bs → number_of (take l bs) < 2 ^ (8 * l)
unfolding number_of
number-few zero bs h = omega arith
number-few (suc l) [] h = pow_pos (8 * suc l)
number-few (suc l) (b ∷ bs) h =
    let e : 8 * suc l ≡ 8 * l + 8 = omega arith in
    rw (e, pow-add 2 (8 * l) 8) (omega (arith, h 0, number-few l bs (λ i. h (suc i))))

module _ (l : ℕ) (bs : List ℕ) (h : Below 256 bs) where
  pub number-low : number_of bs % 2 ^ (8 * l) ≡ number_of (take l bs)
  number-low = ap (λ (n : ℕ). n % 2 ^ (8 * l)) (number-split l bs) ∙ low (number_of (drop l bs)) (8 * l) (number-few l bs h)

  pub number-high : number_of bs / 2 ^ (8 * l) ≡ number_of (drop l bs)
  number-high = ap (λ (n : ℕ). n / 2 ^ (8 * l)) (number-split l bs) ∙ high (number_of (drop l bs)) (8 * l) (number-few l bs h)
