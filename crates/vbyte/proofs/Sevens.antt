-- One number in VByte, written and read back, and read and written back. Assumes nothing.
use Prim.Native.Nat.{ℕ, zero, suc, ◌+◌, ◌-◌, ◌*◌, ◌/◌, ◌%◌, ◌≤◌, ◌<◌}
use mathlib.Core.Path.{◌≡◌, refl, ap, ap₂, subst}
use mathlib.Core.Bool.{not}
use mathlib.Core.List.{List, [], ◌∷◌, ◌++◌}
use native.Mathlib.Omega.{arith}
use native.Mathlib.Numerals.{one-add}
use lib.Dec.{leb, eqb}
use lib.ListN.{length, drop}
use borrow.Author.Tests.{lt-ltb, le-ltb, le-leb, leb-true, ne_eqb, eqb-false, not-true}
use Rattle.meaning.specs.Answer.{given, need}
use Rattle.meaning.specs.Limits.{broken, number_limit}
use Rattle.meaning.specs.Places.{Below}
use Rattle.meaning.specs.VByte.{sevens, vbyte, later_in, vbyte_in}
use Rattle.meaning.proofs.Answers.{bind-given, need-given, not-given}
use Rattle.meaning.proofs.Bounds.{below-nil, below-cons}
use Rattle.meaning.proofs.Tests.{by_order}

-- what at most k + 1 bytes hold, the last at most 15
abbrev pub limit : ℕ → ℕ
limit zero = 16
limit (suc k) = 128 * limit k

limit-some : (k : ℕ) → 16 ≤ limit k
limit-some zero = omega arith
limit-some (suc k) = omega (arith, limit-some k)

-- ---- written and read
later-sevens : (k x : ℕ) (rest : List ℕ) → 0 < x → x < limit k → later_in k (sevens k x ++ rest) ≡ given (x, length (sevens k x))
unfolding later_in sevens
later-sevens zero x rest h l = rw (le-leb x 15 (omega arith), ne_eqb x 0 (omega arith))
later-sevens (suc k) x rest h l =
    by_order x 128
    (λ t. rw (lt-ltb x 128 t, lt-ltb x 128 t, ne_eqb x 0 (omega arith)))
    (λ t. rw (le-ltb x 128 t, le-ltb (x % 128 + 128) 128 (omega arith), later-sevens k (x / 128) rest (omega arith) (omega arith))
    (ap₂ (λ (a n : ℕ). given (a, n)) (omega arith) (one-add _)))

pub number-vbyte : (x : ℕ) (rest : List ℕ) → x < number_limit → vbyte_in (vbyte x ++ rest) ≡ given (x, length (vbyte x))
unfolding vbyte_in vbyte sevens
number-vbyte x rest l =
    by_order x 128
    (λ t. rw (lt-ltb x 128 t, lt-ltb x 128 t))
    (λ t. rw (le-ltb x 128 t, le-ltb (x % 128 + 128) 128 (omega arith), later-sevens 3 (x / 128) rest (omega arith) (omega arith))
    (ap₂ (λ (a n : ℕ). given (a, n)) (omega arith) (one-add _)))

-- ---- read and written back
-- what a number says that was read from s, with at most k more bytes after the first
pub record Back (k : ℕ) (s : List ℕ) (x n : ℕ) : Type 0 where
  pub is : s ≡ sevens k x ++ drop n s
  pub small : x < limit k
  pub within : n ≤ length s

back_more : (k b : ℕ) (bs : List ℕ) (y m : ℕ) → 128 ≤ b → b < 256 → 0 < y → Back k bs y m → Back (suc k) (b ∷ bs) (b - 128 + 128 * y) (1 + m)
unfolding sevens
back_more k b bs y m lo hi pos back =
    let low : (b - 128 + 128 * y) % 128 + 128 ≡ b = omega arith in
    let high : (b - 128 + 128 * y) / 128 ≡ y = omega arith in
    record {
      is = rw (le-ltb (b - 128 + 128 * y) 128 (omega arith), low, high, one-add m) (ap (λ (l : List ℕ). b ∷ l) back.is);
      small = omega (arith, back.small);
      within = omega (arith, back.within);
    }

back_one : (k b : ℕ) (bs : List ℕ) → b < 128 → Back (suc k) (b ∷ bs) b 1
unfolding sevens
back_one k b bs h = record { is = rw (lt-ltb b 128 h); small = omega (arith, limit-some k); within = omega arith }

-- a number that is not 0, and its bytes
abbrev Backs : ℕ → List ℕ → ℕ × ℕ → Type 0
Backs k s t = (0 < t.0) × Back k s t.0 t.1

-- a last byte is not 0, and is the number
last-back : (b : ℕ) (t : ℕ × ℕ) → need (not (eqb b 0)) broken (given (b, 1)) ≡ given t → (0 < b) × ((b, 1) ≡ t)
last-back b t e =
    let (z, q) = need-given (not (eqb b 0)) broken (given (b, 1)) t e in
    let n = eqb-false b 0 (not-true (eqb b 0) z) in
    (omega arith, cc)

later-back : (k : ℕ) (s : List ℕ) (t : ℕ × ℕ) → Below 256 s → later_in k s ≡ given t → (0 < t.0) × Back k s t.0 t.1
unfolding later_in sevens
later-back k [] t h e = absurd (not-given _ _ e)
later-back zero (b ∷ bs) t h e =
    let (l, e₁) = need-given (leb b 15) broken _ t e in
    let (p, is) = last-back b t e₁ in
    let q = leb-true b 15 l in
    subst (Backs 0 (b ∷ bs)) is (p, record { is = refl; small = omega arith; within = omega arith })
later-back (suc k) (b ∷ bs) t h e =
    by_order b 128
    (λ q. let (p, is) = last-back b t (rw (lt-ltb b 128 q) at e) in
    subst (Backs (suc k) (b ∷ bs)) is (p, back_one k b bs q))
    (λ q. let (t', el, eg) = bind-given (later_in k bs) _ t (rw (le-ltb b 128 q) at e) in
    let is : (b - 128 + 128 * t'.0, 1 + t'.1) ≡ t = cc in
    let (p, ih) = later-back k bs t' (λ i. h (suc i)) el in
    subst (Backs (suc k) (b ∷ bs)) is (omega arith, back_more k b bs t'.0 t'.1 q (h 0) p ih))

pub number-back : (s : List ℕ) (t : ℕ × ℕ) → Below 256 s → vbyte_in s ≡ given t → Back 4 s t.0 t.1
unfolding vbyte_in
number-back [] t h e = absurd (not-given _ _ e)
number-back (b ∷ bs) t h e =
    by_order b 128
    (λ q. let e₁ : given (b, 1) ≡ given t = rw (lt-ltb b 128 q) at e in
    let is : (b, 1) ≡ t = cc in
    subst (λ (t : ℕ × ℕ). Back 4 (b ∷ bs) t.0 t.1) is (back_one 3 b bs q))
    (λ q. let (t', el, eg) = bind-given (later_in 3 bs) _ t (rw (le-ltb b 128 q) at e) in
    let is : (b - 128 + 128 * t'.0, 1 + t'.1) ≡ t = cc in
    let (p, ih) = later-back 3 bs t' (λ i. h (suc i)) el in
    subst (λ (t : ℕ × ℕ). Back 4 (b ∷ bs) t.0 t.1) is (back_more 3 b bs t'.0 t'.1 q (h 0) p ih))

-- ---- its bytes: each is below 256, and there are at most five
sevens-small : (k x : ℕ) → x < limit k → Below 256 (sevens k x)
unfolding sevens
sevens-small zero x l = below-cons 256 x [] (omega arith) (below-nil 256 (omega arith))
sevens-small (suc k) x l =
    by_order x 128
    (λ t. rw (lt-ltb x 128 t) (below-cons 256 x [] (omega arith) (below-nil 256 (omega arith))))
    (λ t. rw (le-ltb x 128 t) (below-cons 256 (x % 128 + 128) (sevens k (x / 128)) (omega arith) (sevens-small k (x / 128) (omega arith))))

pub vbyte-small : (x : ℕ) → x < number_limit → Below 256 (vbyte x)
unfolding vbyte
vbyte-small x l = sevens-small 4 x l

sevens-most : (k x : ℕ) → length (sevens k x) ≤ suc k
unfolding sevens
sevens-most zero x = omega arith
sevens-most (suc k) x = by_order x 128 (λ t. rw (lt-ltb x 128 t) (omega arith)) (λ t. rw (le-ltb x 128 t) (omega (arith, sevens-most k (x / 128))))

pub vbyte-most : (x : ℕ) → length (vbyte x) ≤ 5
unfolding vbyte
vbyte-most x = sevens-most 4 x
