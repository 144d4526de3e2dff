-- The decimal digits of a number: they are those that the library prints, and there are no more than a power of ten says. Assumes nothing.
use Prim.Native.Nat.{ℕ, zero, suc, ◌+◌, ◌/◌, ◌%◌, ◌^◌, ◌≤◌, ◌<◌}
use mathlib.Core.Path.{◌≡◌, refl, sym, ap, ◌∙◌}
use mathlib.Core.List.{List, [], ◌∷◌, ◌++◌}
use native.Mathlib.Nat.{pow-succ'}
use native.Mathlib.Omega.{arith}
use lib.ListN.{length, length-append}
use Rattle.std.specs.Fmt.{decimal}
use Rattle.std.proofs.lemmas.Fmt.{decimal_by_steps}
use Rattle.meaning.specs.Texts.{decimal_in, digits}

-- more digits than a number has leave it as it is
enough : (k j x : ℕ) → x ≤ k → x ≤ j → decimal_in k x ≡ decimal_in j x
unfolding decimal_in
enough zero zero x h i = refl
enough zero (suc j) zero h i = refl
enough zero (suc j) (suc y) h i = absurd (omega arith)
enough (suc k) zero zero h i = refl
enough (suc k) zero (suc y) h i = absurd (omega arith)
enough (suc k) (suc j) zero h i = refl
enough (suc k) (suc j) (suc y) h i =
    ap (λ (l : List ℕ). l ++ ((48 + suc y % 10) ∷ [])) (enough k j (suc y / 10) (omega arith) (omega arith))

-- ---- one digit, and the lowest after the others
pub digits-one : (x : ℕ) → x < 10 → digits x ≡ (48 + x) ∷ []
unfolding digits decimal_in
digits-one zero h = refl
digits-one (suc y) h =
    let q : suc y / 10 ≡ 0 = omega arith in
    let r : suc y % 10 ≡ suc y = omega arith in
    rw (q, r, enough y 0 0 (omega arith) (omega arith))

pub digits_more : (x : ℕ) → 10 ≤ x → digits x ≡ digits (x / 10) ++ ((48 + x % 10) ∷ [])
unfolding digits decimal_in
digits_more zero h = absurd (omega arith)
digits_more (suc y) h =
    ap (λ (l : List ℕ). l ++ ((48 + suc y % 10) ∷ [])) (enough y (suc y / 10) (suc y / 10) (omega arith) (omega arith) ∙ all (suc y / 10) (omega arith))
  where
    all : (z : ℕ) → 0 < z → decimal_in z z ≡ digits z
    all zero h = absurd (omega arith)
    all (suc z) h = refl

pub digits-decimal : (x : ℕ) → x < 2 ^ 64 → decimal x ≡ digits x
digits-decimal =
    decimal_by_steps (λ n l. l ≡ digits n) (λ n h. sym (digits-one n h))
    (λ n l h e. ap (λ (m : List ℕ). m ++ ((48 + n % 10) ∷ [])) e ∙ sym (digits_more n h))

-- ---- how many there are
few : (k j x : ℕ) → x < 10 ^ k → length (decimal_in j x) ≤ k
unfolding decimal_in
few k zero x h = omega arith
few k (suc j) zero h = omega arith
few zero (suc j) (suc y) h = absurd (omega arith)
few (suc k) (suc j) (suc y) h =
    let tenth : suc y / 10 < 10 ^ k = omega (arith, pow-succ' 10 k) in
    rw length-append (omega (arith, few k j (suc y / 10) tenth))

pub digits-few : (k x : ℕ) → 1 ≤ k → x < 10 ^ k → length (digits x) ≤ k
unfolding digits
digits-few k zero some h = some
digits-few k (suc y) some h = few k (suc y) (suc y) h
