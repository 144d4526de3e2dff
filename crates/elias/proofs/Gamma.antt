-- Gamma is read back as it was written, and written back as it was read; delta's length is in gamma too. Assumes nothing.
use mathlib.Core.Path.{◌≡◌, sym, ap, ap₂, ◌∙◌, subst}
use Prim.Native.Nat.{ℕ, suc, ◌+◌, ◌-◌, ◌*◌, ◌^◌, ◌≤◌, ◌<◌}
use native.Mathlib.Numerals.{add-one}
use native.Mathlib.Omega.{arith}
use mathlib.Core.List.{List, ◌∷◌, ◌++◌, append_assoc}
use borrow.Author.Tests.{le-leb, lt-leb, leb-true}
use lib.Dec.{leb}
use lib.ListN.{length, take, drop, replicate, length-append, length-drop, length-replicate, take-append-drop}
use lib.Pow.{pow_mono, pow_pos}
use lib.Seq.{drop_at, take_at, length-take-le, take-append-le, drop-append-le}
use Rattle.meaning.specs.Answer.{given, refused}
use Rattle.meaning.specs.Bits.{bits_high, number_high, zeros_first, bit_length}
use Rattle.meaning.specs.Elias.{gamma_bits, gamma_in, gamma_word}
use Rattle.meaning.specs.Limits.{cut_short, broken, number_limit}
use Rattle.meaning.specs.Places.{Below}
use Rattle.meaning.proofs.Answers.{need-given}
use Rattle.meaning.proofs.Bounds.{below-append, below-zeros, below-take, below_right}
use Rattle.meaning.proofs.Lasting.{Lasts, lasts-given, lasts-rule, lasts-long}
use Rattle.meaning.proofs.Lasting.Lasts.{cut, wrong}
use Rattle.meaning.proofs.Tests.{by_order}
use Rattle.elias.proofs.Length.{Long, long_of, long-within, first_one, one_again, one-long, one-low}
use Rattle.elias.proofs.Numbers.{high-length, high_bits}
use Rattle.elias.proofs.Codewords.{Word, Back, Taken, goes_on}
use Rattle.elias.proofs.Zeros.{zeros-then, zeros-ended, zeros-added, led}

-- ---- `gamma_in` by its tests
-- the number that stands behind m zeros
abbrev pub behind : ℕ → List ℕ → ℕ
behind m l = number_high 0 (take (m + 1) (drop m l))

module _ (z most : ℕ) (l : List ℕ) where
  pub in-many : z < zeros_first l → gamma_in z most l ≡ refused broken
  unfolding gamma_in
  in-many h = rw (lt-leb (zeros_first l) z h)

  pub in-short : zeros_first l ≤ z → length l < 2 * zeros_first l + 1 → gamma_in z most l ≡ refused cut_short
  unfolding gamma_in
  in-short h k = rw (le-leb (zeros_first l) z h, lt-leb (2 * zeros_first l + 1) (length l) k)

  in-given : zeros_first l ≤ z → 2 * zeros_first l + 1 ≤ length l → behind (zeros_first l) l ≤ most
      → gamma_in z most l ≡ given (behind (zeros_first l) l, 2 * zeros_first l + 1)
  unfolding gamma_in
  in-given h k o = rw (le-leb (zeros_first l) z h, le-leb (2 * zeros_first l + 1) (length l) k, le-leb (behind (zeros_first l) l) most o)

-- ---- with bits added
behind-added : (m : ℕ) (l more : List ℕ) → 2 * m + 1 ≤ length l → behind m (l ++ more) ≡ behind m l
behind-added m l more h =
    ap (λ (r : List ℕ). number_high 0 (take (m + 1) r)) (drop-append-le m l more (omega arith))
    ∙ ap (number_high 0) (take-append-le (m + 1) (drop m l) more (omega (arith, length-drop m l)))

module _ (z most : ℕ) (l more : List ℕ) where
  -- where a one ends the zeros, they are as many with bits added
  one-lasts : zeros_first l < length l → Lasts (Taken l) (gamma_in z most l) (gamma_in z most (l ++ more))
  unfolding gamma_in
  one-lasts h =
      let m = zeros_first l in
      rw (zeros-ended l more h)
      (lasts-rule (leb m z) _ _
      (λ few. lasts-long (2 * m + 1) l more _ _
      (λ there. rw (behind-added m l more there)
      (lasts-rule (leb (behind m l) most) _ _ (λ o. lasts-given (behind m l, 2 * m + 1) (omega arith, there))))))

  -- where no one is there, there are too many zeros already, or what follows them is missing
  pub gamma-lasts : Lasts (Taken l) (gamma_in z most l) (gamma_in z most (l ++ more))
  gamma-lasts =
      by_order (zeros_first l) (length l) one-lasts
      (λ h. by_order z (zeros_first l)
      (λ k. wrong (in-many z most l k) (in-many z most (l ++ more) (omega (arith, zeros-added l more))))
      (λ k. cut (in-short z most l k (omega arith))))

-- ---- the codeword of a number of m + 1 digits
abbrev form : ℕ → List ℕ → List ℕ
form m t = replicate m 0 ++ (1 ∷ t)

gamma-is : (m v : ℕ) → Long m v → gamma_bits v ≡ form m (bits_high m v)
unfolding gamma_bits
gamma-is m v l = rw (l.is, first_one m v l.least l.below) (ap (λ (k : ℕ). replicate k 0 ++ (1 ∷ bits_high m v)) (less m))
  where
    less : (n : ℕ) → suc n - 1 ≡ n
    less n = omega arith

form-length : (m : ℕ) (t : List ℕ) → length (form m t) ≡ m + suc (length t)
form-length m t = length-append (replicate m 0) (1 ∷ t) ∙ ap (λ (k : ℕ). k + suc (length t)) (length-replicate m 0)

pub gamma-length : (m v : ℕ) → Long m v → length (gamma_bits v) ≡ 2 * m + 1
gamma-length m v l = ap length (gamma-is m v l) ∙ form-length m (bits_high m v) ∙ omega (arith, high-length m v)

pub gamma-bits : (v : ℕ) → Below 2 (gamma_bits v)
unfolding gamma_bits
gamma-bits v =
    below-append 2 (replicate (bit_length v - 1) 0) (bits_high (bit_length v) v)
    (below-zeros 2 (bit_length v - 1) (omega arith)) (high_bits (bit_length v) v)

-- what stands behind the zeros
form-behind : (m : ℕ) (t : List ℕ) → behind m (form m t) ≡ number_high 1 (take m t)
unfolding number_high
form-behind m t = rw (drop_at (replicate m 0) (1 ∷ t) m (length-replicate m 0), add-one m)

-- ---- written and read
form-forth : (z most m v : ℕ) (t rest : List ℕ) → m ≤ z → length t ≡ m → number_high 1 t ≡ v → v ≤ most
    → gamma_in z most (form m (t ++ rest)) ≡ given (v, 2 * m + 1)
form-forth z most m v t rest hz n e k =
    let g = form m (t ++ rest) in
    let zs : zeros_first g ≡ m = zeros-then m (t ++ rest) in
    let is : behind (zeros_first g) g ≡ v = ap (λ (i : ℕ). behind i g) zs ∙ form-behind m (t ++ rest) ∙ ap (number_high 1) (take_at t rest m n) ∙ e in
    in-given z most g (omega arith) (omega (arith, form-length m (t ++ rest), length-append t rest)) (omega arith)
    ∙ ap₂ (λ (a i : ℕ). given (a, 2 * i + 1)) is zs

pub gamma-forth : (z most v : ℕ) (rest : List ℕ) → z ≤ 32 → most < 2 ^ suc z → 0 < v → v ≤ most
    → gamma_in z most (gamma_bits v ++ rest) ≡ given (v, length (gamma_bits v))
gamma-forth z most v rest hz hm h k =
    let (m, l) = long_of v h (omega (arith, pow_mono {i = suc z} {j = 33} (omega arith))) in
    ap (gamma_in z most) (ap (λ (g : List ℕ). g ++ rest) (gamma-is m v l) ∙ append_assoc (replicate m 0) (1 ∷ bits_high m v) rest)
    ∙ form-forth z most m v (bits_high m v) rest (long-within m z v l.least (omega arith)) (high-length m v) (one_again m v l.least l.below) k
    ∙ ap (λ (n : ℕ). given (v, n)) (sym (gamma-length m v l))

-- ---- read and written back
form-back : (most m : ℕ) (l after : List ℕ) → l ≡ form m after → m ≤ length after → m ≤ 32 → Below 2 after → behind m l ≤ most
    → Back most gamma_bits l (behind m l) (2 * m + 1)
form-back most m l after e h k b o =
    let t = take m after in
    let n : length t ≡ m = length-take-le m after h in
    let tb : Below 2 t = below-take 2 m after b in
    let is : behind m l ≡ number_high 1 t = ap (behind m) e ∙ form-behind m after in
    let one = one-long t tb (omega arith) in
    let g : gamma_bits (behind m l) ≡ form m t =
    ap gamma_bits is ∙ gamma-is (length t) (number_high 1 t) one ∙ ap₂ (λ (i : ℕ) (r : List ℕ). form i r) n (one-low t tb (omega arith)) in
    let parts : l ≡ form m t ++ drop m after =
    e ∙ ap (form m) (sym (take-append-drop m after)) ∙ sym (append_assoc (replicate m 0) (1 ∷ t) (drop m after)) in
    let long : length (form m t) ≡ 2 * m + 1 = form-length m t ∙ omega arith in
    record {
      is = goes_on l (form m t) (drop m after) (2 * m + 1) parts long ∙ ap (λ (r : List ℕ). r ++ drop (2 * m + 1) l) (sym g);
      some = omega (arith, one.least, pow_pos (length t));
      few = o;
      within = omega (arith, ap length e, form-length m after);
    }

pub gamma-back : (z most : ℕ) (l : List ℕ) (t : ℕ × ℕ) → z ≤ 32 → Below 2 l → gamma_in z most l ≡ given t → Back most gamma_bits l t.0 t.1
unfolding gamma_in
gamma-back z most l t hz b e =
    let m = zeros_first l in
    let (p, e₁) = need-given (leb m z) broken _ t e in
    let (q, e₂) = need-given (leb (2 * m + 1) (length l)) cut_short _ t e₁ in
    let (r, e₃) = need-given (leb (behind m l) most) broken _ t e₂ in
    let is : (behind m l, 2 * m + 1) ≡ t = cc in
    let hm = leb-true m z p in
    let hl = leb-true (2 * m + 1) (length l) q in
    let d = led l b (omega arith) in
    subst (λ (u : ℕ × ℕ). Back most gamma_bits l u.0 u.1) is
    (form-back most m l d.after d.is (omega (arith, ap length d.is, form-length m d.after)) (omega arith)
    (λ i. below_right 2 (replicate m 0) (1 ∷ d.after) (rw d.is at b) (suc i)) (leb-true (behind m l) most r))

-- how many bits it takes
pub gamma-size : (z most : ℕ) (l : List ℕ) (t : ℕ × ℕ) → gamma_in z most l ≡ given t → t.1 ≤ 2 * z + 1
unfolding gamma_in
gamma-size z most l t e =
    let m = zeros_first l in
    let (p, e₁) = need-given (leb m z) broken _ t e in
    let (q, e₂) = need-given (leb (2 * m + 1) (length l)) cut_short _ t e₁ in
    let (r, e₃) = need-given (leb (behind m l) most) broken _ t e₂ in
    let is : (behind m l, 2 * m + 1) ≡ t = cc in
    omega (arith, leb-true m z p, ap (λ (u : ℕ × ℕ). u.1) is)

pub word-gamma : Word 65 gamma_bits gamma_word
unfolding gamma_word
word-gamma =
    record {
      forth = λ v rest h k. gamma-forth 32 number_limit v rest (omega arith) (omega arith) h k;
      back = λ l t b e. gamma-back 32 number_limit l t (omega arith) b e;
      lasts = gamma-lasts 32 number_limit;
      most = λ v h k. let (m, l) = long_of v h (omega arith) in omega (arith, gamma-length m v l, l.short);
      small = gamma-bits;
    }
