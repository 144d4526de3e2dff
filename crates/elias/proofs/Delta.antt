-- Delta is read back as it was written, and written back as it was read. Assumes nothing.
use mathlib.Core.Path.{◌≡◌, sym, ap, ap₂, ◌∙◌, subst}
use Prim.Native.Nat.{ℕ, suc, ◌+◌, ◌-◌, ◌≤◌, ◌<◌}
use native.Mathlib.Omega.{arith}
use mathlib.Core.List.{List, ◌++◌, append_assoc}
use borrow.Author.Tests.{le-leb, lt-leb, leb-true}
use lib.Dec.{leb}
use lib.ListN.{length, take, drop, length-append, length-drop, take-append-drop}
use lib.Pow.{pow_pos}
use lib.Seq.{drop-append_seam, take_at, length-take-le, take-append-le, drop-append-le}
use Rattle.meaning.specs.Answer.{given, refused}
use Rattle.meaning.specs.Bits.{bits_high, number_high, bit_length}
use Rattle.meaning.specs.Elias.{gamma_bits, gamma_in, delta_bits, rest_in, delta_word}
use Rattle.meaning.specs.Limits.{cut_short, broken, number_limit}
use Rattle.meaning.specs.Places.{Below}
use Rattle.meaning.proofs.Answers.{bind-given, need-given}
use Rattle.meaning.proofs.Bounds.{below-append, below-take, below-drop}
use Rattle.meaning.proofs.Lasting.{Lasts, lasts-given, lasts-rule, lasts-bind, lasts-long}
use Rattle.elias.proofs.Gamma.{gamma-forth, gamma-back, gamma-lasts, gamma-bits, gamma-length}
use Rattle.elias.proofs.Length.{Long, long_of, long-within, one_again, one-long, one-low}
use Rattle.elias.proofs.Numbers.{high-length, high_bits}
use Rattle.elias.proofs.Codewords.{Word, Back, Taken, goes_on}

-- ---- `rest_in` by its tests
module _ (n : ℕ) (l : List ℕ) where
  pub rest-short : length l < n → rest_in n l ≡ refused cut_short
  unfolding rest_in
  rest-short h = rw (lt-leb n (length l) h)

  rest-given : n ≤ length l → number_high 1 (take n l) ≤ number_limit → rest_in n l ≡ given (number_high 1 (take n l))
  unfolding rest_in
  rest-given h o = rw (le-leb n (length l) h, le-leb (number_high 1 (take n l)) number_limit o)

-- ---- with bits added
rest-lasts : (n : ℕ) (l more : List ℕ) → Lasts (λ v. n ≤ length l) (rest_in n l) (rest_in n (l ++ more))
unfolding rest_in
rest-lasts n l more =
    lasts-long n l more _ _
    (λ there. rw (take-append-le n l more there)
    (lasts-rule (leb (number_high 1 (take n l)) number_limit) _ _ (λ o. lasts-given (number_high 1 (take n l)) there)))

delta-lasts : (l more : List ℕ) → Lasts (Taken l) (delta_word l) (delta_word (l ++ more))
unfolding delta_word
delta-lasts l more =
    lasts-bind (gamma_in 5 33 l) (gamma_in 5 33 (l ++ more)) _ _ (gamma-lasts 5 33 l more)
    (λ s e h. let after = drop s.1 l in
    rw (drop-append-le s.1 l more h.1) (lasts-bind (rest_in (s.0 - 1) after) (rest_in (s.0 - 1) (after ++ more)) _ _ (rest-lasts (s.0 - 1) after more)
    (λ v f k. lasts-given (v, s.1 + (s.0 - 1)) (omega (arith, h), omega (arith, h, length-drop s.1 l)))))

-- ---- the codeword of a number of m + 1 digits
delta-is : (m v : ℕ) → Long m v → delta_bits v ≡ gamma_bits (suc m) ++ bits_high m v
unfolding delta_bits
delta-is m v l = rw l.is (ap (λ (k : ℕ). gamma_bits (suc m) ++ bits_high k v) (less m))
  where
    less : (n : ℕ) → suc n - 1 ≡ n
    less n = omega arith

delta-length : (m v : ℕ) → Long m v → length (delta_bits v) ≡ length (gamma_bits (suc m)) + m
delta-length m v l =
    ap length (delta-is m v l) ∙ length-append (gamma_bits (suc m)) (bits_high m v)
    ∙ ap (λ (k : ℕ). length (gamma_bits (suc m)) + k) (high-length m v)

delta-bits : (v : ℕ) → Below 2 (delta_bits v)
unfolding delta_bits
delta-bits v = below-append 2 (gamma_bits (bit_length v)) (bits_high (bit_length v - 1) v) (gamma-bits (bit_length v)) (high_bits (bit_length v - 1) v)

-- ---- written and read
rest-forth : (m v : ℕ) (t r : List ℕ) → length t ≡ m → number_high 1 t ≡ v → v ≤ number_limit → rest_in (suc m - 1) (t ++ r) ≡ given v
rest-forth m v t r n e k =
    let less : suc m - 1 ≡ m = omega arith in
    let is : number_high 1 (take m (t ++ r)) ≡ v = ap (number_high 1) (take_at t r m n) ∙ e in
    rw less (rest-given m (t ++ r) (omega (arith, length-append t r)) (omega arith) ∙ ap (λ (x : ℕ). given x) is)

delta-forth : (v : ℕ) (r : List ℕ) → 0 < v → v ≤ number_limit → delta_word (delta_bits v ++ r) ≡ given (v, length (delta_bits v))
unfolding delta_word
delta-forth v r h k =
    let (m, l) = long_of v h (omega arith) in
    let g = gamma_bits (suc m) in
    let parts : delta_bits v ++ r ≡ g ++ (bits_high m v ++ r) = ap (λ (x : List ℕ). x ++ r) (delta-is m v l) ∙ append_assoc g (bits_high m v) r in
    let first = gamma-forth 5 33 (suc m) (bits_high m v ++ r) (omega arith) (omega arith) (omega arith) (omega (arith, l.short)) in
    let less : suc m - 1 ≡ m = omega arith in
    rw (parts, first, drop-append_seam g (bits_high m v ++ r), rest-forth m v (bits_high m v) r (high-length m v) (one_again m v l.least l.below) k, less)
    (ap (λ (n : ℕ). given (v, n)) (sym (delta-length m v l)))

-- ---- read and written back
rest_back : (n : ℕ) (l : List ℕ) (v : ℕ) → rest_in n l ≡ given v → (n ≤ length l) × (number_high 1 (take n l) ≡ v) × (v ≤ number_limit)
unfolding rest_in
rest_back n l v e =
    let (p, e₁) = need-given (leb n (length l)) cut_short _ v e in
    let (q, e₂) = need-given (leb (number_high 1 (take n l)) number_limit) broken _ v e₁ in
    let is : number_high 1 (take n l) ≡ v = cc in
    (leb-true n (length l) p, is, omega (arith, leb-true (number_high 1 (take n l)) number_limit q))

-- a length k + 1 in gamma, and k bits after it
parts-back : (l r : List ℕ) (n k v : ℕ) → l ≡ gamma_bits (suc k) ++ r → n ≡ length (gamma_bits (suc k)) → k ≤ 32 → Below 2 r → k ≤ length r
    → number_high 1 (take k r) ≡ v → v ≤ number_limit → Back number_limit delta_bits l v (n + k)
parts-back l r n k v e hn hk b h is o =
    let t = take k r in
    let len : length t ≡ k = length-take-le k r h in
    let tb : Below 2 t = below-take 2 k r b in
    let one = one-long t tb (omega arith) in
    let g = gamma_bits (suc k) in
    let d : delta_bits v ≡ g ++ t =
    ap delta_bits (sym is) ∙ delta-is (length t) (number_high 1 t) one
    ∙ ap₂ (λ (i : ℕ) (x : List ℕ). gamma_bits (suc i) ++ x) len (one-low t tb (omega arith)) in
    let parts : l ≡ (g ++ t) ++ drop k r = e ∙ ap (λ (x : List ℕ). g ++ x) (sym (take-append-drop k r)) ∙ sym (append_assoc g t (drop k r)) in
    let long : length (g ++ t) ≡ n + k = length-append g t ∙ omega arith in
    record {
      is = goes_on l (g ++ t) (drop k r) (n + k) parts long ∙ ap (λ (x : List ℕ). x ++ drop (n + k) l) (sym d);
      some = omega (arith, one.least, pow_pos (length t));
      few = o;
      within = omega (arith, ap length e, length-append g r);
    }

delta-back : (l : List ℕ) (t : ℕ × ℕ) → Below 2 l → delta_word l ≡ given t → Back number_limit delta_bits l t.0 t.1
unfolding delta_word
delta-back l t b e =
    let (s, eg, e₁) = bind-given (gamma_in 5 33 l) _ t e in
    let (v, er, e₂) = bind-given (rest_in (s.0 - 1) (drop s.1 l)) _ t e₁ in
    let is : (v, s.1 + (s.0 - 1)) ≡ t = cc in
    let g = gamma-back 5 33 l s (omega arith) b eg in
    let (within, value, few) = rest_back (s.0 - 1) (drop s.1 l) v er in
    let one : s.0 ≡ suc (s.0 - 1) = omega (arith, g.some) in
    let parts : l ≡ gamma_bits (suc (s.0 - 1)) ++ drop s.1 l = g.is ∙ ap (λ (x : ℕ). gamma_bits x ++ drop s.1 l) one in
    let n : s.1 ≡ length (gamma_bits (suc (s.0 - 1))) = omega (arith, simp length-append at (ap length parts), length-drop s.1 l, g.within) in
    subst (λ (u : ℕ × ℕ). Back number_limit delta_bits l u.0 u.1) is
    (parts-back l (drop s.1 l) s.1 (s.0 - 1) v parts n (omega (arith, g.few)) (below-drop 2 s.1 l b) within value few)

-- the length, at most 33, takes at most 11 bits, and the rest at most 32
delta-most : (v : ℕ) → 0 < v → v ≤ number_limit → length (delta_bits v) ≤ 43
delta-most v h k =
    let (m, l) = long_of v h (omega arith) in
    let (j, i) = long_of (suc m) (omega arith) (omega (arith, l.short)) in
    omega (arith, delta-length m v l, gamma-length j (suc m) i, l.short, long-within j 5 (suc m) i.least (omega (arith, l.short)))

pub word-delta : Word 43 delta_bits delta_word
word-delta = record { forth = delta-forth; back = delta-back; lasts = delta-lasts; most = delta-most; small = delta-bits }
