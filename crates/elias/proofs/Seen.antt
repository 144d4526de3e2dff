-- What is read of a list of bits whose first 57 are seen as a number's. Assumes nothing.
use mathlib.Core.Path.{◌≡◌, refl, sym, ap, ◌∙◌}
use Prim.Native.Nat.{ℕ, zero, suc, ◌+◌, ◌-◌, ◌*◌, ◌%◌, ◌^◌, ◌≤◌, ◌<◌}
use native.Mathlib.Nat.{le-mul_of_pos_right}
use native.Mathlib.Omega.{arith}
use mathlib.Core.Bool.{Bool, true, false, cond, ◌&&◌}
use mathlib.Core.List.{List, [], ◌∷◌}
use borrow.Author.Tests.{le-leb, lt-ltb, le-ltb, ne_eqb}
use lib.Count.{count_leading_zeros}
use lib.Dec.{leb, ltb, eqb, eqb-zero-suc}
use lib.ListN.{length, take, drop, replicate, length-drop}
use lib.Pow.{pow_pos, pow_mono}
use lib.Seq.{take-take, take-add, drop_at, drop-drop, length-take-le, take-append-le}
use Rattle.meaning.specs.Answer.{given, refused, bind, need}
use Rattle.meaning.specs.Bits.{bits_high, bits_of, number_high, zeros_first}
use Rattle.meaning.specs.Elias.{gamma_in, gamma_word, rest_in, delta_word, done_elias}
use Rattle.meaning.specs.Limits.{cut_short, broken, number_limit}
use Rattle.meaning.specs.Lists.{all}
use Rattle.meaning.specs.Places.{Below}
use Rattle.meaning.specs.declared.Position.{Position}
use Rattle.meaning.proofs.Bounds.{below-take}
use Rattle.meaning.proofs.Tests.{by_order}
use Rattle.elias.specs.Padded.{padded}
use Rattle.elias.specs.Says.{word_of}
use Rattle.elias.specs.declared.word.Form.{Form}
use Rattle.elias.specs.declared.word.Form.TheVariants.{Gamma, Delta}
use Rattle.elias.proofs.Delta.{rest-short}
use Rattle.elias.proofs.Gamma.{behind, in-many, in-short}
use Rattle.elias.proofs.Numbers.{high-length, number_append, number-zeros, number-after, number_small}
use Rattle.elias.proofs.Padding.{padded-there, padded-take}
use Rattle.elias.proofs.Windows.{one_shl, shl-drop, top-list}
use Rattle.elias.proofs.Zeros.{zeros-agree, zeros-are, zeros_within, zeros-leading}

-- ---- gamma
module _ (s : ℕ) (l : List ℕ) (fits : s < 2 ^ 64) (seen : take 57 (bits_high 64 s) ≡ padded 57 l) where
  abbrev z : ℕ
  z = count_leading_zeros 64 s

  alike : padded 57 (bits_high 64 s) ≡ padded 57 l
  alike = padded-there 57 (bits_high 64 s) (omega (arith, high-length 64 s)) ∙ seen

  -- few zeros are the list's own
  seen-zeros : z ≤ 32 → zeros_first l ≡ z
  seen-zeros h =
      let e = zeros-leading s fits in
      (zeros-agree 57 (bits_high 64 s) l alike (omega arith) (omega (arith, high-length 64 s))).0 ∙ e

  module _ (zeros most : ℕ) (few : zeros ≤ 32) (many : zeros < z) where
    -- a one that is there comes too late
    late : zeros_first l < length l → zeros < zeros_first l
    late h =
        by_order zeros (zeros_first l) (λ a. a)
        (λ a. let e = (zeros-agree 57 l (bits_high 64 s) (sym alike) (omega arith) h).0 in absurd (omega (arith, zeros-leading s fits)))

    -- the zero too many is the list's own, or the list ends before it
    pub seen-many : refused (cond (ltb zeros (length l)) broken cut_short) ≡ gamma_in zeros most l
    seen-many =
        by_order zeros (length l)
        (λ h. rw (lt-ltb zeros (length l) h) (sym (in-many zeros most l (by_order (zeros_first l) (length l) late (λ a. omega arith)))))
        (λ h. let short = by_order (zeros_first l) (length l) (λ a. absurd (omega (arith, late a))) (λ a. a) in
        rw (le-ltb zeros (length l) h) (sym (in-short zeros most l (omega (arith, zeros_within l)) (omega (arith, short)))))

  module _ (zeros most : ℕ) (few : zeros ≤ 32) (h : z ≤ zeros) where
    pub seen-short : length l < 2 * z + 1 → refused cut_short ≡ gamma_in zeros most l
    seen-short k = let e = seen-zeros (omega arith) in sym (in-short zeros most l (omega arith) (omega arith))

    -- a value is given where it is not too large
    pub seen_value : (v : ℕ) → 2 * z + 1 ≤ length l → v ≡ behind z l → need (leb v most) broken (given (v, 2 * z + 1)) ≡ gamma_in zeros most l
    unfolding gamma_in
    seen_value v k e =
        let ez = seen-zeros (omega arith) in
        rw (ez, le-leb z zeros h, le-leb (2 * z + 1) (length l) k, e)

  -- the zeros and what stands behind them, seen at once
  pub seen-behind : (v : ℕ) → z ≤ 28 → 2 * z + 1 ≤ length l → v ≡ number_high 0 (take (2 * z + 1) (bits_high 64 s)) → v ≡ behind z l
  seen-behind v h k e =
      let ez = seen-zeros (omega arith) in
      let two : 2 * z + 1 ≡ z + (z + 1) = omega arith in
      let zs : take z l ≡ replicate z 0 = rw (← ez) (zeros-are l) in
      e ∙ ap (number_high 0) (top-list s (2 * z + 1) l (omega arith) k seen ∙ ap (λ (n : ℕ). take n l) two ∙ take-add z (z + 1) l)
      ∙ number_append 0 (take z l) (take (z + 1) (drop z l))
      ∙ ap (λ (a : ℕ). number_high a (take (z + 1) (drop z l))) (ap (number_high 0) zs ∙ number-zeros z)

-- what stands behind the zeros, seen by a look that begins there
pub behind-looked : (u p z : ℕ) (l : List ℕ) {v : ℕ} → z ≤ 32 → z + 1 ≤ length (drop (p + z) l) → take 57 (bits_high 64 u) ≡ padded 57 (drop (p + z) l)
    → v ≡ number_high 0 (take (z + 1) (bits_high 64 u)) → v ≡ behind z (drop p l)
behind-looked u p z l few there seen e =
    e ∙ ap (number_high 0) (top-list u (z + 1) (drop (p + z) l) (omega arith) there seen ∙ ap (take (z + 1)) (sym (drop-drop z p l)))

-- ---- delta
need-then : (b : Bool) (v k : ℕ) → need {A = ℕ × ℕ} b broken (given (v, k)) ≡ bind (need b broken (given v)) (λ x. given (x, k))
need-then true v k = refl
need-then false v k = refl

module _ (l : List ℕ) where
  pub delta-refused : (e : ℕ) → gamma_in 5 33 l ≡ refused e → refused e ≡ delta_word l
  unfolding delta_word
  delta-refused e q = rw q

  module _ (long size : ℕ) (first : gamma_in 5 33 l ≡ given (long, size)) where
    pub delta-short : length (drop size l) < long - 1 → refused cut_short ≡ delta_word l
    unfolding delta_word
    delta-short h = rw (first, rest-short (long - 1) (drop size l) h)

    pub delta-value : (v : ℕ) → long - 1 ≤ length (drop size l) → v ≡ number_high 1 (take (long - 1) (drop size l))
        → need (leb v number_limit) broken (given (v, size + (long - 1))) ≡ delta_word l
    unfolding delta_word rest_in
    delta-value v h e = rw (first, le-leb (long - 1) (length (drop size l)) h, ← e) (need-then (leb v number_limit) v (size + (long - 1)))

-- so many bits behind others
after-take : (k n : ℕ) (l : List ℕ) → k ≤ length l → take n (drop k l) ≡ drop k (take (k + n) l)
after-take k n l h = sym (ap (drop k) (take-add k n l) ∙ drop_at (take k l) (take n (drop k l)) k (length-take-le k l h))

-- bits of a list from the k-th on, where a number shows its first 57
pub shifted-list : (s k n : ℕ) (l : List ℕ) → k + n ≤ 57 → k + n ≤ length l → take 57 (bits_high 64 s) ≡ padded 57 l
    → take n (bits_high 64 ((s * 2 ^ k) % 2 ^ 64)) ≡ take n (drop k l)
shifted-list s k n l h there seen =
    ap (take n) (shl-drop 64 (64 - k) k s (omega arith))
    ∙ take-append-le n (drop k (bits_high 64 s)) (bits_high k 0) (omega (arith, length-drop k (bits_high 64 s), high-length 64 s))
    ∙ after-take k n (bits_high 64 s) (omega (arith, high-length 64 s))
    ∙ ap (drop k) (top-list s (k + n) l h (omega arith) seen)
    ∙ sym (after-take k n l (omega arith))

-- a one before n bits that are there
module _ (n t : ℕ) (r : List ℕ) (few : n ≤ 32) (there : n ≤ length r) (e : t ≡ number_high 0 (take n r)) where
  shifted : (1 * 2 ^ n) % 2 ^ 64 ≡ 2 ^ n
  shifted = one_shl n (omega arith)

  pub one-before : (1 * 2 ^ n) % 2 ^ 64 + t ≡ number_high 1 (take n r)
  one-before =
      let len : length (take n r) ≡ n = length-take-le n r there in
      let sum : number_high 1 (take n r) ≡ 1 * 2 ^ n + number_high 0 (take n r) = rw len at (number-after 1 (take n r)) in
      omega (arith, shifted, sum)

  pub one-before-fits : Below 2 r → (1 * 2 ^ n) % 2 ^ 64 + t < 2 ^ 64
  one-before-fits b =
      let len : length (take n r) ≡ n = length-take-le n r there in
      let small : number_high 0 (take n r) < 2 ^ n = rw len at (number_small (take n r) (below-take 2 n r b)) in
      omega (arith, shifted, pow_mono {i = n} {j = 32} few)

-- ---- nothing at all
pub word_none : (form : Form) (l : List ℕ) → length l ≡ 0 → refused cut_short ≡ word_of form l
unfolding gamma_word gamma_in delta_word zeros_first
word_none Gamma [] e = refl
word_none Delta [] e = refl
word_none Gamma (x ∷ l) e = absurd (omega arith)
word_none Delta (x ∷ l) e = absurd (omega arith)

-- ---- spare bits
number-zero : (l : List ℕ) → eqb (number_high 0 l) 0 ≡ all (eqb 0) l
unfolding number_high all
number-zero [] = refl
number-zero (zero ∷ l) = number-zero l
number-zero (suc b ∷ l) =
    let some : 0 < number_high (0 * 2 + suc b) l = omega (arith, number-after (0 * 2 + suc b) l, le-mul_of_pos_right (0 * 2 + suc b) (pow_pos (length l))) in
    rw (eqb-zero-suc b) (ne_eqb (number_high (0 * 2 + suc b) l) 0 (λ e. omega arith))

-- zeros past the end change nothing
all-padded : (n : ℕ) (l : List ℕ) → length l ≤ n → all (eqb 0) (padded n l) ≡ all (eqb 0) l
unfolding all padded
all-padded zero [] h = refl
all-padded zero (x ∷ l) h = absurd (omega arith)
all-padded (suc n) [] h = all-padded n [] (omega arith)
all-padded (suc n) (x ∷ l) h = ap (λ (b : Bool). eqb 0 x && b) (all-padded n l (omega arith))

module _ (body : List ℕ) (p : Position) where
  abbrev left : List ℕ
  left = drop p.bit.index (bits_of body)

  pub seen_more : 7 < length left → false ≡ done_elias body p
  unfolding done_elias
  seen_more h = rw (le-ltb (length left) 8 h)

  pub seen_done : (s v : ℕ) → take 57 (bits_high 64 s) ≡ padded 57 left → length left ≤ 7 → v ≡ number_high 0 (take 7 (bits_high 64 s))
      → eqb v 0 ≡ done_elias body p
  unfolding done_elias
  seen_done s v seen h e =
      let seven : take 7 (bits_high 64 s) ≡ padded 7 left = sym (take-take 7 57 (bits_high 64 s) (omega arith)) ∙ ap (take 7) seen ∙ padded-take 7 50 left in
      rw (e, seven, number-zero (padded 7 left), all-padded 7 left h, lt-ltb (length left) 8 (omega arith))
