-- What it says of a body that the parts of d data bytes fit it: where they end, and which byte has a data byte's bit. Assumes nothing.
use Prim.Native.Nat.{ℕ, ◌+◌, ◌-◌, ◌*◌, ◌/◌, ◌%◌, ◌^◌, ◌≤◌, ◌<◌}
use mathlib.Core.Path.{◌≡◌, refl, sym, ap, ◌∙◌}
use mathlib.Core.Bool.{Bool, true, false}
use mathlib.Core.List.{List}
use native.Mathlib.Omega.{arith}
use lib.Dec.{leb}
use lib.ListN.{length, get_or, take, drop, length-drop}
use lib.Seq.{get_or-take, get_or-drop, drop-drop, drop_at, take-add, length-take-le}
use borrow.Author.Tests.{leb-true, le-leb, lt-leb}
use Rattle.std.specs.Prelude.{Result, Err}
use Rattle.meaning.specs.Answer.{given, refused, need}
use Rattle.meaning.specs.Bits.{low_bits}
use Rattle.meaning.specs.Bytes.{word_at}
use Rattle.meaning.specs.Direct.{flag_bytes, sum_count, sums_at, data_at, parts_fit, flags}
use Rattle.meaning.specs.Limits.{cut_short}
use Rattle.meaning.specs.Places.{Below}
use Rattle.meaning.specs.Says.{says_by, refusal_number}
use Rattle.meaning.specs.declared.Refusal.{Refusal}
use Rattle.meaning.proofs.Answers.{not-given}
use Rattle.meaning.proofs.Bounds.{below-take}
use Rattle.meaning.proofs.Tests.{both_true}
use Rattle.words.proofs.Bytes.{number_small}
use Rattle.words.proofs.LowBits.{low-length, low_below, low-drop, low-get}
use Rattle.direct.specs.Parts.{Fit}
use Rattle.direct.specs.declared.input.Parts.{Parts}

-- what is told of a body's parts
abbrev pub parts_told : Parts → ℕ
parts_told p = p.data_bytes

-- ---- the header
module _ (body : List ℕ) where
  pub head-short : length body < 4 → parts_fit body ≡ false
  unfolding parts_fit
  head-short h = rw (lt-leb 4 (length body) h)

  module _ {d : ℕ} (is : d ≡ word_at body 0) (head : 4 ≤ length body) where
    pub head-cut : length body < data_at d + d → parts_fit body ≡ false
    unfolding parts_fit
    head-cut h = rw (le-leb 4 (length body) head, ← is) (lt-leb (data_at d + d) (length body) h)

    pub head-fits : data_at d + d ≤ length body → parts_fit body ≡ true
    unfolding parts_fit
    head-fits h = rw (le-leb 4 (length body) head, ← is) (le-leb (data_at d + d) (length body) h)

  -- a body whose parts do not fit
  pub heading-none : {r : Result Parts Refusal} → says_by parts_told r ≡ need (parts_fit body) cut_short (given (word_at body 0)) → {e : Refusal} → r ≡ Err e
      → (parts_fit body ≡ false) × (refusal_number e ≡ cut_short)
  heading-none told {e} q = none (parts_fit body) (word_at body 0) (refusal_number e) (sym told ∙ ap (says_by parts_told) q)
    where
      none : (b : Bool) (x k : ℕ) → need b cut_short (given x) ≡ refused k → (b ≡ false) × (k ≡ cut_short)
      none true x k q = absurd (not-given k x (sym q))
      none false x k q = let is : cut_short ≡ k = cc in (refl, sym is)

-- ---- where the parts end
pub record Standing (body : List ℕ) (d : ℕ) : Type 0 where
  pub head : 4 ≤ length body
  pub ends : 4 + (d + 7) / 8 + 2 * (d / 512) + d ≤ length body

module _ {body : List ℕ} {d : ℕ} (fit : Fit body d) where
  pub standing : Standing body d
  unfolding parts_fit data_at sums_at flag_bytes sum_count
  standing =
      let (a, b) = both_true (leb 4 (length body)) _ fit.fits in
      record {
        head = leb-true 4 (length body) a;
        ends = omega (arith, leb-true (data_at (word_at body 0) + word_at body 0) (length body) b, fit.is);
      }

  -- the header has 4 bytes
  pub data-few : Below 256 body → d < 2 ^ 32
  unfolding word_at
  data-few low =
      let n : length (take 4 body) ≡ 4 = length-take-le 4 body standing.head in
      let small = number_small (take 4 body) (below-take 256 4 body low) in
      rw fit.is (rw n at small)

  -- ---- the bits
  pub flags_long : length (flags body) ≡ d
  unfolding flags
  flags_long =
      let s = standing in
      rw (← fit.is) (length-take-le d (low_bits (drop 4 body)) (omega (arith, low-length (drop 4 body), length-drop 4 body, s.ends)))

  pub flags-below : Below 2 (flags body)
  unfolding flags
  flags-below = below-take 2 (word_at body 0) (low_bits (drop 4 body)) (low_below (drop 4 body))

  -- each by its byte
  pub flag-get : (i : ℕ) → i < d → get_or (flags body) i 0 ≡ get_or body (4 + i / 8) 0 / 2 ^ (i % 8) % 2
  unfolding flags
  flag-get i h =
      rw (← fit.is) (get_or-take d (low_bits (drop 4 body)) i 0 h)
      ∙ low-get (drop 4 body) i ∙ ap (λ (b : ℕ). b / 2 ^ (i % 8) % 2) (get_or-drop 4 body (i / 8) 0)

  -- those from a bit on
  pub flags-from : (i : ℕ) → i ≤ d → drop i (flags body) ≡ take (d - i) (drop i (low_bits (drop 4 body)))
  unfolding flags
  flags-from i h =
      let bits = low_bits (drop 4 body) in
      let there = standing in
      let e : d ≡ i + (d - i) = omega arith in
      let long : length (take i bits) ≡ i = length-take-le i bits (omega (arith, low-length (drop 4 body), length-drop 4 body, there.ends)) in
      ap (λ (n : ℕ). drop i (take n bits)) (sym fit.is ∙ e)
      ∙ ap (drop i) (take-add i (d - i) bits)
      ∙ drop_at (take i bits) (take (d - i) (drop i bits)) i long

  -- those from a stretch on, by their bytes
  pub flags-drop : (s : ℕ) → 512 * s ≤ d → drop (512 * s) (flags body) ≡ take (d - 512 * s) (low_bits (drop (4 + 64 * s) body))
  flags-drop s h =
      let m : 512 * s ≡ 8 * (64 * s) = omega arith in
      flags-from (512 * s) h
      ∙ ap (take (d - 512 * s))
      (ap (λ (n : ℕ). drop n (low_bits (drop 4 body))) m ∙ low-drop (64 * s) (drop 4 body) ∙ ap low_bits (drop-drop (64 * s) 4 body))
