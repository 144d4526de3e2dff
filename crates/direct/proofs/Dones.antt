-- Nothing is left over: spare bits by the last byte of bits, sums one by one, and all tests in turn. Assumes nothing.
use Prim.Native.Nat.{ℕ, zero, suc, ◌+◌, ◌-◌, ◌*◌, ◌/◌, ◌%◌, ◌^◌, ◌≤◌, ◌<◌}
use mathlib.Core.Path.{◌≡◌, refl, sym, ap, ◌∙◌}
use mathlib.Core.Bool.{Bool, true, false, ◌&&◌}
use mathlib.Core.List.{List, [], ◌∷◌, append-nil}
use native.Mathlib.Nat.{pow-suc, mul_comm, div-div-eq-div-mul, zero-add}
use native.Mathlib.Omega.{arith}
use lib.Dec.{eqb}
use lib.ListN.{length, get_or, take, drop, length-take, length-drop, drop_of_length-le}
use lib.Seq.{take-suc, take-take, drop_at, drop-drop, get_or-drop, length-take-le}
use borrow.Author.Tests.{eq-eqb, ne_eqb, eqb-true, eqb-false}
use Rattle.meaning.specs.Bits.{bits_low, low_bits}
use Rattle.meaning.specs.Direct.{flag_bytes, sum_count, data_at, parts_fit, flags, sum_at, true_sums, spare_zero, done_direct}
use Rattle.meaning.specs.Limits.{most_bytes}
use Rattle.meaning.specs.Lists.{all, sum, joined}
use Rattle.meaning.specs.Rank.{ones_before}
use Rattle.meaning.specs.declared.Position.{Position}
use Rattle.meaning.proofs.Ranks.{ones-add, ones-few}
use Rattle.meaning.proofs.Tests.{by_order, by-test}
use Rattle.words.proofs.LowBits.{low-length, low-drop}
use Rattle.direct.specs.Parts.{Fit}
use Rattle.direct.proofs.Fits.{standing, flags-below, flags-drop}

-- ---- spare bits: those of c from bit r on
half-zero : (c : ℕ) → 0 ≡ c % 2 → eqb (c / 2) 0 ≡ eqb c 0
half-zero c e =
    by_order 0 c
    (λ h. ne_eqb (c / 2) 0 (λ z. omega arith) ∙ sym (ne_eqb c 0 (λ z. omega arith)))
    (λ h. eq-eqb (c / 2) 0 (omega arith) ∙ sym (eq-eqb c 0 (omega arith)))

bits_none : (k c : ℕ) → c < 2 ^ k → all (eqb 0) (bits_low k c) ≡ eqb c 0
unfolding all bits_low
bits_none zero c h = sym (eq-eqb c 0 (omega arith))
bits_none (suc k) c h =
    let p : 2 ^ suc k ≡ 2 ^ k * 2 = pow-suc 2 k in
    ap (λ (b : Bool). eqb 0 (c % 2) && b) (bits_none k (c / 2) (omega arith))
    ∙ by-test (eqb 0 (c % 2))
    (λ e. rw e (half-zero c (eqb-true 0 (c % 2) e)))
    (λ e. rw e (sym (ne_eqb c 0 (λ z. eqb-false 0 (c % 2) e (omega arith)))))

bits-spare : (r k c : ℕ) → c < 2 ^ (r + k) → all (eqb 0) (drop r (bits_low (r + k) c)) ≡ eqb (c / 2 ^ r) 0
unfolding bits_low
bits-spare zero k c h = let e : c / 1 ≡ c = omega arith in rw (e, zero-add k) (bits_none k c (rw (zero-add k) at h))
bits-spare (suc r) k c h =
    let m : suc r + k ≡ suc (r + k) = omega arith in
    let p : 2 ^ suc (r + k) ≡ 2 ^ (r + k) * 2 = pow-suc 2 (r + k) in
    let lt : c < 2 ^ suc (r + k) = rw m at h in
    ap (λ (n : ℕ). all (eqb 0) (drop (suc r) (bits_low n c))) m
    ∙ bits-spare r k (c / 2) (omega arith)
    ∙ ap (λ (x : ℕ). eqb x 0) (div-div-eq-div-mul c 2 (2 ^ r) ∙ ap (λ (x : ℕ). c / x) (mul_comm 2 (2 ^ r) ∙ sym (pow-suc 2 r)))

-- bits that fill their bytes have none
pub spare-none : {body : List ℕ} {d : ℕ} → Fit body d → d % 8 ≡ 0 → true ≡ spare_zero body
unfolding spare_zero flag_bytes all
spare-none {body} {d} fit h =
    let bytes = take (flag_bytes d) (drop 4 body) in
    let few : length (low_bits bytes) ≤ d = omega (arith, low-length bytes, length-take (flag_bytes d) (drop 4 body)) in
    rw (← fit.is) (sym (ap (all (eqb 0)) (drop_of_length-le (low_bits bytes) {i = d} few)))

last-alone : (k : ℕ) (l : List ℕ) → k < length l → drop k (take (suc k) l) ≡ get_or l k 0 ∷ []
last-alone k l h =
    ap (drop k) (take-suc l k 0 h) ∙ drop_at (take k l) (get_or l k 0 ∷ []) k (length-take-le k l (omega arith))

bits-alone : (c : ℕ) → low_bits (c ∷ []) ≡ bits_low 8 c
unfolding low_bits joined
bits-alone c = append-nil (bits_low 8 c)

pub spare-last : {body : List ℕ} {d : ℕ} → Fit body d → (d % 8 ≡ 0 → ⊥) → get_or body (4 + d / 8) 0 < 256
    → eqb (get_or body (4 + d / 8) 0 / 2 ^ (d % 8)) 0 ≡ spare_zero body
unfolding spare_zero flag_bytes
spare-last {body} {d} fit h small =
    let s = standing fit in
    let c = get_or body (4 + d / 8) 0 in
    let n : flag_bytes d ≡ suc (d / 8) = omega arith in
    let e : d ≡ 8 * (d / 8) + d % 8 = omega arith in
    let r : d % 8 + (8 - d % 8) ≡ 8 = omega arith in
    let bytes = take (flag_bytes d) (drop 4 body) in
    let inside : d / 8 < length (drop 4 body) = omega (arith, length-drop 4 body, s.ends) in
    let alone : drop (d / 8) bytes ≡ c ∷ [] =
    ap (λ (k : ℕ). drop (d / 8) (take k (drop 4 body))) n ∙ last-alone (d / 8) (drop 4 body) inside
    ∙ ap (λ (x : ℕ). x ∷ []) (get_or-drop 4 body (d / 8) 0) in
    let bits : drop d (low_bits bytes) ≡ drop (d % 8) (bits_low 8 c) =
    ap (λ (k : ℕ). drop k (low_bits bytes)) e ∙ sym (drop-drop (d % 8) (8 * (d / 8)) (low_bits bytes))
    ∙ ap (drop (d % 8)) (low-drop (d / 8) bytes ∙ ap low_bits alone ∙ bits-alone c) in
    let tested : all (eqb 0) (drop (d % 8) (bits_low 8 c)) ≡ eqb (c / 2 ^ (d % 8)) 0 =
    rw r at (bits-spare (d % 8) (8 - d % 8) c (rw r small)) in
    rw (← fit.is) (sym (ap (all (eqb 0)) bits ∙ tested))

-- ---- sums
-- the sums before stretch s are true, and so many ones stand before it
pub record Adding (body : List ℕ) (d ones s : ℕ) : Type 0 where
  pub fit : Fit body d
  pub short : length body ≤ most_bytes
  pub few : s ≤ d / 512
  pub are : ones ≡ ones_before (flags body) (512 * s)
  pub true-so : true_sums s body ≡ true

pub adding-start : {body : List ℕ} {d : ℕ} → Fit body d → length body ≤ most_bytes → Adding body d 0 0
unfolding ones_before sum true_sums
adding-start fit short = record { fit = fit; short = short; few = omega arith; are = refl; true-so = refl }

-- a stretch lies within the body
pub stretch-inside : {body : List ℕ} {d ones s : ℕ} → Adding body d ones s → s < d / 512 → 4 + 64 * s + 64 ≤ length body
stretch-inside inv h = let there = standing inv.fit in omega (arith, there.ends)

-- a false sum is false for all
stays-false : (k m : ℕ) (body : List ℕ) → true_sums k body ≡ false → true_sums (m + k) body ≡ false
unfolding true_sums
stays-false k zero body e = rw (zero-add k) e
stays-false k (suc m) body e =
    let n : suc m + k ≡ suc (m + k) = omega arith in
    rw n (rw (stays-false k m body e))

module _ {body : List ℕ} {d ones s : ℕ} (inv : Adding body d ones s) (h : s < d / 512) {more : ℕ}
    (is : more ≡ ones_before (low_bits (drop (4 + 64 * s) body)) (64 * 8)) where
  ones-more : ones + more ≡ ones_before (flags body) (512 * suc s)
  unfolding ones_before
  ones-more =
      let n : 512 * suc s ≡ 512 * s + 512 = omega arith in
      let bits = low_bits (drop (4 + 64 * s) body) in
      let next : more ≡ ones_before (drop (512 * s) (flags body)) 512 =
      is ∙ sym (ap (λ (l : List ℕ). sum (take 512 l)) (flags-drop inv.fit s (omega arith)) ∙ ap sum (take-take 512 (d - 512 * s) bits (omega arith))) in
      rw n (omega (arith, inv.are, next, ones-add (flags body) (512 * s) 512))

  pub ones-fit : ones + more ≤ most_bytes
  ones-fit =
      let there = standing inv.fit in
      omega (arith, ones-more, ones-few (flags body) (512 * suc s) (flags-below inv.fit), there.ends, inv.short)

  pub adding-turn : sum_at body s ≡ ones + more → Adding body d (ones + more) (s + 1)
  unfolding true_sums
  adding-turn e =
      let n : s + 1 ≡ suc s = omega arith in
      let same : sum_at body s ≡ ones_before (flags body) (512 * suc s) = e ∙ ones-more in
      record {
        fit = inv.fit;
        short = inv.short;
        few = omega arith;
        are = rw n ones-more;
        true-so = rw n (rw inv.true-so (eq-eqb _ _ same));
      }

  pub adding-false : (sum_at body s ≡ ones + more → ⊥) → false ≡ true_sums (sum_count d) body
  unfolding true_sums sum_count
  adding-false ne =
      let k : d / 512 ≡ (d / 512 - suc s) + suc s = omega arith in
      let here : true_sums (suc s) body ≡ false = rw inv.true-so (ne_eqb _ _ (λ e. ne (e ∙ sym ones-more))) in
      sym (ap (λ (m : ℕ). true_sums m body) k ∙ stays-false (suc s) (d / 512 - suc s) body here)

pub adding-end : {body : List ℕ} {d ones s : ℕ} → Adding body d ones s → d / 512 ≤ s → true ≡ true_sums (sum_count d) body
unfolding sum_count
adding-end {body} {d} {ones} {s} inv h =
    let e : d / 512 ≡ s = omega (arith, inv.few) in
    rw e (sym inv.true-so)

-- ---- all tests
module _ (body : List ℕ) (p : Position) where
  pub done-unfit : parts_fit body ≡ false → false ≡ done_direct body p
  unfolding done_direct
  done-unfit e = rw e

  module _ {d : ℕ} (fit : Fit body d) where
    pub done-before : (p.bit.index ≡ d → ⊥) → false ≡ done_direct body p
    unfolding done_direct
    done-before ne = rw (fit.fits, ← fit.is, ne_eqb p.bit.index d ne)

    module _ (at : p.bit.index ≡ d) where
      pub done-over : (data_at d + d ≡ length body → ⊥) → false ≡ done_direct body p
      unfolding done_direct
      done-over ne = rw (fit.fits, ← fit.is, eq-eqb p.bit.index d at, ne_eqb (data_at d + d) (length body) ne)

      module _ (ends : data_at d + d ≡ length body) where
        done-is : done_direct body p ≡ spare_zero body && true_sums (sum_count d) body
        unfolding done_direct
        done-is = rw (fit.fits, ← fit.is, eq-eqb p.bit.index d at, eq-eqb (data_at d + d) (length body) ends)

        pub done-spare : spare_zero body ≡ false → false ≡ done_direct body p
        done-spare e = rw done-is (rw e)

        pub done-sums : spare_zero body ≡ true → true_sums (sum_count d) body ≡ done_direct body p
        done-sums e = rw done-is (rw e)
