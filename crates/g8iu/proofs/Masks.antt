-- Data bytes as one number: its lowest bytes masked are the block's next number, where that many bytes hold it and no fewer. Assumes nothing.
use Prim.Native.Nat.{ℕ, zero, suc, ◌+◌, ◌*◌, ◌%◌, ◌^◌, ◌≤◌, ◌<◌}
use mathlib.Core.Path.{◌≡◌, refl, ◌∙◌}
use mathlib.Core.Bool.{true, false, ◌||◌}
use mathlib.Core.List.{List, [], ◌∷◌}
use native.Mathlib.Omega.{arith}
use lib.Bits.{bit_and, and_mask, and_le_r}
use lib.Dec.{leb, ltb, eqb}
use lib.ListN.{get_or, take}
use borrow.Author.Tests.{lt-leb, ne_eqb, ltb-true}
use Rattle.meaning.specs.Bytes.{number_of}
use Rattle.meaning.specs.DataBytes.{byte_length}
use Rattle.meaning.specs.Lists.{all}
use Rattle.meaning.specs.Places.{Below}
use Rattle.meaning.proofs.Tests.{by_order}
use Rattle.words.proofs.Bytes.{number-few, number-low}
use Rattle.words.proofs.DataBytes.{held}
use Rattle.words.proofs.Straight.{fewest-1, fewest-2, fewest-3, fewest-4}
use Rattle.g8iu.specs.Blocks.{most_of, least_of}
use Rattle.g8iu.proofs.Tables.{at_each}

-- all bytes are 0 where their number is, and only there
pub clear-true : (bs : List ℕ) → number_of bs ≡ 0 → all (eqb 0) bs ≡ true
unfolding number_of all
clear-true [] e = refl
clear-true (b ∷ bs) e =
    let z : b ≡ 0 = omega arith in
    rw (z, clear-true bs (omega arith))

pub clear-false : (bs : List ℕ) → (number_of bs ≡ 0 → ⊥) → all (eqb 0) bs ≡ false
unfolding number_of all
clear-false [] h = absurd (h refl)
clear-false (b ∷ bs) h =
    by_order 0 b
    (λ l. rw (ne_eqb 0 b (λ e. omega arith)))
    (λ l. let z : b ≡ 0 = omega arith in rw (z, clear-false bs (λ e. h (omega arith))))

-- ---- the tables
-- more than 4 bytes hold no number
few_bytes : (d f : ℕ) → f < 8 → get_or least_of f 0 ≤ bit_and d (get_or most_of f 0) → f ≤ 3
few_bytes d f h l =
    let t = at_each 8 (λ (k : ℕ). leb k 3 || ltb (get_or most_of k 0) (get_or least_of k 0)) refl f h in
    by_order 3 f
    (λ g. absurd (omega (arith, ltb-true (get_or most_of f 0) (get_or least_of f 0) (rw (lt-leb f 3 g) at t), and_le_r d (get_or most_of f 0))))
    (λ g. g)

masked : (d f : ℕ) → f ≤ 3 → bit_and d (get_or most_of f 0) ≡ d % 2 ^ (8 * (f + 1))
masked d zero h = and_mask d 8
masked d (suc zero) h = and_mask d 16
masked d (suc (suc zero)) h = and_mask d 24
masked d (suc (suc (suc zero))) h = and_mask d 32
masked d (suc (suc (suc (suc f)))) h = absurd (omega arith)

-- a number of f + 1 bytes needs them all where it is not below the least
module _ (x : ℕ) where
  pub length-1 : x < 256 → byte_length x ≡ 1
  length-1 a = omega (arith, (fewest-1 [] 0 x a).0)

  length-2 : 256 ≤ x → x < 65536 → byte_length x ≡ 2
  length-2 a b = omega (arith, (fewest-2 [] 0 x a b).0)

  length-3 : 65536 ≤ x → x < 16777216 → byte_length x ≡ 3
  length-3 a b = omega (arith, (fewest-3 [] 0 x a b).0)

  needs-all : (f : ℕ) → f ≤ 3 → x < 2 ^ (8 * (f + 1)) → get_or least_of f 0 ≤ x → byte_length x ≡ f + 1
  needs-all zero h a b = length-1 a
  needs-all (suc zero) h a b = length-2 b (omega arith)
  needs-all (suc (suc zero)) h a b = length-3 b (omega arith)
  needs-all (suc (suc (suc zero))) h a b = omega (arith, (fewest-4 [] 0 x b).0)
  needs-all (suc (suc (suc (suc f)))) h a b = absurd (omega arith)

  needs-fewer : (f : ℕ) → f ≤ 3 → x < get_or least_of f 0 → byte_length x < f + 1
  needs-fewer zero h a = absurd (omega arith)
  needs-fewer (suc zero) h a = omega (arith, length-1 a)
  needs-fewer (suc (suc zero)) h a = by_order x 256 (λ b. omega (arith, length-1 b)) (λ b. omega (arith, length-2 b a))
  needs-fewer (suc (suc (suc zero))) h a =
      by_order x 256 (λ b. omega (arith, length-1 b)) (λ b.
      by_order x 65536 (λ d. omega (arith, length-2 b d)) (λ d. omega (arith, length-3 d a)))
  needs-fewer (suc (suc (suc (suc f)))) h a = absurd (omega arith)

-- the next number: the data masked, where that many bytes hold it and no fewer
pub record NextIs (bytes : List ℕ) (f : ℕ) : Type 0 where
  pub few : f ≤ 3
  pub is : bit_and (number_of bytes) (get_or most_of f 0) ≡ number_of (take (f + 1) bytes)
  pub needs : byte_length (number_of (take (f + 1) bytes)) ≡ f + 1

module _ (bytes : List ℕ) (bound : Below 256 bytes) (f : ℕ) (h : f < 8) where
  abbrev next-number : ℕ
  next-number = number_of (take (f + 1) bytes)

  masked-is : f ≤ 3 → bit_and (number_of bytes) (get_or most_of f 0) ≡ next-number
  masked-is g = masked (number_of bytes) f g ∙ number-low (f + 1) bytes bound

  pub number-whole : get_or least_of f 0 ≤ bit_and (number_of bytes) (get_or most_of f 0) → NextIs bytes f
  number-whole l =
      let g = few_bytes (number_of bytes) f h l in
      record { few = g; is = masked-is g; needs = needs-all next-number f g (number-few (f + 1) bytes bound) (rw (masked-is g) at l) }

  pub number_short : bit_and (number_of bytes) (get_or most_of f 0) < get_or least_of f 0 → byte_length next-number ≡ f + 1 → ⊥
  number_short l e =
      by_order 3 f
      (λ g. omega (arith, (held next-number).most))
      (λ g. omega (arith, needs-fewer next-number f g (rw (masked-is g) at l)))
