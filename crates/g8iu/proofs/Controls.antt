-- The control byte of a block: its bits say the lengths, and the lengths say its bits. Assumes nothing.
use Prim.Native.Nat.{ℕ, zero, suc, ◌+◌, ◌-◌, ◌^◌, ◌≤◌, ◌<◌}
use mathlib.Core.Path.{◌≡◌, refl, sym, ap, ap₂, ◌∙◌}
use mathlib.Core.Bool.{Bool, ◌&&◌, cond}
use mathlib.Core.List.{List, [], ◌∷◌, ◌++◌, append_assoc}
use native.Mathlib.Nat.{pow-suc, add-zero}
use native.Mathlib.Omega.{arith}
use lib.Count.{ones, ones_in, count_leading_zeros}
use lib.Dec.{leb, ltb, eqb}
use lib.ListN.{length, replicate, length-append, length-replicate, replicate-append-replicate}
use borrow.Author.Tests.{le-leb, lt-leb, leb-true, ltb-true, eqb-true}
use Rattle.meaning.specs.Lists.{sum, joined}
use Rattle.meaning.specs.Places.{Below}
use Rattle.meaning.specs.Bits.{bits_low, number_low}
use Rattle.meaning.specs.G8IU.{end_bits, block_control, lengths_by, block_lengths}
use Rattle.meaning.proofs.Bounds.{below-nil, below-cons, below-append}
use Rattle.meaning.proofs.Tests.{both_true}
use Rattle.leaves.proofs.Joined.{joined-append, joined-one, sum-append}
use Rattle.words.proofs.LowBits.{bits-length, bits-number, number_small}
use Rattle.g8iu.proofs.Tables.{at_each}

-- ---- bits, lowest first
-- a bit more or less
number_bit : (hs bs : List ℕ) → number_low (hs ++ (1 ∷ bs)) ≡ number_low (hs ++ (0 ∷ bs)) + 2 ^ length hs
unfolding number_low
number_bit [] bs = omega arith
number_bit (h ∷ hs) bs = rw (number_bit hs bs, pow-suc 2 (length hs)) (omega arith)

-- ---- the bits of lengths that are not 0
abbrev pub Some : List ℕ → Type 0
Some [] = Unit {0}
Some (l ∷ ls) = (1 ≤ l) × Some ls

below-ones : (n : ℕ) → Below 2 (replicate n 1)
below-ones zero i = omega arith
below-ones (suc n) zero = omega arith
below-ones (suc n) (suc i) = below-ones n i

ends-below : (l : ℕ) → Below 2 (end_bits l)
unfolding end_bits
ends-below l = below-append 2 (replicate (l - 1) 1) (0 ∷ []) (below-ones (l - 1)) (below-cons 2 0 [] (omega arith) (below-nil 2 (omega arith)))

ends-length : (l : ℕ) → 1 ≤ l → length (end_bits l) ≡ l
unfolding end_bits
ends-length l h = length-append (replicate {A = ℕ} (l - 1) 1) (0 ∷ []) ∙ omega (arith, length-replicate {A = ℕ} (l - 1) 1)

all-below : (ls : List ℕ) → Below 2 (joined end_bits ls)
unfolding joined
all-below [] = below-nil 2 (omega arith)
all-below (l ∷ ls) = below-append 2 (end_bits l) (joined end_bits ls) (ends-below l) (all-below ls)

all-length : (ls : List ℕ) → Some ls → length (joined end_bits ls) ≡ sum ls
unfolding joined sum
all-length [] h = refl
all-length (l ∷ ls) h = length-append (end_bits l) (joined end_bits ls) ∙ ap₂ ◌+◌ (ends-length l h.0) (all-length ls h.1)

-- the bits of a whole control byte
abbrev control_bits : List ℕ → List ℕ
control_bits ls = joined end_bits ls ++ replicate (8 - sum ls) 1

bits-eight : (ls : List ℕ) → Some ls → sum ls ≤ 8 → length (control_bits ls) ≡ 8
bits-eight ls h m = length-append (joined end_bits ls) (replicate (8 - sum ls) 1) ∙ omega (arith, all-length ls h, length-replicate {A = ℕ} (8 - sum ls) 1)

bits_below : (ls : List ℕ) → Below 2 (control_bits ls)
bits_below ls = below-append 2 (joined end_bits ls) (replicate (8 - sum ls) 1) (all-below ls) (below-ones (8 - sum ls))

pub control-small : (ls : List ℕ) → Some ls → sum ls ≤ 8 → block_control ls < 256
unfolding block_control
control-small ls h m = rw (bits-eight ls h m) at (number_small (control_bits ls) (bits_below ls))

-- ---- the lengths of bits
-- m ones and a zero end a number
run_ends : (m k : ℕ) (bits : List ℕ) → lengths_by k ((replicate m 1 ++ (0 ∷ [])) ++ bits) ≡ (k + m + 1) ∷ lengths_by 0 bits
unfolding lengths_by
run_ends zero k bits = rw add-zero
run_ends (suc m) k bits =
    let e : k + 1 + m + 1 ≡ k + suc m + 1 = omega arith in
    run_ends m (k + 1) bits ∙ ap (λ (n : ℕ). n ∷ lengths_by 0 bits) e

waste-none : (n k : ℕ) → lengths_by k (replicate n 1) ≡ []
unfolding lengths_by
waste-none zero k = refl
waste-none (suc n) k = waste-none n (k + 1)

lengths-bits : (ls : List ℕ) (w : ℕ) → Some ls → lengths_by 0 (joined end_bits ls ++ replicate w 1) ≡ ls
unfolding joined end_bits
lengths-bits [] w h = waste-none w 0
lengths-bits (l ∷ ls) w h =
    let e : 0 + (l - 1) + 1 ≡ l = omega (arith, h.0) in
    rw (append_assoc (end_bits l) (joined end_bits ls) (replicate w 1)) (run_ends (l - 1) 0 (joined end_bits ls ++ replicate w 1))
    ∙ ap₂ (λ (n : ℕ) (r : List ℕ). n ∷ r) e (lengths-bits ls w h.1)

-- the lengths are read back
pub lengths-control : (ls : List ℕ) → Some ls → sum ls ≤ 8 → block_lengths (block_control ls) ≡ ls
unfolding block_lengths block_control
lengths-control ls h m =
    ap (λ (n : ℕ). lengths_by 0 (bits_low n (number_low (control_bits ls)))) (sym (bits-eight ls h m))
    ∙ ap (lengths_by 0) (bits-number (control_bits ls) (bits_below ls)) ∙ lengths-bits ls (8 - sum ls) h

-- the lengths of any bits lie within them
lengths-within : (k : ℕ) (bits : List ℕ) → sum (lengths_by k bits) ≤ k + length bits
unfolding lengths_by sum
lengths-within k [] = omega arith
lengths-within k (zero ∷ bits) = omega (arith, lengths-within 0 bits)
lengths-within k (suc b ∷ bits) = omega (arith, lengths-within (k + 1) bits)

pub eight-within : (c : ℕ) → sum (block_lengths c) ≤ 8
unfolding block_lengths
eight-within c = omega (arith, lengths-within 0 (bits_low 8 c), bits-length 8 c)

-- ---- one number more: the bit at its last byte falls
sum_more : (ls : List ℕ) (l : ℕ) → sum (ls ++ (l ∷ [])) ≡ sum ls + l
unfolding sum
sum_more ls l = sum-append ls (l ∷ []) ∙ omega arith

pub control-none : block_control [] ≡ 255
unfolding block_control number_low joined sum
control-none = refl

module _ (ls : List ℕ) (l : ℕ) (some : Some ls) (least : 1 ≤ l) (within : sum ls + l ≤ 8) where
  -- the bits before that one, and those after
  abbrev lower : List ℕ
  lower = joined end_bits ls ++ replicate (l - 1) 1

  abbrev upper : List ℕ
  upper = replicate (8 - (sum ls + l)) 1

  lower-length : length lower ≡ sum ls + l - 1
  lower-length = length-append (joined end_bits ls) (replicate (l - 1) 1) ∙ omega (arith, all-length ls some, length-replicate {A = ℕ} (l - 1) 1)

  bits-now : control_bits ls ≡ lower ++ (1 ∷ upper)
  bits-now =
      let k : 8 - sum ls ≡ l - 1 + suc (8 - (sum ls + l)) = omega arith in
      rw (append_assoc (joined end_bits ls) (replicate (l - 1) 1) (1 ∷ upper), k)
      (ap (λ (r : List ℕ). joined end_bits ls ++ r) (sym (replicate-append-replicate (l - 1) (suc (8 - (sum ls + l))) 1)))

  bits-next : control_bits (ls ++ (l ∷ [])) ≡ lower ++ (0 ∷ upper)
  unfolding end_bits
  bits-next =
      rw (sum_more ls l, joined-append end_bits ls (l ∷ []), joined-one end_bits l)
      (simp append_assoc)

  pub control-more : block_control ls ≡ block_control (ls ++ (l ∷ [])) + 2 ^ (sum ls + l - 1)
  unfolding block_control
  control-more =
      ap number_low bits-now ∙ number_bit lower upper ∙ ap₂ (λ (b : List ℕ) (n : ℕ). number_low b + 2 ^ n) (sym bits-next) lower-length

-- ---- and back, by a test of each control byte; its ends are its zero bits
abbrev sound : ℕ → Bool
unfolding block_control block_lengths number_low bits_low lengths_by end_bits joined sum ones ones_in count_leading_zeros
sound c =
    let ls = block_lengths c in
    eqb (block_control ls) c && (eqb (length ls) (8 - ones c)
    && (eqb (count_leading_zeros 32 (255 - c)) (32 - sum ls) && cond (leb 16 (255 - c)) (leb (8 - sum ls) 3 && leb 1 (length ls)) (ltb 3 (8 - sum ls))))

pub record Control (c : ℕ) (ls : List ℕ) : Type 0 where
  pub back : block_control ls ≡ c
  pub many : length ls ≡ 8 - ones c
  pub within : sum ls ≤ 8
  pub top : count_leading_zeros 32 (255 - c) ≡ 32 - sum ls
  pub full : 16 ≤ 255 - c → (8 - sum ls ≤ 3) × (1 ≤ length ls)
  pub wasteful : 255 - c < 16 → 3 < 8 - sum ls

pub control-is : (c : ℕ) → c < 256 → Control c (block_lengths c)
unfolding sound block_control block_lengths number_low bits_low lengths_by end_bits joined sum ones ones_in count_leading_zeros
control-is c h =
    let (a, r) = both_true (eqb (block_control (block_lengths c)) c) _ (at_each 256 sound refl c h) in
    let (b, r₁) = both_true (eqb (length (block_lengths c)) (8 - ones c)) _ r in
    let (d, r₂) = both_true (eqb (count_leading_zeros 32 (255 - c)) (32 - sum (block_lengths c))) _ r₁ in
    record {
      back = eqb-true _ _ a;
      many = eqb-true _ _ b;
      within = eight-within c;
      top = eqb-true _ _ d;
      full = λ l. let (f, g) = both_true (leb (8 - sum (block_lengths c)) 3) _ (rw (le-leb 16 (255 - c) l) at r₂) in (leb-true _ _ f, leb-true _ _ g);
      wasteful = λ l. ltb-true _ _ (rw (lt-leb 16 (255 - c) l) at r₂);
    }
