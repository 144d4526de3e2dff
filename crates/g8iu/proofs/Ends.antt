-- The lengths of a block's numbers by the ends of its data bytes, which are the zero bits of its control byte: one number after another, by the count of
-- trailing zeros. Assumes nothing.
use Prim.Native.Nat.{ℕ, ◌+◌, ◌-◌, ◌/◌, ◌^◌, ◌≤◌, ◌<◌}
use mathlib.Core.Path.{◌≡◌, refl}
use mathlib.Core.Bool.{Bool, true, ◌&&◌, cond}
use mathlib.Core.List.{List, [], ◌∷◌}
use native.Mathlib.Omega.{arith}
use lib.Count.{count_trailing_zeros}
use lib.Dec.{leb, ltb, eqb}
use borrow.Author.Tests.{leb-true, ltb-true, ne_eqb}
use Rattle.meaning.specs.Bits.{bits_low}
use Rattle.meaning.specs.G8IU.{lengths_by, block_lengths}
use Rattle.meaning.proofs.Tests.{both_true}
use Rattle.g8iu.proofs.Tables.{each, at_each, same, same-is}

-- the lengths in m data bytes, of which those with a one in e end a number
unfoldable pub lengths_of : ℕ → ℕ → List ℕ
lengths_of m e = lengths_by 0 (bits_low m (2 ^ m - 1 - e))

-- the first of them
abbrev first_of : ℕ → ℕ
first_of e = count_trailing_zeros 32 e + 1

-- what the first number leaves, by a test of every e in at most 8 bytes
pub record FirstIs (m e : ℕ) : Type 0 where
  pub within : count_trailing_zeros 32 e + 1 ≤ m
  pub small : e / 2 ^ (count_trailing_zeros 32 e + 1) < 2 ^ (m - (count_trailing_zeros 32 e + 1))
  pub is : lengths_of m e ≡ (count_trailing_zeros 32 e + 1) ∷ lengths_of (m - (count_trailing_zeros 32 e + 1)) (e / 2 ^ (count_trailing_zeros 32 e + 1))

abbrev first_test : ℕ → ℕ → Bool
unfolding lengths_of lengths_by bits_low count_trailing_zeros
first_test m e =
    cond (eqb e 0) true
    (leb (first_of e) m && (ltb (e / 2 ^ first_of e) (2 ^ (m - first_of e))
    && same (lengths_of m e) (first_of e ∷ lengths_of (m - first_of e) (e / 2 ^ first_of e))))

tested : (m e : ℕ) → m < 9 → e < 2 ^ m → first_test m e ≡ true
unfolding first_test lengths_of lengths_by bits_low count_trailing_zeros
tested m e hm he = at_each (2 ^ m) (first_test m) (at_each 9 (λ (k : ℕ). each (2 ^ k) (first_test k)) refl m hm) e he

pub first-is : (m e : ℕ) → m ≤ 8 → e < 2 ^ m → (e ≡ 0 → ⊥) → FirstIs m e
unfolding first_test
first-is m e hm he some =
    let t = rw (ne_eqb e 0 some) at (tested m e (omega arith) he) in
    let (a, r) = both_true (leb (first_of e) m) _ t in
    let (b, s) = both_true (ltb (e / 2 ^ first_of e) (2 ^ (m - first_of e))) _ r in
    record { within = leb-true _ _ a; small = ltb-true _ _ b; is = same-is _ _ s }

pub lengths-start : (c : ℕ) → c < 256 → lengths_of 8 (255 - c) ≡ block_lengths c
unfolding lengths_of block_lengths
lengths-start c h = let e : 255 - (255 - c) ≡ c = omega arith in rw e

-- no end is left
pub lengths_none : (m : ℕ) → m ≤ 8 → lengths_of m 0 ≡ []
unfolding lengths_of lengths_by bits_low
lengths_none m h = same-is _ [] (at_each 9 (λ (k : ℕ). same (lengths_of k 0) []) refl m (omega arith))
