-- The ones before a bit: those of the words before its own, and those below it in its own. Assumes nothing.
use Prim.Native.Nat.{ℕ, zero, suc, ◌+◌, ◌-◌, ◌*◌, ◌/◌, ◌%◌, ◌^◌, ◌≤◌, ◌<◌}
use mathlib.Core.Path.{◌≡◌, refl, sym, ap, ◌∙◌}
use mathlib.Core.List.{List, [], ◌∷◌, ◌++◌}
use native.Mathlib.Nat.{zero-add}
use native.Mathlib.Omega.{arith}
use lib.Count.{ones}
use lib.ListN.{take, drop, replicate, length}
use lib.Seq.{take_at, take-take, take-nil}
use Rattle.meaning.specs.Bits.{bits_low, low_bits}
use Rattle.meaning.specs.Lists.{sum}
use Rattle.meaning.specs.Places.{Below}
use Rattle.meaning.specs.Rank.{ones_before}
use Rattle.meaning.proofs.Ranks.{ones-add, ones-few}
use Rattle.words.proofs.LowBits.{bits-length, bits-parts, bits-low, low_below}
use Rattle.bits.proofs.Near.{word_near, near-bits, words-drop}
use Rattle.bits.proofs.Halves.{shifted_one, low_ones}

-- zeros behind add nothing
before-zeros : (xs : List ℕ) (n k : ℕ) → ones_before (xs ++ replicate n 0) k ≡ ones_before xs k
unfolding ones_before sum
before-zeros xs n zero = refl
before-zeros [] zero (suc k) = refl
before-zeros [] (suc n) (suc k) = rw (before-zeros [] n k, take-nil k)
before-zeros (x ∷ xs) n (suc k) = rw (before-zeros xs n k)

-- the lowest r bits of a word
low-take-bits : (r c : ℕ) → r ≤ 64 → bits_low r c ≡ take r (bits_low 64 c)
low-take-bits r c h =
    let wide : 64 ≡ r + (64 - r) = omega arith in
    sym (ap (λ (n : ℕ). take r (bits_low n c)) wide ∙ ap (take r) (bits-parts r (64 - r) c)
    ∙ take_at (bits_low r (c % 2 ^ r)) (bits_low (64 - r) (c / 2 ^ r)) r (bits-length r (c % 2 ^ r)) ∙ bits-low r c)

near-below : (bytes : List ℕ) (at r : ℕ) → Below 256 bytes → r < 64
    → ones (word_near bytes at % (1 * 2 ^ r % 2 ^ 64)) ≡ ones_before (low_bits (drop at bytes)) r
unfolding ones_before
near-below bytes at r b h =
    let word = word_near bytes at in
    let l = low_bits (drop at bytes) in
    ap (λ (x : ℕ). ones (word % x)) (shifted_one r h) ∙ low_ones r word ∙ ap sum (low-take-bits r word (omega arith))
    ∙ ap (λ (xs : List ℕ). ones_before xs r) (near-bits bytes at b) ∙ before-zeros (take 64 l) (64 - 8 * length (take 8 (drop at bytes))) r
    ∙ ap sum (take-take r 64 l (omega arith))

mask_is : (index : ℕ) → 1 * 2 ^ (index % 64) % 2 ^ 64 ≡ 2 ^ (index % 64)
mask_is index = shifted_one (index % 64) (omega arith)

-- the words before a bit's own are counted, and its own is read
module _ (bytes : List ℕ) (index : ℕ) {before own : ℕ} (small : Below 256 bytes) (words : before ≡ ones_before (low_bits bytes) (64 * (index / 64)))
    (word : own ≡ word_near bytes (8 * (index / 64))) where
  pub rank-counted : before + ones (own % (1 * 2 ^ (index % 64) % 2 ^ 64)) ≡ ones_before (low_bits bytes) index
  rank-counted =
      let w : ℕ = index / 64 in
      let r : ℕ = index % 64 in
      let split : index ≡ 64 * w + r = omega arith in
      let own-ones : ones (own % (1 * 2 ^ r % 2 ^ 64)) ≡ ones_before (low_bits (drop (8 * w) bytes)) r =
      ap (λ (x : ℕ). ones (x % (1 * 2 ^ r % 2 ^ 64))) word ∙ near-below bytes (8 * w) r small (omega arith) in
      let rest : drop (64 * w) (low_bits bytes) ≡ low_bits (drop (8 * w) bytes) =
      words-drop bytes 0 w ∙ ap (λ (n : ℕ). low_bits (drop n bytes)) (zero-add (8 * w)) in
      let there : ones_before (drop (64 * w) (low_bits bytes)) r ≡ ones_before (low_bits (drop (8 * w) bytes)) r = ap (λ (l : List ℕ). ones_before l r) rest in
      omega (arith, words, ap (ones_before (low_bits bytes)) split, ones-add (low_bits bytes) (64 * w) r)

  pub rank-few : before + ones (own % (1 * 2 ^ (index % 64) % 2 ^ 64)) ≤ index
  rank-few = omega (arith, rank-counted, ones-few (low_bits bytes) index (low_below bytes))
