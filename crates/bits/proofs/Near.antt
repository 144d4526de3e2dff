-- The word of 64 bits at an offset of a slice, zeros above where the slice ends in it: its bits, its ones, and where they stand. Assumes nothing.
use Prim.Native.Nat.{ℕ, ◌+◌, ◌-◌, ◌*◌, ◌^◌, ◌≤◌, ◌<◌}
use mathlib.Core.Path.{◌≡◌, sym, ap, ◌∙◌}
use mathlib.Core.List.{List, ◌++◌}
use native.Mathlib.Nat.{add-zero, pow-le-pow_right}
use native.Mathlib.Omega.{arith}
use lib.Count.{ones}
use lib.ListN.{length, take, drop, replicate, length-take}
use lib.Pow.{pow_pos}
use lib.Seq.{drop-drop}
use Rattle.meaning.specs.Bits.{bits_low, low_bits}
use Rattle.meaning.specs.Bytes.{number_of}
use Rattle.meaning.specs.Lists.{sum}
use Rattle.meaning.specs.Places.{Below}
use Rattle.meaning.specs.Rank.{ones_before, one_at}
use Rattle.meaning.proofs.Bounds.{below-take, below-drop}
use Rattle.meaning.proofs.Ranks.{one-zeros}
use Rattle.leaves.proofs.Joined.{sum-append}
use Rattle.words.proofs.Bytes.{number_small}
use Rattle.words.proofs.LowBits.{bits-zero, bits-ones, low_below, low-drop, low-take, low_zeros}

-- the number in the 8 bytes at an offset, or in as many as there are
abbrev pub word_near : List ℕ → ℕ → ℕ
word_near bytes at = number_of (take 8 (drop at bytes))

zeros-none : (n : ℕ) → sum (replicate n 0) ≡ 0
unfolding ones
zeros-none n = ap sum (sym (bits-zero n)) ∙ bits-ones n 0 (pow_pos n)

module _ (bytes : List ℕ) (at : ℕ) (b : Below 256 bytes) where
  near : Below 256 (take 8 (drop at bytes))
  near = below-take 256 8 (drop at bytes) (below-drop 256 at bytes b)

  pub near-small : word_near bytes at < 2 ^ 64
  near-small =
      let few : length (take 8 (drop at bytes)) ≤ 8 = omega (arith, length-take 8 (drop at bytes)) in
      let most : 256 ^ length (take 8 (drop at bytes)) ≤ 256 ^ 8 = pow-le-pow_right (omega arith) few in
      omega (arith, number_small (take 8 (drop at bytes)) near)

  pub near-bits : bits_low 64 (word_near bytes at) ≡ take 64 (low_bits (drop at bytes)) ++ replicate (64 - 8 * length (take 8 (drop at bytes))) 0
  near-bits =
      let l : ℕ = length (take 8 (drop at bytes)) in
      let wide : 64 ≡ 8 * l + (64 - 8 * l) = omega (arith, length-take 8 (drop at bytes)) in
      ap (λ (n : ℕ). bits_low n (word_near bytes at)) wide ∙ low_zeros (take 8 (drop at bytes)) (64 - 8 * l) near
      ∙ ap (λ (l' : List ℕ). l' ++ replicate (64 - 8 * l) 0) (sym (low-take 8 (drop at bytes)))

  pub near-sum : sum (bits_low 64 (word_near bytes at)) ≡ ones_before (low_bits (drop at bytes)) 64
  unfolding ones_before
  near-sum =
      let l : ℕ = length (take 8 (drop at bytes)) in
      ap sum near-bits ∙ sum-append (take 64 (low_bits (drop at bytes))) (replicate (64 - 8 * l) 0)
      ∙ ap (λ (n : ℕ). sum (take 64 (low_bits (drop at bytes))) + n) (zeros-none (64 - 8 * l)) ∙ add-zero (sum (take 64 (low_bits (drop at bytes))))

  pub near-ones : ones (word_near bytes at) ≡ ones_before (low_bits (drop at bytes)) 64
  near-ones = sym (bits-ones 64 (word_near bytes at) near-small) ∙ near-sum

  pub near-one : (e k : ℕ) → one_at e k (bits_low 64 (word_near bytes at)) ≡ one_at e k (take 64 (low_bits (drop at bytes)))
  near-one e k =
      ap (one_at e k) near-bits
      ∙ one-zeros e k (take 64 (low_bits (drop at bytes))) (64 - 8 * length (take 8 (drop at bytes)))
      (below-take 2 64 (low_bits (drop at bytes)) (low_below (drop at bytes)))

-- the words behind the first i
pub words-drop : (bytes : List ℕ) (first i : ℕ) → drop (64 * i) (low_bits (drop first bytes)) ≡ low_bits (drop (first + 8 * i) bytes)
words-drop bytes first i =
    let e : 64 * i ≡ 8 * (8 * i) = omega arith in
    ap (λ (n : ℕ). drop n (low_bits (drop first bytes))) e ∙ low-drop (8 * i) (drop first bytes) ∙ ap low_bits (drop-drop (8 * i) first bytes)
