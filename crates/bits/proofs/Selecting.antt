-- The bit of the k-th one in a slice: stretches of 8 words are passed until one holds it. Assumes nothing.
use Prim.Native.Nat.{ℕ, ◌+◌, ◌-◌, ◌*◌, ◌≤◌, ◌<◌}
use mathlib.Core.Path.{◌≡◌, sym, ap, ◌∙◌}
use mathlib.Core.List.{List}
use native.Mathlib.Omega.{arith}
use lib.ListN.{length, take, drop}
use lib.Seq.{take_all}
use Rattle.meaning.specs.Answer.{given, refused}
use Rattle.meaning.specs.Bits.{low_bits}
use Rattle.meaning.specs.Limits.{most_bytes, no_place}
use Rattle.meaning.specs.Lists.{sum}
use Rattle.meaning.specs.Rank.{ones_before, one_at, select}
use Rattle.meaning.proofs.Answers.{not-given}
use Rattle.meaning.proofs.Bounds.{below-take}
use Rattle.meaning.proofs.Ranks.{ones-add, one_none, one-some}
use Rattle.words.proofs.LowBits.{low-length, low_below, low-drop}
use Rattle.bits.proofs.Asked.{select-within}
use Rattle.bits.proofs.Finding.{window-inside, one-window}

-- the bytes passed have all but `left` of the ones that come before
pub record SelectSo (bytes : List ℕ) (k byte left : ℕ) : Type 0 where
  pub short : length bytes ≤ most_bytes
  pub near : byte < length bytes + 64
  pub so : ones_before (low_bits bytes) (8 * byte) + left ≡ k

pub select-start : {bytes : List ℕ} {k : ℕ} → length bytes ≤ most_bytes → SelectSo bytes k 0 k
unfolding ones_before sum
select-start h = record { short = h; near = omega arith; so = omega arith }

module _ {bytes : List ℕ} {k byte left : ℕ} (so : SelectSo bytes k byte left) where
  -- the ones of the stretch, by the whole slice's bits
  stretch : ones_before (low_bits (drop byte bytes)) (64 * 8) ≡ ones_before (drop (8 * byte) (low_bits bytes)) 512
  stretch = ap (λ (l : List ℕ). ones_before l 512) (sym (low-drop byte bytes))

  pub select-turn : {count : ℕ} → byte < length bytes → count ≡ ones_before (low_bits (drop byte bytes)) (64 * 8) → count ≤ left
      → SelectSo bytes k (byte + 64) (left - count)
  select-turn more e h =
      let wide : 8 * (byte + 64) ≡ 8 * byte + 512 = omega arith in
      record {
        short = so.short;
        near = omega arith;
        so = omega (arith, so.so, stretch, ap (ones_before (low_bits bytes)) wide, ones-add (low_bits bytes) (8 * byte) 512);
      }

  passed : ones_before (low_bits bytes) (8 * byte) ≤ k
  passed = omega (arith, so.so)

  module _ {index : ℕ} (q : one_at no_place left (take (64 * 8) (low_bits (drop byte bytes))) ≡ given index) where
    here : one_at no_place (k - ones_before (low_bits bytes) (8 * byte)) (take 512 (drop (8 * byte) (low_bits bytes))) ≡ given index
    here =
        let rest : k - ones_before (low_bits bytes) (8 * byte) ≡ left = omega (arith, so.so) in
        ap (λ (n : ℕ). one_at no_place n (take 512 (drop (8 * byte) (low_bits bytes)))) rest
        ∙ ap (λ (l : List ℕ). one_at no_place left (take 512 l)) (low-drop byte bytes) ∙ q

    pub select-inside : 8 * byte + index < 8 * length bytes
    select-inside =
        omega (arith, low-length bytes, (window-inside no_place k (low_bits bytes) (8 * byte) 512 (low_below bytes) passed here).0)

    pub select-found : given (8 * byte + index) ≡ select bytes k
    select-found =
        sym (select-within bytes k so.short ∙ one-window no_place k (low_bits bytes) (8 * byte) 512 (low_below bytes) passed here)

  -- a stretch with enough ones holds it
  pub select-holds : {count e : ℕ} → count ≡ ones_before (low_bits (drop byte bytes)) (64 * 8) → left < count
      → one_at no_place left (take (64 * 8) (low_bits (drop byte bytes))) ≡ refused e → ⊥
  unfolding ones_before
  select-holds {count} {e} ec h q =
      let bits = low_bits (drop byte bytes) in
      let (i, g) = one-some no_place left (take 512 bits) (below-take 2 512 bits (low_below (drop byte bytes))) (omega arith) in
      not-given e i (sym q ∙ g)

  pub select-end : length bytes ≤ byte → refused no_place ≡ select bytes k
  unfolding ones_before
  select-end done =
      let all : take (8 * byte) (low_bits bytes) ≡ low_bits bytes = take_all (8 * byte) (low_bits bytes) (omega (arith, low-length bytes)) in
      sym (select-within bytes k so.short ∙ one_none no_place k (low_bits bytes) (low_below bytes) (omega (arith, so.so, ap sum all)))
