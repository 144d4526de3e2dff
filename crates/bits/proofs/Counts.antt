-- The ones of words from an offset on, counted word by word. Assumes nothing.
use Prim.Native.Nat.{ℕ, suc, ◌+◌, ◌*◌, ◌^◌, ◌≤◌, ◌<◌}
use mathlib.Core.Path.{◌≡◌, refl, sym, ap, ◌∙◌}
use mathlib.Core.List.{List}
use native.Mathlib.Omega.{arith}
use lib.Count.{ones}
use lib.ListN.{drop}
use Rattle.meaning.specs.Bits.{low_bits}
use Rattle.meaning.specs.Lists.{sum}
use Rattle.meaning.specs.Places.{Below}
use Rattle.meaning.specs.Rank.{ones_before}
use Rattle.meaning.proofs.Ranks.{ones-add, ones-few}
use Rattle.meaning.proofs.Tests.{by_order}
use Rattle.words.proofs.LowBits.{low_below}
use Rattle.bits.specs.declared.words_of.Passed.{Passed}
use Rattle.bits.proofs.Near.{word_near, near-ones, words-drop}

-- i words have been counted
pub record CountSo (bytes : List ℕ) (first words count i : ℕ) : Type 0 where
  pub small : Below 256 bytes
  pub short : first + 8 * words < 2 ^ 32
  pub most : i ≤ words
  pub so : count ≡ ones_before (low_bits (drop first bytes)) (64 * i)

pub count-start : {bytes : List ℕ} {first words : ℕ} → Below 256 bytes → first + 8 * words < 2 ^ 32 → CountSo bytes first words 0 0
unfolding ones_before sum
count-start b h = record { small = b; short = h; most = omega arith; so = refl }

module _ {bytes : List ℕ} {first words count i : ℕ} (so : CountSo bytes first words count i) where
  pub count-few : count ≤ 64 * i
  count-few = omega (arith, so.so, ones-few (low_bits (drop first bytes)) (64 * i) (low_below (drop first bytes)))

  module _ {word : ℕ} (more : i < words) (e : word ≡ word_near bytes (first + 8 * i)) where
    pub count_turn : CountSo bytes first words (count + ones word) (i + 1)
    count_turn =
        let wide : 64 * (i + 1) ≡ 64 * i + 64 = omega arith in
        let here : ones word ≡ ones_before (drop (64 * i) (low_bits (drop first bytes))) 64 =
        ap ones e ∙ near-ones bytes (first + 8 * i) so.small ∙ ap (λ (l : List ℕ). ones_before l 64) (sym (words-drop bytes first i)) in
        record {
          small = so.small;
          short = so.short;
          most = omega arith;
          so = rw wide (omega (arith, so.so, here, ones-add (low_bits (drop first bytes)) (64 * i) 64));
        }

    -- a word has at most 64 ones
    pub word-few : ones word ≤ 64
    word-few =
        let rest = drop (first + 8 * i) bytes in
        omega (arith, ap ones e ∙ near-ones bytes (first + 8 * i) so.small, ones-few (low_bits rest) 64 (low_below rest))

-- ---- which word holds the k-th one: the words passed are all those up to which no more than k ones stand
pub record PassSo (bytes : List ℕ) (first words k : ℕ) (p : Passed) (through i : ℕ) : Type 0 where
  pub count : CountSo bytes first words through i
  pub passed : p.words ≤ i
  pub so : p.ones ≡ ones_before (low_bits (drop first bytes)) (64 * p.words)
  pub few : p.ones ≤ k
  pub holds : p.words < i → k < ones_before (low_bits (drop first bytes)) (64 * suc p.words)

pub pass-start : {bytes : List ℕ} {first words k : ℕ} → Below 256 bytes → first + 8 * words < 2 ^ 32
    → PassSo bytes first words k (record { words = 0; ones = 0 }) 0 0
pass-start b h =
    let none = count-start b h in
    record { count = none; passed = omega arith; so = none.so; few = omega arith; holds = λ z. absurd (omega arith) }

module _ {bytes : List ℕ} {first words k : ℕ} {p : Passed} {through i : ℕ} (so : PassSo bytes first words k p through i) where
  module _ {word : ℕ} (more : i < words) (e : word ≡ word_near bytes (first + 8 * i)) where
    pub pass-turn : through + ones word ≤ k
        → PassSo bytes first words k (record { words = i + 1; ones = through + ones word }) (through + ones word) (i + 1)
    pass-turn h =
        let next = count_turn so.count more e in
        record { count = next; passed = omega arith; so = next.so; few = h; holds = λ z. absurd (omega arith) }

    pub pass-stay : k < through + ones word → PassSo bytes first words k p (through + ones word) (i + 1)
    pass-stay h =
        let next = count_turn so.count more e in
        record {
          count = next;
          passed = omega (arith, so.passed);
          so = so.so;
          few = so.few;
          holds = λ z. by_order p.words i so.holds (λ here. last (omega (arith, so.passed)) next.so);
        }
      where
        last : i + 1 ≡ suc p.words → through + ones word ≡ ones_before (low_bits (drop first bytes)) (64 * (i + 1))
            → k < ones_before (low_bits (drop first bytes)) (64 * suc p.words)
        last one all = rw (← one) (omega arith)
