-- The bit of the k-th one, found in the word or the stretch of words that holds it. Assumes nothing.
use Prim.Native.Nat.{ℕ, suc, ◌+◌, ◌-◌, ◌*◌, ◌≤◌, ◌<◌}
use mathlib.Core.Path.{◌≡◌, sym, ap, ◌∙◌}
use mathlib.Core.List.{List}
use native.Mathlib.Omega.{arith}
use lib.ListN.{length, take, drop, length-take, length-drop, take-append-drop}
use lib.Seq.{length-take-le}
use Rattle.std.specs.Prelude.{Err}
use Rattle.meaning.specs.Answer.{given, refused}
use Rattle.meaning.specs.Bits.{bits_low, low_bits}
use Rattle.meaning.specs.Limits.{no_place}
use Rattle.meaning.specs.Lists.{sum}
use Rattle.meaning.specs.Places.{Below}
use Rattle.meaning.specs.Rank.{ones_before, one_at}
use Rattle.meaning.proofs.Answers.{not-given}
use Rattle.meaning.proofs.Bounds.{below-take, below-drop}
use Rattle.meaning.proofs.Ranks.{later, ones-add, one-is, one_none, one_left, one_right, one-among}
use Rattle.meaning.proofs.Tests.{by_order}
use Rattle.words.proofs.LowBits.{low_below}
use Rattle.bits.specs.Passes.{Holds, Passes}
use Rattle.bits.specs.declared.words_of.Passed.{Passed}
use Rattle.bits.proofs.Near.{word_near, near-sum, near-one, words-drop}

-- found among the w bits from m on, it is found among all
module _ (e k : ℕ) (bits : List ℕ) (m w : ℕ) {j : ℕ} (b : Below 2 bits) (passed : ones_before bits m ≤ k)
    (q : one_at e (k - ones_before bits m) (take w (drop m bits)) ≡ given j) where
  behind : Below 2 (take w (drop m bits))
  behind = below-take 2 w (drop m bits) (below-drop 2 m bits b)

  pub window-inside : (m + j < length bits) × (j < w)
  window-inside =
      let o = one-is e (k - ones_before bits m) (take w (drop m bits)) j behind q in
      let inside = o.inside in
      (omega (arith, length-take w (drop m bits), length-drop m bits), omega (arith, length-take w (drop m bits)))

  pub one-window : one_at e k bits ≡ given (m + j)
  unfolding ones_before
  one-window =
      let left : ℕ = k - ones_before bits m in
      let xs = take w (drop m bits) in
      let less : left < sum xs = by_order left (sum xs) (λ h. h) (λ h. absurd (not-given e j (sym (one_none e left xs behind h) ∙ q))) in
      let there : one_at e left (drop m bits) ≡ given j =
      sym (ap (one_at e left) (take-append-drop w (drop m bits))) ∙ one_left e left xs (drop w (drop m bits)) behind less ∙ q in
      let long : length (take m bits) ≡ m = length-take-le m bits (omega (arith, window-inside.0)) in
      sym (ap (one_at e k) (take-append-drop m bits))
      ∙ one_right e k (take m bits) (drop m bits) (below-take 2 m bits b) passed
      ∙ ap (later (length (take m bits))) there ∙ ap (λ (n : ℕ). given (n + j)) long

-- ---- in so many words from an offset on
module _ (bytes : List ℕ) (from words k : ℕ) where
  -- none of them holds it
  pub none_in : {all : ℕ} → Passes (low_bits (drop from bytes)) words k (Err all)
      → one_at no_place k (take (64 * words) (low_bits (drop from bytes))) ≡ refused no_place
  unfolding ones_before
  none_in so =
      let bits = low_bits (drop from bytes) in
      one_none no_place k (take (64 * words) bits) (below-take 2 (64 * words) bits (low_below (drop from bytes))) (rw (← so.0) so.1)

module _ (bytes : List ℕ) (from : ℕ) {words k : ℕ} {p : Passed} {word : ℕ} (small : Below 256 bytes) (so : Holds (low_bits (drop from bytes)) words k p)
    (e : word ≡ word_near bytes (from + 8 * p.words)) where
  few : ones_before (low_bits (drop from bytes)) (64 * p.words) ≤ k
  few = omega (arith, so.counted, so.few)

  -- the word behind those passed holds it
  pub word_holds : k - p.ones < sum (bits_low 64 word)
  word_holds =
      let bits = low_bits (drop from bytes) in
      let m : ℕ = 64 * p.words in
      let wide : 64 * suc p.words ≡ m + 64 = omega arith in
      let here : sum (bits_low 64 word) ≡ ones_before (drop m bits) 64 =
      ap (λ (x : ℕ). sum (bits_low 64 x)) e ∙ near-sum bytes (from + 8 * p.words) small
      ∙ ap (λ (l : List ℕ). ones_before l 64) (sym (words-drop bytes from p.words)) in
      omega (arith, so.counted, so.few, so.holds, ap (ones_before bits) wide, ones-add bits m 64)

  module _ {j : ℕ} (found : one_at no_place (k - p.ones) (bits_low 64 word) ≡ given j) where
    at-word : one_at no_place (k - ones_before (low_bits (drop from bytes)) (64 * p.words)) (take 64 (drop (64 * p.words) (low_bits (drop from bytes))))
        ≡ given j
    at-word =
        ap (λ (n : ℕ). one_at no_place (k - n) (take 64 (drop (64 * p.words) (low_bits (drop from bytes))))) (sym so.counted)
        ∙ ap (λ (l : List ℕ). one_at no_place (k - p.ones) (take 64 l)) (words-drop bytes from p.words)
        ∙ sym (near-one bytes (from + 8 * p.words) small no_place (k - p.ones))
        ∙ ap (λ (x : ℕ). one_at no_place (k - p.ones) (bits_low 64 x)) (sym e) ∙ found

    pub one-small : j < 64
    one-small = (window-inside no_place k (low_bits (drop from bytes)) (64 * p.words) 64 (low_below (drop from bytes)) few at-word).1

    pub one_found : given (64 * p.words + j) ≡ one_at no_place k (take (64 * words) (low_bits (drop from bytes)))
    one_found =
        let bits = low_bits (drop from bytes) in
        let low = low_below (drop from bytes) in
        let whole = one-window no_place k bits (64 * p.words) 64 low few at-word in
        sym (one-among no_place k bits (64 * p.words + j) low whole (64 * words) (omega (arith, one-small, so.less)))
