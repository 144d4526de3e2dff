-- Both forms of codewords at once. Assumes nothing.
use Prim.Native.Nat.{ℕ, ◌+◌, ◌-◌, ◌*◌, ◌≤◌, ◌<◌}
use mathlib.Core.Path.{◌≡◌, refl, sym, ◌∙◌}
use mathlib.Core.List.{List, [], ◌∷◌}
use native.Mathlib.Omega.{arith}
use lib.ListN.{length, drop}
use Rattle.meaning.specs.Answer.{given, refused}
use Rattle.meaning.specs.Bits.{bits_of, pack}
use Rattle.meaning.specs.Elias.{write_gamma, write_delta, unit_elias}
use Rattle.meaning.specs.Limits.{cut_short, number_limit, most_bytes}
use Rattle.meaning.specs.Places.{Spare}
use Rattle.meaning.specs.Positions.{at_bit}
use Rattle.meaning.specs.declared.Position.{Position}
use Rattle.meaning.proofs.Answers.{not-given}
use Rattle.meaning.proofs.Bounds.{below-drop}
use Rattle.meaning.proofs.Codes.{spare-always}
use Rattle.meaning.proofs.Tests.{by_order}
use Rattle.elias.specs.Says.{bits_of_word, word_of, code_with}
use Rattle.elias.specs.declared.word.Form.{Form}
use Rattle.elias.specs.declared.word.Form.TheVariants.{Gamma, Delta}
use Rattle.elias.proofs.Codewords.{Word}
use Rattle.elias.proofs.Delta.{word-delta}
use Rattle.elias.proofs.Gamma.{word-gamma}
use Rattle.elias.proofs.Laws.{words}
use Rattle.elias.proofs.Pack.{bits_left, bits_below}
use Rattle.elias.proofs.Seen.{word_none}

abbrev most_bits : Form → ℕ
most_bits Gamma = 65
most_bits Delta = 43

word-of : (f : Form) → Word (most_bits f) (bits_of_word f) (word_of f)
word-of Gamma = word-gamma
word-of Delta = word-delta

pub most-bits : (f : Form) (v : ℕ) → 0 < v → v ≤ number_limit → length (bits_of_word f v) ≤ 65
most-bits Gamma v h k = word-gamma.most v h k
most-bits Delta v h k = omega (arith, word-delta.most v h k)

-- ---- what each code says, by its codewords
unit-of : (f : Form) (body : List ℕ) (left : ℕ) (p : Position) → (code_with f).unit body left p ≡ unit_elias (word_of f) body left p
unit-of Gamma body left p = refl
unit-of Delta body left p = refl

-- of a position the bit alone matters
pub alike : (f : Form) (body : List ℕ) (left : ℕ) (p : Position) → (code_with f).unit body left p ≡ (code_with f).unit body left (at_bit p.bit.index)
unfolding unit_elias
alike f body left p = unit-of f body left p ∙ sym (unit-of f body left (at_bit p.bit.index))

pub spare_of : (f : Form) (before : List ℕ) → Spare (code_with f).joins before 0
spare_of Gamma before = spare-always before
spare_of Delta before = spare-always before

pub write-of : (f : Form) (xs : List ℕ) → (code_with f).write xs ≡ pack (words (bits_of_word f) xs)
unfolding write_gamma write_delta
write-of Gamma xs = refl
write-of Delta xs = refl

-- ---- the codeword at a bit of a body
-- v is at least 1 and at most 2^32, and its bits are the body's
pub record Found (p v k : ℕ) : Type 0 where
  pub some : 0 < v
  pub few : v ≤ number_limit
  pub within : p + k ≤ 8 * most_bytes

module _ (f : Form) (body : List ℕ) where
  pub found : (p : ℕ) {v k : ℕ} → length body ≤ most_bytes → word_of f (drop p (bits_of body)) ≡ given (v, k) → Found p v k
  found p {v} {k} short e =
      let l = drop p (bits_of body) in
      let long = bits_left p body in
      let b = (word-of f).back l (v, k) (below-drop 2 p (bits_of body) (bits_below body)) e in
      by_order p (8 * length body)
      (λ h. record { some = b.some; few = b.few; within = omega (arith, b.within) })
      (λ h. absurd (not-given cut_short (v, k) (word_none f l (omega arith) ∙ e)))

  module _ (left : ℕ) (p : Position) where
    pub unit-given : {v k : ℕ} → word_of f (drop p.bit.index (bits_of body)) ≡ given (v, k)
        → (code_with f).unit body left p ≡ given (at_bit (p.bit.index + k), (v - 1) ∷ [])
    unfolding unit_elias
    unit-given e = unit-of f body left p ∙ rw e

    pub unit-refused : {z : ℕ} → word_of f (drop p.bit.index (bits_of body)) ≡ refused z → (code_with f).unit body left p ≡ refused z
    unfolding unit_elias
    unit-refused e = unit-of f body left p ∙ rw e
