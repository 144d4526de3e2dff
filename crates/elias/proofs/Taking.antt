-- What the loop knows that takes codewords, for both forms. Assumes nothing.
use Prim.Native.Nat.{ℕ, ◌+◌, ◌-◌, ◌<◌}
use mathlib.Core.Path.{◌≡◌, refl}
use mathlib.Core.List.{List, [], ◌∷◌}
use native.Mathlib.Omega.{arith}
use lib.ListN.{set, drop}
use Rattle.meaning.specs.Answer.{given}
use Rattle.meaning.specs.Bits.{bits_of}
use Rattle.meaning.specs.Positions.{at_bit}
use Rattle.meaning.specs.declared.Position.{Position}
use Rattle.meaning.proofs.Taking.{Takes, takes-start, takes-next}
use Rattle.elias.specs.Says.{word_of, code_with}
use Rattle.elias.specs.declared.word.Form.{Form}
use Rattle.elias.proofs.Forms.{spare_of, alike, unit-given}

-- i numbers have been taken, and the next codeword is at bit p
abbrev pub Taking : Form → List ℕ → ℕ → Position → List ℕ → ℕ → List ℕ → ℕ → ℕ → Type 0
Taking f body left at w₀ from w i p = Takes (code_with f) body left at w₀ from w i i 0 (at_bit p)

module _ (f : Form) (body : List ℕ) (left : ℕ) (at : Position) (w₀ : List ℕ) (from : ℕ) where
  pub taking-start : Taking f body left at w₀ from w₀ 0 at.bit.index
  taking-start = takes-start (code_with f) body left at w₀ from (at_bit at.bit.index) (spare_of f []) (λ k. alike f body k at)

  pub taking-turn : {w : List ℕ} {i p v k : ℕ} → Taking f body left at w₀ from w i p → i < left → word_of f (drop p (bits_of body)) ≡ given (v, k)
      → Taking f body left at w₀ from (set w (from + i) (v - 1)) (i + 1) (p + k)
  taking-turn {w} {i} {p} {v} {k} t h e =
      takes-next (code_with f) body left at w₀ from w i i 0 (at_bit p) t refl (at_bit (p + k), (v - 1) ∷ []) (set w (from + i) (v - 1))
      h (unit-given f body (left - i) (at_bit p) e) (omega arith) (spare_of f ((v - 1) ∷ [])) refl
