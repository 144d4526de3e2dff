-- What a call answers and what its output holds afterwards: what was given, and not a place more; after a refusal, what it held. Assumes nothing.
use Rattle.std.specs.Prelude.{Result, Ok}
use Rattle.meaning.specs.declared.Refusal.{Refusal}
use Prim.Native.Nat.{ℕ}
use mathlib.Core.Path.{◌≡◌, refl, ap, ◌∙◌}
use mathlib.Core.List.{List, ◌++◌}
use lib.ListN.{length, take, drop}
use lib.Seq.{take-append_seam, drop-append_seam}
use Rattle.meaning.specs.Answer.{Answer, given, refused, amount, filled}
use Rattle.meaning.specs.Says.{says}
use Rattle.meaning.proofs.Same.{says-same}
use Rattle.demands.specs.Promises.{Fills}

module _ (out : List ℕ) where
  pub refusal-keeps : (e : ℕ) → filled (refused e) out ≡ out
  refusal-keeps e = refl

  module _ (xs : List ℕ) where
    pub first-filled : take (length xs) (filled (given xs) out) ≡ xs
    first-filled = take-append_seam xs (drop (length xs) out)

    pub rest-kept : drop (length xs) (filled (given xs) out) ≡ drop (length xs) out
    rest-kept = drop-append_seam xs (drop (length xs) out)

-- equal parts make equal pairs
pub both : {A B : Type 0} (a b : A × B) → (a.0 ≡ b.0) × (a.1 ≡ b.1) → a ≡ b
both a b h = λ i. (h.0 i, h.1 i)

-- a writer that is to give these bytes says how many they are, and its output begins with them
pub filled-with : (m : Answer (List ℕ)) (bytes o : List ℕ) (a : Result ℕ Refusal × List ℕ) → m ≡ given bytes → Fills m o (says a.0) a.1
    → a ≡ (Ok (length bytes), bytes ++ drop (length bytes) o)
filled-with m bytes o a e t =
    both a (Ok (length bytes), bytes ++ drop (length bytes) o)
    (says-same a.0 (Ok (length bytes)) (t.0 ∙ ap amount e), t.1 ∙ ap (λ (x : Answer (List ℕ)). filled x o) e)
