-- One possible answer: two answers of rank, or of select, that meet the contract are equal. Assumes nothing.
use Prim.Native.Nat.{ℕ}
use mathlib.Core.Path.{◌≡◌, sym, ◌∙◌}
use mathlib.Core.List.{List}
use Rattle.std.specs.Prelude.{Result}
use Rattle.meaning.specs.Promises.{Ranks, Selects}
use Rattle.meaning.specs.declared.Bit.{Bit}
use Rattle.meaning.specs.declared.Refusal.{Refusal}
use Rattle.meaning.proofs.Same.{says-same, bit-same}

pub one_rank : (bytes : List ℕ) (bit : ℕ) (r r' : Result ℕ Refusal) → Ranks bytes bit r → Ranks bytes bit r' → r ≡ r'
one_rank bytes bit r r' e f = says-same r r' (e ∙ sym f)

pub one-select : (bytes : List ℕ) (k : ℕ) (s s' : Result Bit Refusal) → Selects bytes k s → Selects bytes k s' → s ≡ s'
one-select bytes k s s' e f = bit-same s s' (e ∙ sym f)
