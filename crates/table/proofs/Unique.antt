-- One possible answer: two answers that meet the contract are equal. Assumes nothing.
use Prim.Native.Nat.{ℕ}
use mathlib.Core.Path.{◌≡◌, sym, ◌∙◌}
use mathlib.Core.List.{List}
use Rattle.std.specs.Prelude.{Result}
use Rattle.meaning.specs.Operations.{fetch}
use Rattle.meaning.specs.Promises.{Fetches}
use Rattle.meaning.specs.declared.Refusal.{Refusal}
use Rattle.meaning.proofs.Same.{says-same}

-- the part's contents, or the refusal
pub one-fetch : (sheet : List ℕ) (k : ℕ) (r r' : Result (List ℕ) Refusal) → Fetches sheet k r → Fetches sheet k r' → r ≡ r'
one-fetch sheet k r r' e f = says-same r r' (e ∙ sym f)
