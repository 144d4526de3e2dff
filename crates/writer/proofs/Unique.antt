-- One possible answer: two answers and outputs that meet the contract of `write` are equal. Assumes nothing.
use Rattle.meaning.specs.declared.Refusal.{Refusal}
use Rattle.std.specs.Prelude.{Result}
use Prim.Native.Nat.{ℕ}
use mathlib.Core.Path.{◌≡◌, sym, ◌∙◌}
use mathlib.Core.List.{List}
use lib.ListN.{length}
use Rattle.meaning.specs.Promises.{Fills}
use Rattle.meaning.specs.Operations.{write_apart}
use Rattle.meaning.specs.Says.{says}
use Rattle.meaning.proofs.Same.{says-same}

pub one-write : (edition : ℕ) (kinds plans counts numbers : List ℕ) (work : ℕ) (o o' o'' : List ℕ) (r r' : Result ℕ Refusal)
    → Fills (write_apart edition kinds plans counts numbers work (length o)) o (says r) o'
    → Fills (write_apart edition kinds plans counts numbers work (length o)) o (says r') o''
    → (r ≡ r') × (o' ≡ o'')
one-write edition kinds plans counts numbers work o o' o'' r r' e f =
    (says-same r r' (e.0 ∙ sym f.0), e.1 ∙ sym f.1)
