-- One possible answer: two answers that say the same are equal. Assumes nothing.
use Prim.Native.Nat.{ℕ}
use mathlib.Core.Path.{◌≡◌, sym, ◌∙◌}
use mathlib.Core.List.{List}
use Rattle.std.specs.Prelude.{Result}
use Rattle.meaning.specs.Plan.{judge_plan, judge, worst_size}
use Rattle.meaning.specs.Says.{says}
use Rattle.meaning.specs.declared.Refusal.{Refusal}
use Rattle.meaning.proofs.Same.{says-same}

-- ---- the public functions: what meets the contract is one answer
pub one-judge : (kind : ℕ) (plan : List ℕ) (r r' : Result (Unit {0}) Refusal) → says r ≡ judge kind plan → says r' ≡ judge kind plan → r ≡ r'
one-judge kind plan r r' e f = says-same r r' (e ∙ sym f)

pub one-judge-plan : (kind : ℕ) (plan : List ℕ) (r r' : Result (Unit {0}) Refusal)
    → says r ≡ judge_plan kind plan → says r' ≡ judge_plan kind plan → r ≡ r'
one-judge-plan kind plan r r' e f = says-same r r' (e ∙ sym f)

pub one-worst-size : (plan : List ℕ) (n : ℕ) (r r' : Result ℕ Refusal) → says r ≡ worst_size plan n → says r' ≡ worst_size plan n → r ≡ r'
one-worst-size plan n r r' e f = says-same r r' (e ∙ sym f)
