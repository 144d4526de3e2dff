-- One possible answer: two answers, and two contents of the output, that meet the contract are equal. Assumes nothing.
use Prim.Native.Nat.{ℕ}
use mathlib.Core.Path.{◌≡◌, sym, ◌∙◌}
use mathlib.Core.List.{List}
use lib.ListN.{length}
use Rattle.std.specs.Prelude.{Result}
use Rattle.meaning.specs.Operations.{check, read_sheet, look_sheet, count_board}
use Rattle.meaning.specs.Says.{verdict_says, says, counted_says}
use Rattle.meaning.specs.declared.Fault.{Fault}
use Rattle.meaning.specs.declared.Refusal.{Refusal}
use Rattle.meaning.specs.declared.Tally.{Tally}
use Rattle.meaning.proofs.Same.{says-same, verdict-same, counted-same}
use Rattle.sheet.proofs.ReadSheets.{ReadSays}

pub one-check : (sheet : List ℕ) (work : ℕ) (r r' : Result (Unit {0}) Fault) → verdict_says r ≡ check sheet work → verdict_says r' ≡ check sheet work → r ≡ r'
one-check sheet work r r' e f = verdict-same r r' (e ∙ sym f)

-- what was read, and what the output holds
pub one-read : (sheet : List ℕ) (k work : ℕ) (out out₁ out₂ : List ℕ) (r r' : Result ℕ Refusal)
    → ReadSays (read_sheet sheet k work (length out)) out out₁ r → ReadSays (read_sheet sheet k work (length out)) out out₂ r' → (r ≡ r') × (out₁ ≡ out₂)
one-read sheet k work out out₁ out₂ r r' e f = (says-same r r' (e.0 ∙ sym f.0), e.1 ∙ sym f.1)

pub one-lookup : (sheet : List ℕ) (k place : ℕ) (r r' : Result ℕ Refusal) → says r ≡ look_sheet sheet k place → says r' ≡ look_sheet sheet k place → r ≡ r'
one-lookup sheet k place r r' e f = says-same r r' (e ∙ sym f)

pub one-board : (sheet : List ℕ) (work : ℕ) (r r' : Result Tally Fault)
    → counted_says r ≡ count_board sheet work → counted_says r' ≡ count_board sheet work → r ≡ r'
one-board sheet work r r' e f = counted-same r r' (e ∙ sym f)
