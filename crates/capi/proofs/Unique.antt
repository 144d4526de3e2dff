-- One possible answer: two answers, and two exits, that meet a contract are equal. The work slice alone is free. Assumes nothing.
use Prim.Native.Nat.{ℕ}
use mathlib.Core.Path.{◌≡◌, sym, ◌∙◌}
use mathlib.Core.List.{List}
use lib.ListN.{length}
use Rattle.meaning.specs.Answer.{Answer, number}
use Rattle.meaning.specs.Operations.{write_apart, check, read_sheet, look_sheet, count_board}
use Rattle.meaning.specs.Plan.{judge, worst_size}
use Rattle.meaning.specs.Rank.{rank, select}
use Rattle.meaning.specs.declared.Tally.{Tally}
use Rattle.capi.specs.Told.{Tells, TellsList, Blames, Tallies, Fetches}

-- ---- by what is told
module _ (a : Answer ℕ) (r r' n n' : ℕ) where
  one-tells : Tells a r n → Tells a r' n' → (r ≡ r') × (n ≡ n')
  one-tells e f = (e.returned ∙ sym f.returned, e.told ∙ sym f.told)

module _ (a : Answer (List ℕ)) (r r' n n' : ℕ) (out out₁ out₂ : List ℕ) where
  one-fills : TellsList a r n out out₁ → TellsList a r' n' out out₂ → (r ≡ r') × (n ≡ n') × (out₁ ≡ out₂)
  one-fills e f = (e.returned ∙ sym f.returned, e.told ∙ sym f.told, e.here ∙ sym f.here)

-- ---- the exported functions
pub one-judge : (kind : ℕ) (plan : List ℕ) (r r' : ℕ) → r ≡ number (judge kind plan) → r' ≡ number (judge kind plan) → r ≡ r'
one-judge kind plan r r' e f = e ∙ sym f

pub one-worst : (plan : List ℕ) (n r r' size size' : ℕ)
    → Tells (worst_size plan n) r size
    → Tells (worst_size plan n) r' size'
    → (r ≡ r') × (size ≡ size')
one-worst plan n = one-tells (worst_size plan n)

pub one-write : (edition : ℕ) (kinds plans counts numbers : List ℕ) (work r r' size size' : ℕ) (out out₁ out₂ : List ℕ)
    → TellsList (write_apart edition kinds plans counts numbers work (length out)) r size out out₁
    → TellsList (write_apart edition kinds plans counts numbers work (length out)) r' size' out out₂
    → (r ≡ r') × (size ≡ size') × (out₁ ≡ out₂)
one-write edition kinds plans counts numbers work r r' size size' out =
    one-fills (write_apart edition kinds plans counts numbers work (length out)) r r' size size' out

pub one-check : (sheet : List ℕ) (work r r' k k' : ℕ)
    → Blames (check sheet work) r k
    → Blames (check sheet work) r' k'
    → (r ≡ r') × (k ≡ k')
one-check sheet work r r' k k' e f = (e.returned ∙ sym f.returned, e.blamed ∙ sym f.blamed)

pub one-read : (sheet : List ℕ) (k work r r' n n' : ℕ) (out out₁ out₂ : List ℕ)
    → TellsList (read_sheet sheet k work (length out)) r n out out₁
    → TellsList (read_sheet sheet k work (length out)) r' n' out out₂
    → (r ≡ r') × (n ≡ n') × (out₁ ≡ out₂)
one-read sheet k work r r' n n' out = one-fills (read_sheet sheet k work (length out)) r r' n n' out

pub one-lookup : (sheet : List ℕ) (k place r r' x x' : ℕ)
    → Tells (look_sheet sheet k place) r x
    → Tells (look_sheet sheet k place) r' x'
    → (r ≡ r') × (x ≡ x')
one-lookup sheet k place = one-tells (look_sheet sheet k place)

pub one-fetch : (sheet : List ℕ) (k r r' from from' n n' : ℕ)
    → Fetches sheet k r from n
    → Fetches sheet k r' from' n'
    → (r ≡ r') × (from ≡ from') × (n ≡ n')
one-fetch sheet k r r' from from' n n' e f = (e.returned ∙ sym f.returned, e.offset ∙ sym f.offset, e.size ∙ sym f.size)

pub one-board : (sheet : List ℕ) (work r r' k k' : ℕ) (t t' : Tally)
    → Tallies (count_board sheet work) r k t
    → Tallies (count_board sheet work) r' k' t'
    → (r ≡ r') × (k ≡ k') × (t ≡ t')
one-board sheet work r r' k k' t t' e f = (e.returned ∙ sym f.returned, e.blamed ∙ sym f.blamed, e.tallies ∙ sym f.tallies)

pub one_rank : (bytes : List ℕ) (bit r r' ones ones' : ℕ)
    → Tells (rank bytes bit) r ones
    → Tells (rank bytes bit) r' ones'
    → (r ≡ r') × (ones ≡ ones')
one_rank bytes bit = one-tells (rank bytes bit)

pub one-select : (bytes : List ℕ) (k r r' bit bit' : ℕ)
    → Tells (select bytes k) r bit
    → Tells (select bytes k) r' bit'
    → (r ≡ r') × (bit ≡ bit')
one-select bytes k = one-tells (select bytes k)
