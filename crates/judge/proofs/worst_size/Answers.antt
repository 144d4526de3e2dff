-- `worst_size` refuses in the definition's order. Assumes nothing.
use Prim.Native.Nat.{ℕ}
use mathlib.Core.Path.{refl, ap}
use borrow.Author.Tests.{le-leb, lt-leb}
use Rattle.meaning.specs.Answer.{given}
use Rattle.meaning.specs.Plan.{plan_of, worst_size}
use Rattle.judge.proofs.FrontLaws.{need-passed, need-refused}
use Rattle.judge.proofs.worst_size.Goals as goal

pub returns-then-not-well_formed : goal.returns-then-not-well_formed
unfolding worst_size
returns-then-not-well_formed c = need-refused _ _ _ _ c.well_formed-2.ensures c.if-not-well_formed.true

pub returns-then-n-gt-MOST_NUMBERS : goal.returns-then-n-gt-MOST_NUMBERS
unfolding worst_size
returns-then-n-gt-MOST_NUMBERS c =
    need-passed _ _ _ _ _ c.well_formed-2.ensures c.if-not-well_formed.false
    (need-refused _ _ _ _ refl (lt-leb _ _ c.if-n-gt-MOST_NUMBERS.true))

pub returns : goal.returns
unfolding plan_of worst_size
returns c =
    need-passed _ _ _ _ _ c.well_formed-2.ensures c.if-not-well_formed.false
    (need-passed _ _ _ _ _ refl (le-leb _ _ c.if-n-gt-MOST_NUMBERS.false) (ap (λ (k : ℕ). given k) c.worst_plan.ensures))
