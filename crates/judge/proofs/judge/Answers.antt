-- `judge` is the definition's first test and what `judge_plan` says. Assumes nothing.
use mathlib.Core.Path.{refl}
use borrow.Author.Tests.{le-leb, lt-leb}
use Rattle.meaning.specs.Plan.{judge}
use Rattle.judge.proofs.FrontLaws.{need-passed, need-refused}
use Rattle.judge.proofs.judge.Goals as goal

pub returns-then-not-known : goal.returns-then-not-known
unfolding judge
returns-then-not-known c = need-refused _ _ _ _ refl (lt-leb _ _ c.if-not-known.true)

pub returns : goal.returns
unfolding judge
returns c = need-passed _ _ _ _ _ refl (le-leb _ _ c.if-not-known.false) c.judge_plan.ensures
