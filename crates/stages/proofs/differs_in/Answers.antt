-- `differs_in` asks each number and the one before it. Assumes nothing.
use mathlib.Core.Bool.{not}
use Rattle.std.proofs.Common.{rules}
use borrow.Author.Tests.{tests}
use lib.Dec.{eqb}
use Rattle.meaning.specs.Lists.{differ}
use Rattle.stages.proofs.Walks.{adjacent-is}
use Rattle.stages.proofs.differs_in.Goals as goal

pub returns : goal.returns
unfolding differ
returns c = adjacent-is (λ x y. not (eqb x y)) c.args.list.now _ _ _ c.is_sorted_by.ensures.cases (λ a r f k. search (rules, tests))
