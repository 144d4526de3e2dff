-- `strict_in` asks each number and the one before it. Assumes nothing.
use Rattle.std.proofs.Common.{rules}
use borrow.Author.Tests.{tests}
use lib.Dec.{ltb}
use Rattle.meaning.specs.Lists.{strict}
use Rattle.stages.proofs.Walks.{adjacent-is}
use Rattle.stages.proofs.strict_in.Goals as goal

pub returns : goal.returns
unfolding strict
returns c = adjacent-is ltb c.args.list.now _ _ _ c.is_sorted_by.ensures.cases (λ a r f k. search (rules, tests))
