-- `rises_in` asks each number and the one before it. Assumes nothing.
use Rattle.std.proofs.Common.{rules}
use borrow.Author.Tests.{tests}
use lib.Dec.{leb}
use Rattle.meaning.specs.Lists.{rises}
use Rattle.stages.proofs.Walks.{adjacent-is}
use Rattle.stages.proofs.rises_in.Goals as goal

pub returns : goal.returns
unfolding rises
returns c = adjacent-is leb c.args.list.now _ _ _ c.is_sorted_by.ensures.cases (λ a r f k. search (rules, tests))
