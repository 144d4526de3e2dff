-- `largest_count` has the largest count of the columns below k. Assumes nothing.
use Rattle.table.proofs.EntryLaws.{LargestSo}
use Rattle.table.proofs.largest_count.Given as goal

abbrev pub invariant-loop-k : goal.invariant-loop-k
invariant-loop-k l = LargestSo l.sheet l.k-end l.most l.k
