-- `body_start` has passed the bodies below k. Assumes nothing.
use Rattle.table.proofs.EntryLaws.{BodySo}
use Rattle.table.proofs.entries.body_start.Given as goal

abbrev pub invariant-loop-k : goal.invariant-loop-k
invariant-loop-k l = BodySo l.sheet l.column l.at.byte l.k
