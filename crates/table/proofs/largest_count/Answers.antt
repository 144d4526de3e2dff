-- `largest_count` has the largest count of the columns below k. Assumes nothing.
use Rattle.table.proofs.EntryLaws.{largest-first, largest-turn, largest-end}
use Rattle.table.proofs.Sounds.{sound-sheet}
use Rattle.table.proofs.largest_count.Goals as goal

pub column_count-k-end-requires : goal.column_count-k-end-requires
column_count-k-end-requires c = (sound-sheet c.args.sheet.now c.requires).least

pub loop-k-init : goal.loop-k-init
loop-k-init c = largest-first c.requires c.column_count-k-end.ensures.0

pub loop-k-preserved : goal.loop-k-preserved
loop-k-preserved c = largest-turn c.loop-k.invariant c.loop-k-test.true c.count_at.ensures c.max-most.ensures

pub returns : goal.returns
returns c = largest-end c.loop-k.invariant c.loop-k-test.false
