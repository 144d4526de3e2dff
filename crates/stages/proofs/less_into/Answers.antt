-- `less_into`: the first numbers are stored, and what is still to come is what is made of the numbers from here. Assumes nothing.
use Rattle.stages.proofs.Scans.{less-scan, behind-turn}
use Rattle.stages.proofs.less_into.Goals as goal

pub loop-i-preserved : goal.loop-i-preserved
loop-i-preserved c = behind-turn less-scan c.loop-i.invariant c.loop-i-test.true c.saturating_sub.ensures
