-- `gaps_into`: as `less_into`; the state is the number before. Assumes nothing.
use Rattle.stages.proofs.Scans.{gaps-scan, behind-turn, scanning-end}
use Rattle.stages.proofs.gaps_into.Goals as goal

pub loop-i-preserved : goal.loop-i-preserved
loop-i-preserved c = behind-turn gaps-scan c.loop-i.invariant c.loop-i-test.true c.saturating_sub.ensures

pub returns : goal.returns
returns c = scanning-end gaps-scan c.loop-i.invariant c.loop-i-test.false
