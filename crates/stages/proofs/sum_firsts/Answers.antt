-- `sum_firsts`: as `raise_firsts`; the state is the sum so far. Assumes nothing.
use Rattle.stages.proofs.Scans.{sums-scan, tested-turn, tested-over, tested-end}
use Rattle.stages.proofs.sum_firsts.Goals as goal

pub returns-in_default : goal.returns-in_default
returns-in_default c = tested-over sums-scan c.loop-i.invariant c.loop-i-test.true c.in_default.ensures

pub loop-i-preserved : goal.loop-i-preserved
loop-i-preserved c = tested-turn sums-scan c.loop-i.invariant c.loop-i-test.true c.in-Some.ensures.0 c.in-Some.ensures.1 c.in-Some.ensures.1

pub returns : goal.returns
returns c = tested-end sums-scan c.loop-i.invariant c.loop-i-test.false
