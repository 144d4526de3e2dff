-- `raise_firsts`: the first sums are stored, and what is still to come is what is made of the numbers from here. Assumes nothing.
use Rattle.std.proofs.Common.{refl}
use Rattle.stages.proofs.Scans.{raise-scan, tested-turn, tested-over, tested-end}
use Rattle.stages.proofs.raise_firsts.Goals as goal

pub returns-in_default : goal.returns-in_default
returns-in_default c = tested-over raise-scan c.loop-i.invariant c.loop-i-test.true c.in_default.ensures

pub loop-i-preserved : goal.loop-i-preserved
loop-i-preserved c = tested-turn raise-scan c.loop-i.invariant c.loop-i-test.true c.in-Some.ensures.0 c.in-Some.ensures.1 refl

pub returns : goal.returns
returns c = tested-end raise-scan c.loop-i.invariant c.loop-i-test.false
