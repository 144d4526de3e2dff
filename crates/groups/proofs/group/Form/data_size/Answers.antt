-- A turn adds one field's length (`Summed`). Assumes nothing.
use Rattle.groups.proofs.Steps.{summed_turn, summed-end}
use Rattle.groups.proofs.group.Form.data_size.Goals as goal

pub loop-i-preserved : goal.loop-i-preserved
loop-i-preserved c = summed_turn c.loop-i.invariant c.loop-i-test.true c.length-size.ensures.0 c.length-size.ensures.2

pub returns : goal.returns
returns c = summed-end c.loop-i.invariant c.loop-i-test.false
