-- `push` meets its contract: a turn of the loop changes nothing of what the output will hold. Assumes nothing.
use Rattle.elias.proofs.Pushing.{emit-turn, emit-end, push-fits}
use Rattle.elias.proofs.output.Pending.push.Goals as goal

pub overflow_add-bits : goal.overflow_add-bits
overflow_add-bits c = record { fits = push-fits c.args.self.bits c.requires.1 c.requires.2 }

-- ---- a turn
pub loop-count-preserved : goal.loop-count-preserved
loop-count-preserved c = emit-turn c.loop-count.invariant c.loop-count-test.true c.put.ensures

-- ---- after the loop
pub returns : goal.returns
returns c = emit-end c.requires.0 c.requires.1 c.requires.2 c.loop-count.invariant c.loop-count-test.false
