-- `stretch_of` meets its contract: each turn passes one sum. Assumes nothing.
use Rattle.meaning.specs.Direct.{sum_count}
use Rattle.direct.proofs.Looks.{passing-start, passing-here, passing-turn, passing-end}
use Rattle.direct.proofs.input.Parts.stretch_of.Goals as goal

pub loop-s-init : goal.loop-s-init
loop-s-init c = passing-start c.args.self.now.fit _

pub sum_at-through-requires : goal.sum_at-through-requires
unfolding sum_count
sum_at-through-requires c = c.loop-s-test.true

pub returns-then-goal-through : goal.returns-then-goal-through
returns-then-goal-through c = passing-here c.loop-s.invariant c.loop-s-test.true c.sum_at-through.ensures c.if-goal-through.true

pub loop-s-preserved : goal.loop-s-preserved
loop-s-preserved c = passing-turn c.loop-s.invariant c.loop-s-test.true c.sum_at-through.ensures c.if-goal-through.false

pub returns : goal.returns
returns c = passing-end c.loop-s.invariant c.loop-s-test.false
