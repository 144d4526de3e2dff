-- `runs_into`: what is still to be stored, stored from here, is the whole. Assumes nothing.
use Rattle.stages.proofs.RunLoop.{running_none, running-start, running-same, running-next, running-end}
use Rattle.stages.proofs.runs_into.Goals as goal
use Rattle.stages.proofs.runs_into.Goals.{then-x-v, else-x-v}

pub returns-then-n-eq0 : goal.returns-then-n-eq0
returns-then-n-eq0 c = running_none c.args.n c.requires.0 c.if-n-eq0.true

pub loop-i-init : goal.loop-i-init
loop-i-init c = running-start c.requires.0 c.if-n-eq0.false

pub loop-i-preserved : goal.loop-i-preserved
loop-i-preserved c =
    elim c.if-x-v.branch [
      | then-x-v w ↦ rw (w.work-is, w.v-is, w.k-is, w.j-is) (running-same c.loop-i.invariant c.loop-i-test.true w.if-x-v.true)
      | else-x-v w ↦ rw (w.work-is, w.v-is, w.k-is, w.j-is) (running-next c.loop-i.invariant c.loop-i-test.true w.if-x-v.false)
    ]

pub returns : goal.returns
returns c = running-end c.loop-i.invariant c.loop-i-test.false
