-- `good_end` goes on to a stage's last plan, which ends where the whole does; the stages that may come fall. Assumes nothing.
use Rattle.std.proofs.Common.{◌≡◌, ◌≤◌}
use Rattle.meaning.specs.Plan.{plan_at}
use Rattle.judge.specs.Stage.{good_end}
use Rattle.judge.proofs.tree.+good_end.Given as goal

abbrev pub decreases-good_end : goal.decreases-good_end
decreases-good_end l = l.stages

abbrev pub invariant-loop-next : goal.invariant-loop-next
invariant-loop-next l =
    (l.left ≤ l.stages) ×
    (good_end (plan_at l.left l.plan l.here.byte) l.here.byte ≡ good_end (plan_at l.initial.left l.plan l.initial.here.byte) l.initial.here.byte)

abbrev pub decreases-loop-next : goal.decreases-loop-next
decreases-loop-next l = l.left
