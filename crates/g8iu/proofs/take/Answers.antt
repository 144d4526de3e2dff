-- `take` takes block after block as long as they are plain (`Takes`). Assumes nothing.
use Rattle.g8iu.proofs.Takes.{going_start, going_end, going-asks, going-spare, going-fault, going_less, going-turn}
use Rattle.g8iu.proofs.take.Goals as goal
use Rattle.g8iu.proofs.take.Goals.{else-loop-next-test, then-loop-next-test+in_default, then-loop-next-test+in-Some+in_default-take_ends}

pub loop-next-init : goal.loop-next-init
loop-next-init c = going_start (λ i. (c.type_inv.body i).fits) c.requires c.min.ensures c.saturating_sub.ensures

pub take_ends-requires : goal.take_ends-requires
take_ends-requires c = going-asks c.loop-next.invariant c.loop-next-test.true c.in-Some.ensures

pub overflow_sub-spare : goal.overflow_sub-spare
overflow_sub-spare c = going-spare c.loop-next.invariant c.loop-next-test.true c.in-Some.ensures

pub loop-next-smaller : goal.loop-next-smaller
loop-next-smaller c = going_less c.loop-next.invariant c.loop-next-test.true c.in-Some.ensures c.take_ends.ensures c.in-Some-take_ends.is

pub loop-next-preserved : goal.loop-next-preserved
loop-next-preserved c = going-turn c.loop-next.invariant c.loop-next-test.true c.in-Some.ensures c.take_ends.ensures c.in-Some-take_ends.is

pub returns : goal.returns
returns c =
    let so = c.loop-next.invariant in
    let end = rw c.from.ensures at c.taken.ensures in
    elim c.loop-next-test.branch [
      | else-loop-next-test w ↦ rw w.work-is (going_end so end)
      | then-loop-next-test+in_default w ↦ rw w.work-is (going_end so end)
      | then-loop-next-test+in-Some+in_default-take_ends w ↦
          rw w.work-is (going_end (going-fault so w.loop-next-test.true w.in-Some.ensures w.take_ends.ensures w.in_default-take_ends.is) end)
    ]
