-- A full unit that was taken is one turn (`Units`). Assumes nothing.
use Rattle.groups.proofs.Taking.{Units}
use Rattle.groups.proofs.whole.take.Given as goal

abbrev pub invariant-loop-units : goal.invariant-loop-units
invariant-loop-units l = Units l.form l.body l.left l.at l.from.number l.initial.work l.work l.units l.next
