-- The group's data is there before its first turn, and each field that is read is one turn (`Reads`). Assumes nothing.
use Rattle.groups.specs.Layouts.{layout_of}
use Rattle.groups.proofs.Steps.{Reads}
use Rattle.groups.proofs.group.unit.Given as goal

abbrev pub invariant-loop-i : goal.invariant-loop-i
invariant-loop-i l = Reads (layout_of l.form) l.body l.left l.at l.count l.i l.control l.to l.numbers
