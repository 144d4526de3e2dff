-- A turn adds one field's length (`Summed`). Assumes nothing.
use Rattle.groups.specs.Layouts.{layout_of}
use Rattle.groups.proofs.Steps.{Summed}
use Rattle.groups.proofs.group.Form.data_size.Given as goal

abbrev pub invariant-loop-i : goal.invariant-loop-i
invariant-loop-i l = Summed (layout_of l.self).group l.count l.fields l._i l.rest l.size
