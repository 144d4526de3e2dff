-- What is still to be put, put from the next position on, makes the whole (`Lays`). Assumes nothing.
use mathlib.Core.Path.{◌≡◌}
use Rattle.std.specs.Slice.Iter.{chunks_rest, chunks_size}
use Rattle.groups.specs.Layouts.{layout_of}
use Rattle.groups.proofs.Puts.{Lays}
use Rattle.groups.proofs.put.write.Given as goal

abbrev pub invariant-loop-group : goal.invariant-loop-group
invariant-loop-group l =
    Lays l.form l.list l.fn.at.byte l.initial.out (chunks_rest l.group-iterator) l.out l.next
    × (chunks_size l.group-iterator ≡ (layout_of l.form).group.most)
