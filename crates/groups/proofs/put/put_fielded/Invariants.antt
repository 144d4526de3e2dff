-- A turn puts one number, and tells its field (`FieldsSo`). Assumes nothing.
use Rattle.groups.proofs.Puts.{FieldsSo}
use Rattle.groups.proofs.put.put_fielded.Given as goal

abbrev pub invariant-loop-x : goal.invariant-loop-x
invariant-loop-x l = FieldsSo l.group l.initial.to.byte l.initial.out l.out l.to.byte l.fields l.scale l.x-index
