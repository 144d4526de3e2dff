-- What is still to be written, written from here on, makes the whole. Assumes nothing.
use Rattle.std.proofs.Common.{drop}
use Rattle.meaning.specs.Lists.{joined}
use Rattle.meaning.specs.VByte.{vbyte}
use Rattle.leaves.proofs.Putting.{Left}
use Rattle.vbyte.proofs.write.Given as goal

abbrev pub invariant-loop-x : goal.invariant-loop-x
invariant-loop-x l = Left (joined vbyte l.list) l.initial.to.byte l.initial.out (joined vbyte (drop l.x-index l.list)) l.out l.to.byte
