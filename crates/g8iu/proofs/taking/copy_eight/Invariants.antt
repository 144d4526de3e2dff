-- `copy_eight` stores one element after another (`Eights`). Assumes nothing.
use Rattle.g8iu.proofs.Eights.{EightSo}
use Rattle.g8iu.proofs.taking.copy_eight.Given as goal

abbrev pub invariant-loop-i : goal.invariant-loop-i
invariant-loop-i l = EightSo l.list l.source l.initial.out l.first l.out l.i
