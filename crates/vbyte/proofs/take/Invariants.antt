-- `vbyte::take` meets its contract: numbers of one byte, and then each turn takes one number. Assumes nothing.
use Rattle.vbyte.proofs.Takes.{Onward}
use Rattle.vbyte.proofs.take.Given as goal

abbrev pub invariant-loop-i : goal.invariant-loop-i
invariant-loop-i l = Onward l.body l.left l.at l.first l.most l.initial.work l.ones l.initial.to.byte l.work l.i l.to.byte
