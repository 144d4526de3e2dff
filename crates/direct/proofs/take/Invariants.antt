-- `take` meets its contract: after the plain numbers each turn takes one. Assumes nothing.
use Rattle.direct.proofs.Nexts.{Onward}
use Rattle.direct.proofs.take.Given as goal

abbrev pub invariant-loop-i : goal.invariant-loop-i
invariant-loop-i l = Onward l.parts.body.now l.parts.data_bytes l.left l.at l.first l.most l.initial.work l.initial.i l.initial.to.index l.work l.i l.to.index
