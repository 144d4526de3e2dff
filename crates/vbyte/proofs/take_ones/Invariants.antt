-- `vbyte::take_ones` meets its contract: each turn takes four numbers of one byte. Assumes nothing.
use Prim.Native.Nat.{◌-◌}
use Rattle.vbyte.specs.Numbers.{Ones}
use Rattle.vbyte.proofs.take_ones.Given as goal

abbrev pub invariant-loop-n : goal.invariant-loop-n
invariant-loop-n l = Ones l.body l.start l.most l.first l.initial.work l.work l.n

abbrev pub decreases-loop-n : goal.decreases-loop-n
decreases-loop-n l = l.limit - l.n
