-- `take_ones` meets its contract: each turn takes eight numbers of one byte (`Ones`). Assumes nothing.
use Prim.Native.Nat.{◌-◌}
use Rattle.direct.proofs.Ones.{OnesSo}
use Rattle.direct.proofs.input.Parts.take_ones.Given as goal

abbrev pub invariant-loop-n : goal.invariant-loop-n
invariant-loop-n l = OnesSo l.self.body.now l.self.data_bytes l.left l.at l.initial.work l.first l.data l.limit l.most l.work l.n l.to

abbrev pub decreases-loop-n : goal.decreases-loop-n
decreases-loop-n l = l.limit - l.n
