-- `sums_true` meets its contract: each turn adds a stretch's ones. Assumes nothing.
use Rattle.direct.proofs.Dones.{Adding}
use Rattle.direct.proofs.input.Parts.sums_true.Given as goal

abbrev pub invariant-loop-s : goal.invariant-loop-s
invariant-loop-s l = Adding l.self.body.now l.self.data_bytes l.ones l.s
