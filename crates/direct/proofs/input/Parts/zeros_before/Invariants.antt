-- `zeros_before` meets its contract: each turn counts one zero. Assumes nothing.
use Rattle.direct.proofs.Zeros.{Upto}
use Rattle.direct.proofs.input.Parts.zeros_before.Given as goal

abbrev pub invariant-loop-zeros : goal.invariant-loop-zeros
invariant-loop-zeros l = Upto l.self.body.now l.self.data_bytes l.end l.zeros
