-- `zeros_from` meets its contract: each turn counts one zero. Assumes nothing.
use Rattle.direct.proofs.Zeros.{From}
use Rattle.direct.proofs.input.Parts.zeros_from.Given as goal

abbrev pub invariant-loop-zeros : goal.invariant-loop-zeros
invariant-loop-zeros l = From l.self.body.now l.self.data_bytes l.i.index l.zeros
