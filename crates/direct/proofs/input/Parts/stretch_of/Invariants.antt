-- `stretch_of` meets its contract: each turn passes one sum. Assumes nothing.
use Rattle.direct.proofs.Looks.{Passing}
use Rattle.direct.proofs.input.Parts.stretch_of.Given as goal

abbrev pub invariant-loop-s : goal.invariant-loop-s
invariant-loop-s l = Passing l.self.body.now l.self.data_bytes l.goal l.ended l.s
