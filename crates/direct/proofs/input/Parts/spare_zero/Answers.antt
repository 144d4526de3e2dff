-- `spare_zero` meets its contract: the spare bits are those of the last byte of bits. Assumes nothing.
use native.Mathlib.Omega.{arith}
use Rattle.direct.proofs.Dones.{spare-none, spare-last}
use Rattle.direct.proofs.Fits.{standing}
use Rattle.direct.proofs.input.Parts.spare_zero.Goals as goal

pub returns-then-d-eq0 : goal.returns-then-d-eq0
returns-then-d-eq0 c = spare-none c.args.self.now.fit c.if-d-eq0.true

pub bounds-self-d : goal.bounds-self-d
bounds-self-d c = omega (arith, (standing c.args.self.now.fit).ends)

pub returns : goal.returns
returns c = spare-last c.args.self.now.fit c.if-d-eq0.false (c.args.self.now.small _)
