-- `clear` meets its contract: the bit by its byte. Assumes nothing.
use Prim.Native.Nat.{ℕ}
use mathlib.Core.Path.{sym, ap}
use native.Mathlib.Omega.{arith}
use lib.Dec.{eqb}
use Rattle.direct.proofs.Fits.{standing, flag-get}
use Rattle.direct.proofs.input.Parts.clear.Goals as goal

pub bounds-self-bit : goal.bounds-self-bit
bounds-self-bit c = omega (arith, (standing c.args.self.now.fit).ends, c.requires)

pub returns : goal.returns
returns c = ap (λ (b : ℕ). eqb b 0) (sym (flag-get c.args.self.now.fit _ c.requires))
