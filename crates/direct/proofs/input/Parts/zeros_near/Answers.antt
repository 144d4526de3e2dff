-- `zeros_near` meets its contract: two bytes hold four bits from any bit of the first on. Assumes nothing.
use native.Mathlib.Omega.{arith}
use Rattle.direct.proofs.Plains.{near-inside, near-zeros}
use Rattle.direct.proofs.input.Parts.zeros_near.Goals as goal

pub number_at-requires : goal.number_at-requires
number_at-requires c = (omega arith, omega arith, near-inside c.args.self.now.fit c.args.self.now.small _ c.requires)

pub returns : goal.returns
returns c =
    let e = c.number_at.ensures in
    rw e (near-zeros c.args.self.now.fit c.args.self.now.small _ c.requires)
