-- What was taken, and then the unit. Assumes nothing.
use native.Mathlib.Omega.{arith}
use Rattle.codes.proofs.stretch.stretch.Goals as goal

pub or_unit-requires : goal.or_unit-requires
or_unit-requires c = (record { inside = omega (arith, c.requires.0.inside); short = c.requires.0.short }, c.requires.1)

pub returns : goal.returns
returns c = c.or_unit.ensures _ c.take_units-plain.ensures
