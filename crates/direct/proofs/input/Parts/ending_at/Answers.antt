-- `ending_at` meets its contract: the zeros before its last byte say how many bytes the number has. Assumes nothing.
use mathlib.Core.Path.{◌∙◌}
use native.Mathlib.Numerals.{add-one}
use native.Mathlib.Omega.{arith}
use Rattle.meaning.specs.Direct.{flags, ending_at}
use Rattle.direct.proofs.Zeros.{before-few}
use Rattle.direct.proofs.input.Parts.ending_at.Goals as goal

pub overflow_sub-index : goal.overflow_sub-index
overflow_sub-index c = omega (arith, before-few (flags c.args.self.now.body.now) c.args.b.index c.zeros_before-zeros.ensures)

pub overflow_add-zeros : goal.overflow_add-zeros
overflow_add-zeros c = omega (arith, before-few (flags c.args.self.now.body.now) c.args.b.index c.zeros_before-zeros.ensures, c.requires)

pub number_in-requires : goal.number_in-requires
number_in-requires c = (omega arith, omega (arith, before-few (flags c.args.self.now.body.now) c.args.b.index c.zeros_before-zeros.ensures, c.requires))

pub returns : goal.returns
unfolding ending_at
returns c = c.number_in.ensures ∙ rw (c.zeros_before-zeros.ensures, add-one)
