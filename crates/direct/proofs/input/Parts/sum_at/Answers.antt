-- `sum_at` meets its contract: a stretch's two bytes lie between the bits and the data. Assumes nothing.
use mathlib.Core.Path.{◌∙◌}
use native.Mathlib.Omega.{arith}
use Rattle.meaning.specs.Direct.{flag_bytes, sum_count, sums_at, sum_at}
use Rattle.direct.proofs.Fits.{standing, data-few}
use Rattle.direct.proofs.input.Parts.sum_at.Goals as goal

pub sums_at-requires : goal.sums_at-requires
sums_at-requires c = omega (arith, data-few c.args.self.now.fit c.args.self.now.small)

pub overflow_mul-byte : goal.overflow_mul-byte
unfolding sum_count
overflow_mul-byte c = omega (arith, data-few c.args.self.now.fit c.args.self.now.small, c.requires)

pub overflow_add-byte : goal.overflow_add-byte
unfolding sums_at flag_bytes sum_count
overflow_add-byte c = omega (arith, data-few c.args.self.now.fit c.args.self.now.small, c.requires, c.sums_at.ensures)

pub number_at-requires : goal.number_at-requires
unfolding sums_at flag_bytes sum_count
number_at-requires c = (omega arith, omega arith, omega (arith, (standing c.args.self.now.fit).ends, c.requires, c.sums_at.ensures))

pub returns : goal.returns
unfolding sum_at
returns c = c.number_at.ensures ∙ rw (c.sums_at.ensures, c.args.self.now.fit.is)
