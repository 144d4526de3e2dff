-- The data stands after the sums. Assumes nothing.
use native.Mathlib.Omega.{arith}
use Rattle.meaning.specs.Direct.{flag_bytes, sum_count, sums_at, data_at}
use Rattle.direct.proofs.input.data_at.Goals as goal

pub overflow_add-result : goal.overflow_add-result
unfolding sums_at flag_bytes
overflow_add-result c = omega (arith, c.sums_at.ensures)

pub returns : goal.returns
unfolding data_at sum_count
returns c = omega (arith, c.sums_at.ensures)
