-- A control byte for every four numbers, and the data. Assumes nothing.
use native.Mathlib.Omega.{arith}
use Rattle.meaning.specs.Groups.{group_count}
use Rattle.words.proofs.DataBytes.{data-most}
use Rattle.groups.proofs.put.end_after.Goals as goal

pub overflow_add-result : goal.overflow_add-result
overflow_add-result c = omega (arith, data-most c.args.list.now)

pub returns : goal.returns
unfolding group_count
returns c = omega arith
