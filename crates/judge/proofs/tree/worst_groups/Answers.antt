-- `worst_groups` is the definition's sum. Assumes nothing.
use native.Mathlib.Omega.{arith}
use Rattle.meaning.specs.Groups.{group_count}
use Rattle.judge.proofs.tree.worst_groups.Goals as goal

pub returns : goal.returns
unfolding group_count
returns c = omega (arith)
