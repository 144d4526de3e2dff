-- `worst_direct` is the definition's sum. Assumes nothing.
use native.Mathlib.Omega.{arith}
use Rattle.meaning.specs.Direct.{worst_direct}
use Rattle.judge.proofs.tree.worst_direct.Goals as goal

pub returns : goal.returns
unfolding worst_direct
returns c = omega (arith)
