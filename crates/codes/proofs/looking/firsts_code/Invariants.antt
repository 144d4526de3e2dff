-- The numbers at the first `passed` places stand in work. Assumes nothing.
use Prim.Native.Nat.{◌-◌, ◌≤◌, ◌<◌}
use Rattle.meaning.specs.Codes.{code_of, look_code}
use Rattle.codes.specs.Firsts.{Space}
use Rattle.codes.proofs.Lookings.{Looking}
use Rattle.codes.proofs.Lookings.{Laid}
use Rattle.codes.proofs.looking.firsts_code.Given as goal

abbrev pub invariant-loop-passed : goal.invariant-loop-passed
invariant-loop-passed l =
    (l.passed < l.k → Looking l.code l.body l.n l.passed l.at) × Laid (look_code (code_of l.code) l.body l.n) l.to l.initial.work l.work l.passed ×
    (l.passed ≤ l.k) × Space l.body l.n l.k l.initial.work l.to

abbrev pub decreases-loop-passed : goal.decreases-loop-passed
decreases-loop-passed l = l.k - l.passed
