-- The first `number` runs have been passed, length by length. Assumes nothing.
use Prim.Native.Nat.{◌-◌, ◌≤◌}
use mathlib.Core.Path.{◌≡◌}
use Rattle.meaning.specs.Direct.{look_direct}
use Rattle.meaning.specs.Stages.{seek}
use Rattle.codes.proofs.directly.seek_direct.Given as goal

abbrev pub invariant-loop-number : goal.invariant-loop-number
invariant-loop-number l = (seek (look_direct l.body) l.n l.goal l.runs 0 0 ≡ seek (look_direct l.body) l.n l.goal (l.runs - l.number) l.number l.done)
    × (l.done ≤ l.goal)
