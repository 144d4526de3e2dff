-- The numbers at the first places have been added up, one by one. Assumes nothing.
use Prim.Native.Nat.{◌*◌, ◌^◌, ◌≤◌}
use mathlib.Core.Path.{◌≡◌}
use Rattle.meaning.specs.Answer.{given}
use Rattle.meaning.specs.Direct.{look_direct}
use Rattle.codes.specs.Firsts.{total}
use Rattle.codes.proofs.directly.total_direct.Given as goal

abbrev pub invariant-loop-number : goal.invariant-loop-number
invariant-loop-number l = (total (look_direct l.body) l.number ≡ given l.s) × (l.s ≤ l.number * 2 ^ 32)
