-- `passed` numbers have been passed, none of them at the place. Assumes nothing.
use Prim.Native.Nat.{◌-◌, ◌≤◌, ◌<◌}
use mathlib.Core.Path.{◌≡◌}
use lib.ListN.{length}
use Rattle.meaning.specs.Limits.{most_numbers, unit_places}
use Rattle.codes.proofs.Lookings.{Looking}
use Rattle.codes.proofs.looking.lookup_code.Given as goal

abbrev pub invariant-loop-taken : goal.invariant-loop-taken
invariant-loop-taken l = Looking l.code l.body l.n l.passed l.at × (l.passed ≤ l.goal) × (l.goal < l.n) × (l.n ≤ most_numbers) ×
    (length l.numbers ≡ 128) × (1 ≤ l.most) × (l.most ≤ unit_places)

abbrev pub decreases-loop-taken : goal.decreases-loop-taken
decreases-loop-taken l = l.n - l.passed
