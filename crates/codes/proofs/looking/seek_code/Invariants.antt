-- The first `passed` lengths have been passed. Assumes nothing.
use Prim.Native.Nat.{◌-◌, ◌≤◌, ◌<◌}
use mathlib.Core.Path.{◌≡◌}
use lib.ListN.{length}
use Rattle.meaning.specs.Limits.{most_numbers}
use Rattle.codes.proofs.Seeks.{SeekingOn}
use Rattle.codes.proofs.looking.seek_code.Given as goal

abbrev pub invariant-loop-passed : goal.invariant-loop-passed
invariant-loop-passed l =
    SeekingOn l.code l.body l.runs l.n l.goal l.passed l.at l.done.number × (l.done.number ≤ l.n) × (l.goal < l.n) × (l.n ≤ most_numbers) ×
    (length l.lengths ≡ 32) × (l.runs ≤ l.n)

abbrev pub decreases-loop-passed : goal.decreases-loop-passed
decreases-loop-passed l = l.runs - l.passed
