-- `passed` numbers have been passed and added up, none of them at the place. Assumes nothing.
use Prim.Native.Nat.{◌-◌, ◌*◌, ◌^◌, ◌≤◌, ◌<◌}
use mathlib.Core.Path.{◌≡◌}
use lib.ListN.{length}
use Rattle.meaning.specs.Answer.{given}
use Rattle.meaning.specs.Codes.{code_of, look_code}
use Rattle.meaning.specs.Limits.{most_numbers, unit_places}
use Rattle.codes.specs.Firsts.{total}
use Rattle.codes.proofs.Lookings.{Looking}
use Rattle.codes.proofs.looking.total_code.Given as goal

abbrev pub invariant-loop-taken : goal.invariant-loop-taken
invariant-loop-taken l =
    Looking l.code l.body l.n l.passed l.at × (l.passed ≤ l.goal) × (l.goal < l.n) × (l.n ≤ most_numbers) × (length l.numbers ≡ 192) × (1 ≤ l.most) ×
    (l.most ≤ unit_places)
    × (total (look_code (code_of l.code) l.body l.n) l.passed ≡ given l.s) × (l.s ≤ l.passed * 2 ^ 32)

abbrev pub decreases-loop-taken : goal.decreases-loop-taken
decreases-loop-taken l = l.n - l.passed
