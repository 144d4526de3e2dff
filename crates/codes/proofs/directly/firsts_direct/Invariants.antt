-- The numbers at the first places stand in work, looked up one by one. Assumes nothing.
use Rattle.meaning.specs.Direct.{look_direct}
use Rattle.codes.proofs.Lookings.{Laid}
use Rattle.codes.proofs.directly.firsts_direct.Given as goal

abbrev pub invariant-loop-number : goal.invariant-loop-number
invariant-loop-number l = Laid (look_direct l.body) l.to l.initial.work l.work l.number
