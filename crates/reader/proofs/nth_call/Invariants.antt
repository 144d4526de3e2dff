-- The loop's invariant: r stands where i calls leave a reader just opened. Assumes nothing.
use Rattle.std.proofs.Common.{◌≡◌}
use Rattle.reader.specs.Steps.{opened, after, standing}
use Rattle.reader.proofs.nth_call.Given as goal

abbrev pub invariant-loop-i : goal.invariant-loop-i
invariant-loop-i l = standing l.r ≡ after l.i (opened l.sheet l.column)
