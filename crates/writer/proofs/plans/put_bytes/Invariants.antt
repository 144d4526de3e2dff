-- Putting the bytes that are left makes the whole. Assumes nothing.
use Rattle.std.proofs.Common.{◌≡◌, ◌+◌, drop}
use Rattle.std.proofs.lemmas.List.Edits.{sets}
use Rattle.writer.proofs.plans.put_bytes.Given as goal

abbrev pub invariant-loop-i : goal.invariant-loop-i
invariant-loop-i l = sets l.out (l.start + l.i) (drop l.i l.bytes) ≡ sets l.initial.out l.start l.bytes
