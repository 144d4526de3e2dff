-- The bits of a number wait until they fill a byte, which is then put. Assumes nothing.
use Prim.Native.Nat.{◌<◌}
use Rattle.direct.proofs.Flags.{FlagSo}
use Rattle.direct.proofs.output.put_flags.Given as goal

abbrev pub invariant-loop-x : goal.invariant-loop-x
invariant-loop-x l = (l.count < 8) × FlagSo l.list l.initial.to l.initial.out l.out l.to l.wait l.count l.x-index
