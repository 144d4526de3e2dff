-- A sum is put where a number's bytes reach the end of a stretch. Assumes nothing.
use Rattle.direct.proofs.Sums.{SumSo}
use Rattle.direct.proofs.output.put_sums.Given as goal

abbrev pub invariant-loop-i : goal.invariant-loop-i
invariant-loop-i l = SumSo l.list l.initial.to l.initial.out l.out l.to l.count l.i
