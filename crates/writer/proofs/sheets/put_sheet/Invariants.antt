-- `put_sheet` has laid the columns below k. Assumes nothing.
use Rattle.writer.proofs.Passes.{Passing}
use Rattle.writer.proofs.sheets.put_sheet.Given as goal

abbrev pub invariant-loop-k : goal.invariant-loop-k
invariant-loop-k l = Passing l.edition l.orders l.initial.work l.initial.out l.n l.work l.out l.at.byte l.from l.k
