-- `take_plain` meets its contract: each turn takes one plain number (`Plains`). Assumes nothing.
use Rattle.direct.proofs.Plains.{Plainly}
use Rattle.direct.proofs.input.Parts.take_plain.Given as goal

abbrev pub invariant-loop-i : goal.invariant-loop-i
invariant-loop-i l =
    Plainly l.self.body.now l.self.data_bytes l.left l.at l.initial.work l.initial.i l.initial.to l.from.number l.data l.end l.most l.work l.i l.to
