-- `vbyte::last` meets its contract: the test is the definition's. Assumes nothing.
use borrow.Author.Tests.{eq-eqb, ne_eqb}
use Rattle.vbyte.proofs.last.Goals as goal

pub returns-then-b-eq0 : goal.returns-then-b-eq0
returns-then-b-eq0 c = rw (eq-eqb c.args.b 0 c.if-b-eq0.true)

pub returns : goal.returns
returns c = rw (ne_eqb c.args.b 0 c.if-b-eq0.false)
