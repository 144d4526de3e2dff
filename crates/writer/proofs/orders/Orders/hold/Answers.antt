-- `hold` asks all that 11 does. Assumes nothing.
use mathlib.Core.Path.{sym, ◌∙◌}
use Rattle.writer.proofs.Holds.{hold-many, hold-rest}
use Rattle.writer.proofs.orders.Orders.hold.Goals as goal

pub returns-then-n-gt-MOST_COLUMNS : goal.returns-then-n-gt-MOST_COLUMNS
returns-then-n-gt-MOST_COLUMNS c = hold-many c.args.self.now c.if-n-gt-MOST_COLUMNS.true

pub returns-then-each_holds : goal.returns-then-each_holds
returns-then-each_holds c =
    let rest = hold-rest c.args.self.now c.if-self-n.false c.if-n-gt-MOST_COLUMNS.false c.if-self-n-2.false in
    rw c.total_of.ensures.0 (rw (sym c.each_holds.ensures ∙ c.if-each_holds.true) at rest)

pub returns-else-each_holds : goal.returns-else-each_holds
returns-else-each_holds c =
    let rest = hold-rest c.args.self.now c.if-self-n.false c.if-n-gt-MOST_COLUMNS.false c.if-self-n-2.false in
    c.if-each_holds.false ∙ rw (sym c.each_holds.ensures ∙ c.if-each_holds.false) at rest
