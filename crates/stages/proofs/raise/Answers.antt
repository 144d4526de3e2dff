-- `raise`: all sums are stored, and the reference is the least. Assumes nothing.
use Rattle.std.proofs.Common.{ap, ◌∙◌}
use Rattle.meaning.specs.Stages.{least}
use Rattle.stages.proofs.Parts.{part-lent}
use Rattle.stages.proofs.Raises.{raise-over, raise-low, raise-whole}
use Rattle.stages.proofs.raise.Goals as goal

pub returns-then-raise_firsts-n : goal.returns-then-raise_firsts-n
returns-then-raise_firsts-n c = raise-over c.requires c.args.m c.raise_firsts.ensures c.if-raise_firsts-n.true

pub returns-then-least_of-m : goal.returns-then-least_of-m
returns-then-least_of-m c =
    raise-whole c.requires c.args.m c.raise_firsts.ensures c.if-raise_firsts-n.false
    (c.least_of.ensures ∙ ap least (part-lent c.raise_firsts.new.work c.args.from.number c.args.n)) c.if-least_of-m.true

pub returns : goal.returns
returns c =
    raise-low c.requires c.args.m c.raise_firsts.ensures c.if-raise_firsts-n.false
    (c.least_of.ensures ∙ ap least (part-lent c.raise_firsts.new.work c.args.from.number c.args.n)) c.if-least_of-m.false
