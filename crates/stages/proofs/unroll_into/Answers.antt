-- `unroll_into`: all runs are spread, and make all numbers. Assumes nothing.
use Rattle.std.proofs.Common.{◌+◌, sym, ap, ◌∙◌}
use Rattle.meaning.specs.Lists.{differ}
use Rattle.meaning.specs.Places.{part}
use Rattle.stages.proofs.Parts.{part-lent}
use Rattle.stages.proofs.Unrolls.{unrolled-same, unrolled-left, unrolled-short, unrolled-whole}
use Rattle.stages.proofs.unroll_into.Goals as goal

pub returns-then-not-differs_in : goal.returns-then-not-differs_in
returns-then-not-differs_in c =
    let a = c.args in
    unrolled-same (part a.work.now (a.from.number + a.n) a.k) _ a.n a.from.number a.work.now
    (ap differ (sym (part-lent a.work.now (a.from.number + a.n) a.k)) ∙ sym c.differs_in.ensures ∙ c.if-not-differs_in.true)

pub returns-then-laid-k : goal.returns-then-laid-k
returns-then-laid-k c = unrolled-left c.args.k c.requires.0 c.requires.1 c.spread-laid.ensures c.if-laid-k.true

pub returns-then-laid-n : goal.returns-then-laid-n
returns-then-laid-n c = unrolled-short c.args.k c.requires.0 c.requires.1 c.spread-laid.ensures c.if-laid-k.false c.if-laid-n.true

pub returns : goal.returns
returns c =
    let a = c.args in
    unrolled-whole a.k c.requires.0 c.requires.1 c.spread-laid.ensures c.if-laid-k.false c.if-laid-n.false
    (ap differ (sym (part-lent a.work.now (a.from.number + a.n) a.k)) ∙ sym c.differs_in.ensures ∙ c.if-not-differs_in.false)
