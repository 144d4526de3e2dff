-- `sum_up`: all sums are stored. Assumes nothing.
use Rattle.stages.proofs.Raises.{sum_over, sum-whole}
use Rattle.stages.proofs.sum_up.Goals as goal

pub returns-then-sum_firsts-n : goal.returns-then-sum_firsts-n
returns-then-sum_firsts-n c = sum_over c.requires c.sum_firsts.ensures c.if-sum_firsts-n.true

pub returns : goal.returns
returns c = sum-whole c.requires c.sum_firsts.ensures c.if-sum_firsts-n.false
