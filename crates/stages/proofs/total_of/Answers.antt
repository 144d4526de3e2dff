-- `total_of`: what the iterator sums. Assumes nothing.
use Rattle.std.proofs.Common.{rules, arith, ◌≡◌, ◌∙◌, sum}
use Rattle.stages.proofs.Walks.{sum-is, sum-most}
use Rattle.stages.proofs.total_of.Goals as goal

pub returns : goal.returns
returns c =
    let list = c.args.list.now in
    let total : c.sum.result ≡ sum list = search rules in
    (total ∙ sum-is list, omega (arith, total, sum-is list, sum-most list (λ k. search rules)))
