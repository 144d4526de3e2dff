-- `least_of`: one of the numbers, and none is below it. Assumes nothing.
use mathlib.Core.Path.{◌∙◌}
use Rattle.std.proofs.Common.{rules, length, ◌≡◌}
use Rattle.std.specs.Option.{MatchOption}
use Rattle.stages.proofs.Walks.{Lowest, least-is}
use Rattle.stages.proofs.least_of.Goals as goal

pub returns : goal.returns
returns c =
    let list = c.args.list.now in
    let low : MatchOption c.min.result (length list ≡ 0) (Lowest list) = search rules in
    c.unwrap_or.ensures ∙ least-is list c.min.result low
