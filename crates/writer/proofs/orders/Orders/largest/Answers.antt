-- `largest`: one of the counts, and none is above it. Assumes nothing.
use mathlib.Core.Path.{◌≡◌, ◌∙◌}
use native.Mathlib.Omega.{arith}
use lib.ListN.{length}
use Rattle.std.proofs.Common.{rules}
use Rattle.std.specs.Option.{MatchOption}
use Rattle.writer.proofs.Sums.{Highest, largest-is}
use Rattle.writer.proofs.orders.Orders.largest.Goals as goal

pub returns : goal.returns
returns c =
    let counts = c.args.self.now.counts.now in
    let high : MatchOption c.max.result (length counts ≡ 0) (Highest counts) = search rules in
    (c.unwrap_or.ensures ∙ largest-is counts c.max.result high, omega arith)
