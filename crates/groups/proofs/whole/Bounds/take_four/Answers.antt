-- A turn reads one number (`FourSo`). Assumes nothing.
use mathlib.Core.Path.{◌≡◌}
use native.Mathlib.Omega.{arith}
use borrow.Author.Rules.{rules}
use Rattle.groups.proofs.Taking.{four-turn, four-end}
use Rattle.groups.proofs.whole.Bounds.take_four.Goals as goal

pub loop-i-preserved : goal.loop-i-preserved
loop-i-preserved c = four-turn c.loop-i.invariant c.loop-i-test.true c.in_ok-numbers.ensures (omega arith)

pub returns : goal.returns
returns c =
    let is : c.copy_from_slice.new.self ≡ c.loop-i.numbers = search rules in
    rw is (four-end c.loop-i.invariant c.loop-i-test.false (omega arith))
