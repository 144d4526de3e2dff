-- Each mask that is taken is one turn (`TakesBatch`). Assumes nothing.
use Prim.Native.Nat.{◌+◌, ◌*◌, ◌-◌}
use mathlib.Core.Path.{◌≡◌, refl}
use native.Mathlib.Omega.{arith}
use borrow.Author.Rules.{rules}
use Rattle.meaning.proofs.Stores.{mid-sets}
use Rattle.groups.proofs.Taking.{batch-long, batch-turn, batch-end}
use Rattle.groups.proofs.whole.Bounds.take_batch.Goals as goal

pub loop-i-preserved : goal.loop-i-preserved
loop-i-preserved c =
    let first = 4 * c.loop-i.i in
    let long = batch-long c.loop-i.invariant in
    batch-turn c.loop-i.invariant c.loop-i-test.true refl c.in_ok-to.ensures (search rules)
    (mid-sets c.loop-i.batch c.take_four.new.four first (first + 4 - first) (search rules) (omega arith))

pub returns : goal.returns
returns c =
    let is : c.copy_from_slice.new.self ≡ c.loop-i.batch = search rules in
    rw is (batch-end c.loop-i.invariant c.args.at (omega arith) c.loop-i-test.false refl c.next.ensures)
