-- A full unit that was taken is one turn (`Units`). Assumes nothing.
use Prim.Native.Nat.{◌+◌, ◌-◌, ◌*◌, ◌/◌}
use mathlib.Core.Path.{ap₂}
use native.Mathlib.Omega.{arith}
use borrow.Author.Rules.{rules}
use Rattle.meaning.proofs.Stores.{mid-sets}
use Rattle.groups.proofs.Taking.{full, units-start, units-turn, one-more}
use Rattle.groups.proofs.whole.take.Goals as goal

pub loop-units-init : goal.loop-units-init
loop-units-init c = rw c.used-next.ensures (units-start c.args.form)

pub loop-units-preserved : goal.loop-units-preserved
loop-units-preserved c =
    let form = c.args.form in
    let most = c.most-most.ensures.0 in
    let fits = one-more form c.args.left c.args.room (ap₂ ◌/◌ c.min.ensures most) c.loop-units-test.true in
    let first = c.args.from.number + full form * c.loop-units.units in
    units-turn form c.loop-units.invariant (omega arith) c.in-Some.ensures (search rules)
    (rw most (mid-sets c.loop-units.work c.take_unit.new.places first (first + full form - first) (omega arith) (omega arith)))
