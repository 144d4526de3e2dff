-- `write` has taken apart the orders before i. Assumes nothing.
use Prim.Native.Nat.{◌+◌, ◌-◌, ◌*◌, ◌≤◌}
use mathlib.Core.Path.{◌≡◌, refl, ◌∙◌}
use lib.ListN.{length, length-map}
use Rattle.std.proofs.Math.Nat.{add-sub_cancel_left}
use Rattle.meaning.specs.Limits.{plan_bytes}
use Rattle.meaning.proofs.Stores.{mid-sets}
use Rattle.leaves.proofs.Parts.{part_length}
use native.Mathlib.Omega.{arith}
use Rattle.orders.specs.Orders.{order_says}
use Rattle.orders.proofs.Taken.{refuse-many, apart-start, apart-turn, apart-writes}
use Rattle.orders.proofs.write.Goals as goal

pub returns-then-n-gt-MOST_COLUMNS : goal.returns-then-n-gt-MOST_COLUMNS
returns-then-n-gt-MOST_COLUMNS c = refuse-many _ _ _ _ _ (omega (arith, length-map c.args.orders.now order_says))

pub loop-i-init : goal.loop-i-init
loop-i-init c = apart-start _ _ _ _ c.if-n-gt-MOST_COLUMNS.false refl refl refl

pub loop-i-preserved : goal.loop-i-preserved
loop-i-preserved c =
    let so = c.loop-i.invariant in
    let at = plan_bytes * c.loop-i.i in
    let fits : at + plan_bytes ≤ length c.loop-i.plans = omega (arith, so.plans-long, so.few, c.loop-i-test.true) in
    let whole : length c.copy_from_slice.new.self ≡ plan_bytes =
    rw (add-sub_cancel_left at plan_bytes) at c.copy_from_slice.ensures.len ∙ part_length c.loop-i.plans at plan_bytes fits in
    let o = c.copy_from_slice.ensures.after in
    rw (mid-sets c.loop-i.plans c.copy_from_slice.new.self at (at + plan_bytes - at) (omega arith) (omega arith), o)
    (apart-turn so c.loop-i-test.true _ (rw o at whole))

pub returns : goal.returns
returns c =
    let e : c.loop-i.i ≡ length c.args.orders.now = omega arith in
    apart-writes (rw e at c.loop-i.invariant) c.args.edition c.args.joined.now c.args.work.now c.args.out.now c.write.new.out c.write.result c.write.ensures
