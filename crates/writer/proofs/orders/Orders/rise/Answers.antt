-- `rise` has asked the lists below k. Assumes nothing.
use native.Mathlib.Omega.{arith}
use lib.ListN.{get_or}
use Rattle.std.proofs.Math.Nat.{add-sub_cancel_left}
use Rattle.writer.proofs.Turns.{rising-start, rising-within, rising-turn, rising-fail, rising-end}
use Rattle.writer.proofs.orders.Orders.rise.Goals as goal

pub loop-k-init : goal.loop-k-init
loop-k-init c = rising-start c.args.edition c.args.self.now

pub overflow_add-from : goal.overflow_add-from
overflow_add-from c = omega (arith, rising-within c.loop-k.invariant c.loop-k-test.true c.requires.0 c.requires.1)

pub returns-then-not-of_kind : goal.returns-then-not-of_kind
returns-then-not-of_kind c =
    let is = rw (add-sub_cancel_left c.loop-k.from (get_or c.args.self.now.counts.now c.loop-k.k 0)) at c.of_kind.ensures in
    rising-fail c.loop-k.invariant c.loop-k-test.true c.requires.0 is c.if-not-of_kind.true

pub loop-k-preserved : goal.loop-k-preserved
loop-k-preserved c =
    let is = rw (add-sub_cancel_left c.loop-k.from (get_or c.args.self.now.counts.now c.loop-k.k 0)) at c.of_kind.ensures in
    rising-turn c.loop-k.invariant c.loop-k-test.true c.requires.0 is c.if-not-of_kind.false

pub returns : goal.returns
returns c = rising-end c.loop-k.invariant c.loop-k-test.false

pub offset_bounds-self-from : goal.offset_bounds-self-from
offset_bounds-self-from c = omega (arith, rising-within c.loop-k.invariant c.loop-k-test.true c.requires.0 c.requires.1)

pub slice_bounds-of_kind-end : goal.slice_bounds-of_kind-end
slice_bounds-of_kind-end c = rising-within c.loop-k.invariant c.loop-k-test.true c.requires.0 c.requires.1
