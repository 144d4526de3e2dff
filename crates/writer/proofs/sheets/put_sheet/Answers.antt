-- `put_sheet` has laid the columns below k. Assumes nothing.
use mathlib.Core.Path.{refl, ◌∙◌}
use native.Mathlib.Omega.{arith}
use Prim.Native.Nat.{◌*◌}
use lib.ListN.{length, get_or}
use Rattle.std.proofs.Math.Nat.{add-sub_cancel_left}
use Rattle.meaning.specs.Limits.{plan_bytes}
use Rattle.table.proofs.Slots.{slot_small}
use Rattle.writer.proofs.Passes.{passing-start, passing-list, passing-adds, passing-turn, passing-over, passing-end}
use Rattle.writer.proofs.sheets.put_sheet.Goals as goal

-- ---- before the loop
pub entry_start-at-requires : goal.entry_start-at-requires
entry_start-at-requires c = omega (arith, c.requires.0.few, slot_small c.args.edition (length c.args.orders.now.kinds.now))

pub loop-k-init : goal.loop-k-init
loop-k-init c = passing-start c.requires.0 c.entry_start-at.ensures

-- ---- a turn
pub offset_bounds-orders-from : goal.offset_bounds-orders-from
offset_bounds-orders-from c = omega (arith, passing-adds c.loop-k.invariant c.requires.0 c.loop-k-test.true)

pub slice_bounds-copy_list-end : goal.slice_bounds-copy_list-end
slice_bounds-copy_list-end c = passing-list c.loop-k.invariant c.requires.0 c.loop-k-test.true

pub returns-then-at-gt-MOST_BYTES : goal.returns-then-at-gt-MOST_BYTES
returns-then-at-gt-MOST_BYTES c =
    let plan = rw (add-sub_cancel_left (plan_bytes * c.loop-k.k) plan_bytes) at c.used_plan-plan.ensures in
    let list = rw (add-sub_cancel_left c.loop-k.from (get_or c.args.orders.now.counts.now c.loop-k.k 0)) at c.copy_list.ensures in
    passing-over c.loop-k.invariant c.requires.0 c.loop-k-test.true c.requires.1 plan list c.put_column-at.ensures c.if-at-gt-MOST_BYTES.true

pub overflow_add-from : goal.overflow_add-from
overflow_add-from c = omega (arith, passing-adds c.loop-k.invariant c.requires.0 c.loop-k-test.true)

pub loop-k-preserved : goal.loop-k-preserved
loop-k-preserved c =
    let plan = rw (add-sub_cancel_left (plan_bytes * c.loop-k.k) plan_bytes) at c.used_plan-plan.ensures in
    let list = rw (add-sub_cancel_left c.loop-k.from (get_or c.args.orders.now.counts.now c.loop-k.k 0)) at c.copy_list.ensures in
    passing-turn c.loop-k.invariant c.requires.0 c.loop-k-test.true c.requires.1 plan list c.put_column-at.ensures c.entry_start-slot.ensures
    c.if-at-gt-MOST_BYTES.false (c.put_column-at.auto.work ∙ c.copy_list.auto.out) c.put_column-at.auto.out

-- ---- after the loop
pub returns : goal.returns
returns c = passing-end c.loop-k.invariant c.loop-k-test.false c.put.ensures refl c.put-2.ensures
