-- A turn puts one number, and tells its field (`FieldsSo`). Assumes nothing.
use Prim.Native.Nat.{◌-◌}
use native.Mathlib.Omega.{arith}
use lib.ListN.{get_or}
use Rattle.words.proofs.DataBytes.{held, data-most}
use Rattle.words.proofs.Puts.{put-few}
use Rattle.groups.proofs.Puts.{fields-start, fields-turn, fields-end, field-few}
use Rattle.groups.proofs.put.put_fielded.Goals as goal

pub loop-x-init : goal.loop-x-init
loop-x-init c = fields-start c.args.group.now c.args.at.byte c.args.out.now c.requires.0

pub put_fewest-end-requires : goal.put_fewest-end-requires
put_fewest-end-requires c = omega (arith, c.loop-x.invariant.left.ends, data-most c.args.group.now)

pub overflow_sub-field-in-loop-x : goal.overflow_sub-field-in-loop-x
overflow_sub-field-in-loop-x c = omega (arith, c.put_fewest-end.ensures.0, (held (get_or c.args.group.now c.loop-x.x-index 0)).least)

pub overflow_mul-fields : goal.overflow_mul-fields
overflow_mul-fields c =
    let field = c.put_fewest-end.result.byte - c.loop-x.to.byte - 1 in
    let few = field-few c.loop-x.invariant c.loop-x-test.true field (omega (arith, c.put_fewest-end.ensures.0)) in
    omega (arith, c.loop-x.invariant.small)

pub overflow_add-fields : goal.overflow_add-fields
overflow_add-fields c =
    let field = c.put_fewest-end.result.byte - c.loop-x.to.byte - 1 in
    let few = field-few c.loop-x.invariant c.loop-x-test.true field (omega (arith, c.put_fewest-end.ensures.0)) in
    omega (arith, c.loop-x.invariant.small, c.loop-x.invariant.low)

pub loop-x-preserved : goal.loop-x-preserved
loop-x-preserved c =
    let x = get_or c.args.group.now c.loop-x.x-index 0 in
    fields-turn c.loop-x.invariant c.loop-x-test.true (put-few x c.put_fewest-end.ensures) (omega (arith, c.put_fewest-end.ensures.0))

pub returns : goal.returns
returns c = fields-end c.loop-x.invariant c.loop-x-test.false
