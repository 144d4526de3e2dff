-- What is still to be put, put from the next position on, makes the whole (`Lays`). Assumes nothing.
use mathlib.Core.Path.{◌∙◌}
use native.Mathlib.Omega.{arith}
use Prim.Native.Nat.{◌≤◌}
use lib.ListN.{length}
use Rattle.meaning.specs.Limits.{unit_places}
use Rattle.leaves.proofs.Putting.{wrote-past}
use Rattle.groups.proofs.Steps.{count-is}
use Rattle.groups.proofs.Pieces.{none_left}
use Rattle.groups.proofs.Puts.{fields-low, fields-as, size_is, lays-start, lays-turn, lays-end, lays-room}
use Rattle.groups.proofs.put.write.Goals as goal

pub returns-then-out-at : goal.returns-then-out-at
returns-then-out-at c = wrote-past c.if-out-at.true (omega (arith, c.end_after.ensures, size_is c.args.form c.args.list.now))

pub loop-group-init : goal.loop-group-init
loop-group-init c =
    let list = c.args.list.now in
    rw (c.into_iter-group-iterator.ensures.into_iter_gives) (
      rw (c.chunks-group-items.ensures.rest, c.first-next.ensures)
          (lays-start c.args.form list c.args.at.byte c.div_ceil.result c.args.out.now (count-is (length list) c.div_ceil.ensures)),
      c.chunks-group-items.ensures.size ∙ c.most.ensures.0,
    )

pub data-requires : goal.data-requires
data-requires c =
    (lays-room c.args.form c.loop-group.invariant.0 c.requires _ (omega (arith, c.in-Some.ensures.steps, c.most.ensures)) c.div_ceil-bytes.ensures).0

pub put_fielded-laid-requires : goal.put_fielded-laid-requires
put_fielded-laid-requires c =
    let n = length c.in-Some.group.now in
    let few : n ≤ unit_places = omega (arith, c.in-Some.ensures.steps, c.most.ensures) in
    (few, rw c.data.ensures (lays-room c.args.form c.loop-group.invariant.0 c.requires n few c.div_ceil-bytes.ensures).1)

pub fields-requires : goal.fields-requires
fields-requires c = fields-low c.put_fielded-laid.ensures

pub put_number-requires : goal.put_number-requires
put_number-requires c =
    (lays-room c.args.form c.loop-group.invariant.0 c.requires _ (omega (arith, c.in-Some.ensures.steps, c.most.ensures)) c.div_ceil-bytes.ensures).0

pub next-next-requires : goal.next-next-requires
next-next-requires c =
    (lays-room c.args.form c.loop-group.invariant.0 c.requires _ (omega (arith, c.in-Some.ensures.steps, c.most.ensures)) c.div_ceil-bytes.ensures).0

pub loop-group-preserved : goal.loop-group-preserved
loop-group-preserved c =
    let form = c.args.form in
    let group = c.in-Some.group.now in
    let (size, (split, many, some)) = c.in-Some.ensures.steps in (
      rw c.next-next.ensures
          (lays-turn form group _ c.loop-group.invariant.0 split (omega (arith, many, c.loop-group.invariant.1)) some
          (count-is (length group) c.div_ceil-bytes.ensures) (c.fields.ensures ∙ fields-as form c.put_fielded-laid.ensures)
          (rw c.data.ensures at c.put_fielded-laid.ensures) c.put_number.ensures),
      size ∙ c.loop-group.invariant.1,
    )

pub data-requires-2 : goal.data-requires-2
data-requires-2 c = (lays-room c.args.form c.loop-group.invariant.0 c.requires 0 (omega arith) (omega arith)).0

pub returns : goal.returns
returns c = lays-end c.args.form c.loop-group.invariant.0 (none_left _ c.in-None.ensures.steps.1.0) c.data-2.ensures
