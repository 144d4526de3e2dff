-- The group's data is there before its first turn, and each field that is read is one turn (`Reads`). Assumes nothing.
use mathlib.Core.Path.{sym, ◌∙◌}
use native.Mathlib.Omega.{arith}
use Rattle.groups.specs.Layouts.{layout_of}
use Rattle.groups.proofs.Steps.{count-is, begun, reads_none, reads-cut, reads-start, reads-fits, reads-long, reads-turn, reads-used, reads_end, as-unit}
use Rattle.groups.proofs.group.unit.Goals as goal

pub returns-then-saturating_sub-bytes : goal.returns-then-saturating_sub-bytes
returns-then-saturating_sub-bytes c =
    let a = c.args in
    as-unit a.form a.body.now a.left a.at
    (reads_none (layout_of a.form) a.body.now a.left a.at c.most.ensures.0 c.min-count.ensures c.div_ceil-bytes.ensures (omega arith))

pub returns-then-saturating_sub-data_size : goal.returns-then-saturating_sub-data_size
returns-then-saturating_sub-data_size c =
    let a = c.args in
    let b =
    begun (layout_of a.form) a.body.now a.left a.at c.most.ensures.0 c.min-count.ensures c.div_ceil-bytes.ensures (omega arith)
    c.fields_at-control.ensures c.data-start.ensures in
    as-unit a.form a.body.now a.left a.at (reads-cut b (omega arith))

pub loop-i-init : goal.loop-i-init
loop-i-init c =
    let a = c.args in
    let b =
    begun (layout_of a.form) a.body.now a.left a.at c.most.ensures.0 c.min-count.ensures c.div_ceil-bytes.ensures (omega arith)
    c.fields_at-control.ensures c.data-start.ensures in
    reads-start b c.requires (omega arith) (omega arith)

pub number_at-x-requires : goal.number_at-x-requires
number_at-x-requires c =
    let fits = reads-fits c.loop-i.invariant c.loop-i-test.true c.length-len.ensures.0 in
    omega (arith, c.length-len.ensures.1, c.length-len.ensures.2)

pub returns-then-byte_length-len : goal.returns-then-byte_length-len
returns-then-byte_length-len c =
    as-unit c.args.form c.args.body.now c.args.left c.args.at
    (reads-long c.loop-i.invariant c.loop-i-test.true c.length-len.ensures.0 c.number_at-x.ensures
    (λ e. c.if-byte_length-len.true (c.byte_length.ensures ∙ e)))

pub overflow_add-to : goal.overflow_add-to
overflow_add-to c =
    let fits = reads-fits c.loop-i.invariant c.loop-i-test.true c.length-len.ensures.0 in
    omega (arith, c.loop-i.invariant.short)

pub loop-i-preserved : goal.loop-i-preserved
loop-i-preserved c =
    reads-turn c.loop-i.invariant c.loop-i-test.true c.length-len.ensures.0 c.number_at-x.ensures (sym c.byte_length.ensures ∙ c.if-byte_length-len.false)

pub returns-then-control-ne0 : goal.returns-then-control-ne0
returns-then-control-ne0 c = as-unit c.args.form c.args.body.now c.args.left c.args.at (reads-used c.loop-i.invariant c.loop-i-test.false c.if-control-ne0.true)

pub returns : goal.returns
returns c =
    as-unit c.args.form c.args.body.now c.args.left c.args.at
    (reads_end c.loop-i.invariant c.loop-i-test.false c.if-control-ne0.false (count-is c.min-count.result c.div_ceil-bytes.ensures) c.next-next.ensures)
