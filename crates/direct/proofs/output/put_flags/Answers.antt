-- The bits of a number wait until they fill a byte, which is then put. Assumes nothing.
use native.Mathlib.Omega.{arith}
use Rattle.direct.proofs.Flags.{flag-start, flag-near, flag-some, flag-few, flag-fits, flag-more, flag-full, flag-end, flag-end-none}
use Rattle.direct.proofs.output.put_flags.Goals.{then-count-ge8, else-count-ge8}
use Rattle.direct.proofs.output.put_flags.Goals as goal

pub loop-x-init : goal.loop-x-init
loop-x-init c =
    let a = c.args in
    (omega arith, flag-start a.list.now a.at.byte a.out.now c.requires)

pub overflow_add-count : goal.overflow_add-count
overflow_add-count c =
    let inv = c.loop-x.invariant in
    omega (arith, flag-few inv.1 inv.0 c.loop-x-test.true c.byte_length-count.ensures)

pub overflow_sub-wait : goal.overflow_sub-wait
overflow_sub-wait c =
    let inv = c.loop-x.invariant in
    omega (arith, flag-some inv.1 inv.0 c.loop-x-test.true c.byte_length-count.ensures)

pub overflow_cast-wait : goal.overflow_cast-wait
overflow_cast-wait c =
    let inv = c.loop-x.invariant in
    omega (arith, flag-few inv.1 inv.0 c.loop-x-test.true c.byte_length-count.ensures)

pub overflow_shl-wait : goal.overflow_shl-wait
overflow_shl-wait c =
    let inv = c.loop-x.invariant in
    omega (arith, flag-few inv.1 inv.0 c.loop-x-test.true c.byte_length-count.ensures)

pub overflow_add-wait : goal.overflow_add-wait
overflow_add-wait c =
    let inv = c.loop-x.invariant in
    omega (arith, flag-fits inv.1 inv.0 c.loop-x-test.true c.byte_length-count.ensures)

pub overflow_add-to : goal.overflow_add-to
overflow_add-to c =
    let inv = c.loop-x.invariant.1 in
    omega (arith, inv.short, flag-near inv)

pub loop-x-preserved : goal.loop-x-preserved
loop-x-preserved c =
    let inv = c.loop-x.invariant in
    let waits = flag-more inv.1 inv.0 c.loop-x-test.true c.byte_length-count.ensures in
    elim c.if-count-ge8.branch [
      | then-count-ge8 w ↦
          rw (w.out-is, w.to-is, w.wait-is, w.count-is)
          (omega (arith, flag-few inv.1 inv.0 c.loop-x-test.true c.byte_length-count.ensures), flag-full waits w.if-count-ge8.true w.put.ensures)
      | else-count-ge8 w ↦ rw (w.out-is, w.to-is, w.wait-is, w.count-is) (w.if-count-ge8.false, waits)
    ]

pub overflow_add-to-then-count-gt0 : goal.overflow_add-to-then-count-gt0
overflow_add-to-then-count-gt0 c =
    let inv = c.loop-x.invariant.1 in
    omega (arith, inv.short, flag-near inv)

pub returns-then-count-gt0 : goal.returns-then-count-gt0
returns-then-count-gt0 c =
    let inv = c.loop-x.invariant in
    flag-end inv.1 c.loop-x-test.false c.if-count-gt0.true inv.0 c.put-then-count-gt0.ensures

pub returns-else-count-gt0 : goal.returns-else-count-gt0
returns-else-count-gt0 c = flag-end-none c.loop-x.invariant.1 c.loop-x-test.false (omega (arith, c.if-count-gt0.false))
