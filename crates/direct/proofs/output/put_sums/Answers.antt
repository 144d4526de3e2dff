-- A sum is put where a number's bytes reach the end of a stretch. Assumes nothing.
use native.Mathlib.Omega.{arith}
use Rattle.direct.proofs.Sums.{sum-start, sum_near, sum-few, short-number, sum_more, sum-full, sum-end}
use Rattle.direct.proofs.output.put_sums.Goals.{then-count-ge512, else-count-ge512, then-count-eq0, else-count-eq0}
use Rattle.direct.proofs.output.put_sums.Goals as goal

pub loop-i-init : goal.loop-i-init
loop-i-init c =
    let a = c.args in
    sum-start a.list.now a.at.byte a.out.now c.requires

pub overflow_add-count : goal.overflow_add-count
overflow_add-count c =
    let inv = c.loop-i.invariant in
    omega (arith, sum-few inv, short-number inv c.loop-i-test.true c.byte_length-count.ensures)

pub put_number-requires : goal.put_number-requires
put_number-requires c =
    let inv = c.loop-i.invariant in
    omega (arith, inv.short, sum_near inv)

pub overflow_add-to : goal.overflow_add-to
overflow_add-to c =
    let inv = c.loop-i.invariant in
    omega (arith, inv.short, sum_near inv)

pub loop-i-preserved : goal.loop-i-preserved
loop-i-preserved c =
    let inv = c.loop-i.invariant in
    elim c.if-count-ge512.branch [
      | then-count-ge512 w ↦
          rw (w.out-is, w.to-is, w.count-is)
          (sum-full inv c.loop-i-test.true c.byte_length-count.ensures w.if-count-ge512.true
          (λ goes_on. elim w.if-count-eq0.branch [ then-count-eq0 v ↦ omega arith | else-count-eq0 v ↦ omega arith ])
          (λ ends. elim w.if-count-eq0.branch [ then-count-eq0 v ↦ omega arith | else-count-eq0 v ↦ omega arith ])
          w.put_number.ensures)
      | else-count-ge512 w ↦ rw (w.out-is, w.to-is, w.count-is) (sum_more inv c.loop-i-test.true c.byte_length-count.ensures w.if-count-ge512.false)
    ]

pub returns : goal.returns
returns c = sum-end c.loop-i.invariant c.loop-i-test.false
