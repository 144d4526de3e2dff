-- i numbers have been read and stand in work. Assumes nothing.
use mathlib.Core.Path.{sym, ◌∙◌}
use native.Mathlib.Omega.{arith}
use Rattle.std.proofs.lemmas.Result.{err_from_is_err_and}
use Rattle.codes.proofs.Readings.{reading-start, got-no-start, got-unit-refused, reading-few, reading-on, got-unjoined, got-all, got-left-over}
use Rattle.codes.proofs.Stretches.{goes_on, passed-long}
use Rattle.codes.proofs.reading.read_code.Goals as goal

pub returns-in_err-at : goal.returns-in_err-at
returns-in_err-at c =
    let a = c.args in
    let p = err_from_is_err_and c.from_residual.result c.from_residual.ensures.1 in
    rw (p.1, p.2) (got-no-start a.code a.body.now a.n c.start_at.ensures c.in_err-at.was)

pub loop-i-init : goal.loop-i-init
loop-i-init c =
    let a = c.args in
    reading-start a.code a.body.now a.n c.start_at.ensures (λ i. (c.type_inv.body i).fits) c.requires
    (omega (arith, c.requires.inside))
    c.in_ok-at.was

pub overflow_add-place : goal.overflow_add-place
overflow_add-place c = omega (arith, c.loop-i.invariant.low)

pub take_units-plain-requires : goal.take_units-plain-requires
take_units-plain-requires c =
    let r = c.loop-i.invariant in
    record { inside = omega (arith, r.so.long, r.target.inside, c.loop-i-test.true); short = r.target.short }

pub or_unit-requires : goal.or_unit-requires
or_unit-requires c =
    let r = c.loop-i.invariant in
    (record { inside = omega (arith, r.so.long, r.target.inside, c.loop-i-test.true); short = r.target.short }, omega (arith, c.loop-i-test.true))

pub returns-in_err-taken : goal.returns-in_err-taken
returns-in_err-taken c =
    let p = err_from_is_err_and c.from_residual-in_err-taken.result c.from_residual-in_err-taken.ensures.1 in
    rw (p.1, p.2) (got-unit-refused c.loop-i.invariant c.loop-i-test.true (c.or_unit.ensures _ c.take_units-plain.ensures) c.in_err-taken.was)

pub offset_bounds-work-place : goal.offset_bounds-work-place
offset_bounds-work-place c = omega (arith, c.loop-i.invariant.target.inside)

pub shape_of-work-then-byte_length-spare : goal.shape_of-work-then-byte_length-spare
shape_of-work-then-byte_length-spare c =
    let r = c.loop-i.invariant in
    let g = goes_on (c.or_unit.ensures _ c.take_units-plain.ensures) c.in_ok-taken.was in
    passed-long g ∙ r.so.long

pub returns-then-byte_length-spare : goal.returns-then-byte_length-spare
returns-then-byte_length-spare c =
    let g = goes_on (c.or_unit.ensures _ c.take_units-plain.ensures) c.in_ok-taken.was in
    got-unjoined c.loop-i.invariant c.loop-i-test.true g (omega (arith, c.byte_length.ensures, c.if-byte_length-spare.true))

pub overflow_add-i : goal.overflow_add-i
overflow_add-i c =
    let r = c.loop-i.invariant in
    let g = goes_on (c.or_unit.ensures _ c.take_units-plain.ensures) c.in_ok-taken.was in
    omega (arith, reading-few r c.loop-i-test.true g, r.low)

pub loop-i-smaller : goal.loop-i-smaller
loop-i-smaller c =
    let r = c.loop-i.invariant in
    let g = goes_on (c.or_unit.ensures _ c.take_units-plain.ensures) c.in_ok-taken.was in
    omega (arith, reading-few r c.loop-i-test.true g, g.some)

pub loop-i-preserved : goal.loop-i-preserved
loop-i-preserved c =
    let g = goes_on (c.or_unit.ensures _ c.take_units-plain.ensures) c.in_ok-taken.was in
    reading-on c.loop-i.invariant c.loop-i-test.true g (omega (arith, c.byte_length.ensures, c.if-byte_length-spare.false))

pub done_at-requires : goal.done_at-requires
done_at-requires c = c.loop-i.invariant.target.short

pub shape_of-work-then-done_at : goal.shape_of-work-then-done_at
shape_of-work-then-done_at c = c.loop-i.invariant.so.long

pub returns-then-done_at : goal.returns-then-done_at
returns-then-done_at c = got-all c.loop-i.invariant c.loop-i-test.false (sym c.done_at.ensures ∙ c.if-done_at.true)

pub shape_of-work : goal.shape_of-work
shape_of-work c = c.loop-i.invariant.so.long

pub returns : goal.returns
returns c = got-left-over c.loop-i.invariant c.loop-i-test.false (sym c.done_at.ensures ∙ c.if-done_at.false)
