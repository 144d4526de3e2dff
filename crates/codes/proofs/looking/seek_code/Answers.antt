-- The first `passed` lengths have been passed. Assumes nothing.
use borrow.Author.Rules.{rules}
use Prim.Native.Nat.{ℕ}
use mathlib.Core.Path.{sym, ap, ◌∙◌}
use native.Mathlib.Omega.{arith}
use Rattle.meaning.specs.Answer.{Answer}
use Rattle.meaning.specs.Codes.{code_of, look_code}
use Rattle.meaning.specs.Stages.{seek}
use Rattle.std.proofs.lemmas.Result.{err_from_is_err_and}
use Rattle.codes.proofs.Lookings.{looking-start, start-refuses, passes}
use Rattle.codes.proofs.Seeks.{on-start, on-refused, on-end, on-found, on-few, on-fault, on-within, on-next}
use Rattle.stages.proofs.Seeks.{seek-none, seek-stops}
use Rattle.codes.proofs.Numbered.{way-units, look-eight}
use Rattle.codes.proofs.Stretches.{goes_on, passed-long}
use Rattle.std.specs.Prelude.{Ok}
use Rattle.stages.specs.declared.Sought.{Sought}
use Rattle.codes.proofs.looking.seek_code.Goals as goal

pub returns-then-is_direct : goal.returns-then-is_direct
returns-then-is_direct c =
    let a = c.args in
    let eight = look-eight a.code (sym c.is_direct.ensures ∙ c.if-is_direct.true) a.body.now a.runs in
    c.seek_direct.ensures ∙ ap (λ (at : ℕ → Answer ℕ). seek at a.n a.place.number a.runs 0 0) (sym eight)

pub returns-then-runs-eq0 : goal.returns-then-runs-eq0
returns-then-runs-eq0 c =
    let a = c.args in
    let lengths = look_code (code_of a.code) a.body.now a.runs in
    sym (seek-none lengths a.n a.place.number a.runs 0 0 c.if-runs-eq0.true)

pub returns-in_err-at : goal.returns-in_err-at
returns-in_err-at c =
    let a = c.args in
    let units = way-units a.code (sym c.is_direct.ensures ∙ c.if-is_direct.false) in
    let p = err_from_is_err_and c.from_residual.result c.from_residual.ensures.1 in
    rw (p.1, p.2) (sym (seek-stops _ _ _ _ _ _ (omega (arith, c.if-runs-eq0.false)) _
    (start-refuses a.code a.body.now a.runs units c.start_at.ensures c.in_err-at.was 0)))

pub loop-passed-init : goal.loop-passed-init
loop-passed-init c =
    let a = c.args in
    let units = way-units a.code (sym c.is_direct.ensures ∙ c.if-is_direct.false) in (
      on-start (looking-start a.code a.body.now a.runs units c.start_at.ensures (λ i. (c.type_inv.body i).fits)
          c.requires.0.short
          c.in_ok-at.was),
      omega arith,
      c.requires.0.inside,
      c.requires.0.few,
      search rules,
      c.requires.1,
    )

pub overflow_sub-goal : goal.overflow_sub-goal
overflow_sub-goal c =
    let (o, within, inside, few, long, less) = c.loop-passed.invariant in
    o.near

pub overflow_add-goal : goal.overflow_add-goal
overflow_add-goal c =
    let (o, within, inside, few, long, less) = c.loop-passed.invariant in
    omega arith

pub stretch-requires : goal.stretch-requires
stretch-requires c =
    let (o, within, inside, few, long, less) = c.loop-passed.invariant in
    (record { inside = omega (arith, c.min-room.ensures, long); short = o.looking.short }, omega (arith, c.loop-passed-test.true))

pub returns-in_err-taken : goal.returns-in_err-taken
returns-in_err-taken c =
    let (o, within, inside, few, long, less) = c.loop-passed.invariant in
    let p = err_from_is_err_and c.from_residual-in_err-taken.result c.from_residual-in_err-taken.ensures.1 in
    rw (p.1, p.2) (sym (on-refused o c.loop-passed-test.true c.stretch.ensures c.in_err-taken.was))

pub seek_in-requires : goal.seek_in-requires
seek_in-requires c = c.loop-passed.invariant.1

pub overflow_add-run : goal.overflow_add-run
overflow_add-run c =
    let (o, within, inside, few, long, less) = c.loop-passed.invariant in
    let g = goes_on c.stretch.ensures c.in_ok-taken.was in
    let j = on-few o g (omega (arith, c.min-room.ensures, long)) (omega (arith, g.few, c.min-room.ensures)) c.seek_in.ensures
    (c.in_ok-sought.was ∙ ap (λ (x : Sought). Ok x) c.in-At.is) in
    omega (arith, passes o.looking g o.most, few, less, j)

pub returns-in-At : goal.returns-in-At
returns-in-At c =
    let (o, within, inside, few, long, less) = c.loop-passed.invariant in
    let g = goes_on c.stretch.ensures c.in_ok-taken.was in
    sym (on-found o g (omega (arith, c.min-room.ensures, long)) (omega (arith, g.few, c.min-room.ensures)) c.seek_in.ensures
    (c.in_ok-sought.was ∙ ap (λ (x : Sought). Ok x) c.in-At.is))

pub overflow_add-passed : goal.overflow_add-passed
overflow_add-passed c =
    let (o, within, inside, few, long, less) = c.loop-passed.invariant in
    let g = goes_on c.stretch.ensures c.in_ok-taken.was in
    omega (arith, passes o.looking g o.most, few, less)

pub loop-passed-smaller : goal.loop-passed-smaller
loop-passed-smaller c =
    let (o, within, inside, few, long, less) = c.loop-passed.invariant in
    let g = goes_on c.stretch.ensures c.in_ok-taken.was in
    omega (arith, passes o.looking g o.most, g.some)

pub loop-passed-preserved : goal.loop-passed-preserved
loop-passed-preserved c =
    let (o, within, inside, few, long, less) = c.loop-passed.invariant in
    let g = goes_on c.stretch.ensures c.in_ok-taken.was in
    let d = on-within o g (omega (arith, c.min-room.ensures, long)) (omega (arith, g.few, c.min-room.ensures)) c.seek_in.ensures
    (c.in_ok-sought.was ∙ ap (λ (x : Sought). Ok x) c.in-After.is) in (
      on-next o g (omega (arith, c.min-room.ensures, long)) (omega (arith, g.few, c.min-room.ensures)) c.seek_in.ensures
          (c.in_ok-sought.was ∙ ap (λ (x : Sought). Ok x) c.in-After.is),
      d.0,
      inside,
      few,
      passed-long g ∙ long,
      less,
    )

pub returns-in_err-sought : goal.returns-in_err-sought
returns-in_err-sought c =
    let (o, within, inside, few, long, less) = c.loop-passed.invariant in
    let g = goes_on c.stretch.ensures c.in_ok-taken.was in
    let p = err_from_is_err_and c.from_residual-in_err-sought.result c.from_residual-in_err-sought.ensures.1 in
    rw (p.1, p.2) (sym (on-fault o g (omega (arith, c.min-room.ensures, long)) (omega (arith, g.few, c.min-room.ensures)) c.seek_in.ensures
    c.in_err-sought.was))

pub returns : goal.returns
returns c = sym (on-end c.loop-passed.invariant.0 c.loop-passed-test.false)
