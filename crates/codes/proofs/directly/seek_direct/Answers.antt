-- The first `number` runs have been passed, length by length. Assumes nothing.
use mathlib.Core.Bool.{not}
use Prim.Native.Nat.{ℕ, ◌+◌, ◌-◌}
use mathlib.Core.Path.{◌≡◌, sym, ap, ◌∙◌}
use native.Mathlib.Nat.{sub-zero}
use native.Mathlib.Omega.{arith}
use borrow.Author.Tests.{not-true, not-false}
use Rattle.meaning.specs.Direct.{look_direct}
use Rattle.meaning.specs.Stages.{seek}
use Rattle.stages.proofs.Seeks.{seek-none, seek-stops, seek-breaks, seek-here, seek-later}
use Rattle.stages.proofs.Unrolls.{fits-so}
use Rattle.std.proofs.lemmas.Result.{err_from_is_err_and}
use Rattle.codes.proofs.directly.seek_direct.Goals as goal

pub loop-number-init : goal.loop-number-init
loop-number-init c =
    let a = c.args in
    (ap (λ (k : ℕ). seek (look_direct a.body.now) a.n a.place.number k 0 0) (sym (sub-zero a.runs)), omega arith)

pub lookup-requires : goal.lookup-requires
lookup-requires c = c.requires.0.short

pub run_fits-requires : goal.run_fits-requires
run_fits-requires c = omega (arith, c.loop-number.invariant.1, c.requires.0.inside)

pub returns-in_err-length : goal.returns-in_err-length
returns-in_err-length c =
    let p = err_from_is_err_and c.from_residual.result c.from_residual.ensures.1 in
    rw (p.1, p.2) (sym (c.loop-number.invariant.0
    ∙ seek-stops _ _ _ _ _ _ (omega (arith, c.loop-number-test.true)) _ (sym c.in_err-length.ensures)))

pub returns-then-not-run_fits : goal.returns-then-not-run_fits
returns-then-not-run_fits c =
    sym (c.loop-number.invariant.0 ∙ seek-breaks _ _ _ _ _ _ (omega (arith, c.loop-number-test.true)) _ (sym c.in_ok-length.ensures)
    (sym c.run_fits.ensures ∙ not-true _ (ap not c.if-not-run_fits.true)))

pub overflow_add-done : goal.overflow_add-done
overflow_add-done c =
    omega (arith, c.requires.0.few, fits-so _ _ _ (sym c.run_fits.ensures ∙ not-false _ (ap not c.if-not-run_fits.false)))

pub returns-then-goal-done : goal.returns-then-goal-done
returns-then-goal-done c =
    sym (c.loop-number.invariant.0 ∙ seek-here _ _ _ _ _ _ (omega (arith, c.loop-number-test.true)) _ (sym c.in_ok-length.ensures)
    (sym c.run_fits.ensures ∙ not-false _ (ap not c.if-not-run_fits.false)) (omega (arith, c.if-goal-done.true)))

pub loop-number-preserved : goal.loop-number-preserved
loop-number-preserved c =
    let a = c.args in
    let l = c.loop-number in
    let left : a.runs - l.number - 1 ≡ a.runs - (l.number + 1) = omega arith in (
      l.invariant.0
          ∙ seek-later _ _ _ _ _ _ (omega (arith, c.loop-number-test.true)) _ (sym c.in_ok-length.ensures)
          (sym c.run_fits.ensures ∙ not-false _ (ap not c.if-not-run_fits.false)) (omega (arith, c.if-goal-done.false))
          ∙ ap (λ (k : ℕ). seek (look_direct a.body.now) a.n a.place.number k (l.number + 1) (l.done + c.in_ok-length.length)) left,
      omega (arith, c.if-goal-done.false),
    )

pub returns : goal.returns
returns c = sym (c.loop-number.invariant.0 ∙ seek-none _ _ _ _ _ _ (omega (arith, c.loop-number-test.false)))
