-- `seek_in`: the first j lengths have been passed. Assumes nothing.
use Rattle.std.proofs.Common.{arith, sym, ◌∙◌}
use Rattle.stages.proofs.Seekings.{seeking-breaks, seeking-here, seeking-past}
use Rattle.stages.proofs.Unrolls.{fits-so}
use Rattle.stages.proofs.seek_in.Goals as goal

pub returns-then-not-run_fits : goal.returns-then-not-run_fits
returns-then-not-run_fits c = seeking-breaks c.loop-j.invariant (omega arith) (sym c.run_fits.ensures ∙ c.if-not-run_fits.true)

pub overflow_add-end : goal.overflow_add-end
overflow_add-end c = omega (arith, (fits-so _ _ _ (sym c.run_fits.ensures ∙ c.if-not-run_fits.false)).1, c.ranges.n)

pub returns-then-goal-end : goal.returns-then-goal-end
returns-then-goal-end c = seeking-here c.loop-j.invariant (omega arith) (sym c.run_fits.ensures ∙ c.if-not-run_fits.false) c.if-goal-end.true

pub loop-j-preserved : goal.loop-j-preserved
loop-j-preserved c = seeking-past c.loop-j.invariant (omega arith) (sym c.run_fits.ensures ∙ c.if-not-run_fits.false) c.if-goal-end.false
