-- `spread`: the runs laid so far stand in work, as far as the goal. Assumes nothing.
use Rattle.std.proofs.Common.{arith, rules, sym, ◌∙◌}
use Rattle.stages.proofs.Unrolls.{spreading-start, spreading-turn, spreading-stop}
use Rattle.stages.proofs.spread.Goals as goal
use Rattle.stages.proofs.spread.Goals.{then-goal-done-via-then-goal-done, then-goal-done-via-else-goal-done+then-not-run_fits}

pub loop-j-init : goal.loop-j-init
loop-j-init c = spreading-start c.requires.0 c.requires.1 c.requires.2

pub returns-then-goal-done : goal.returns-then-goal-done
returns-then-goal-done c =
    spreading-stop c.loop-j.invariant
    (λ a b.
    elim c.then-goal-done.branch [
      | then-goal-done-via-then-goal-done w ↦ absurd (omega arith)
      | then-goal-done-via-else-goal-done+then-not-run_fits w ↦ sym w.run_fits.ensures ∙ w.if-not-run_fits.true
    ])

pub loop-j-preserved : goal.loop-j-preserved
loop-j-preserved c =
    spreading-turn c.loop-j.invariant c.loop-j-test.true c.if-goal-done.false (sym c.run_fits.ensures ∙ c.if-not-run_fits.false) c.min.ensures
    (search rules)
