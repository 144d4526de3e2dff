-- `good_end` goes on to a stage's last plan, which ends where the whole does; the stages that may come fall. Assumes nothing.
use mathlib.Core.Path.{refl, sym, ◌∙◌}
use native.Mathlib.Omega.{arith}
use Rattle.judge.proofs.PlanLaws.{at-bad, at_code, at-runs, over}
use Rattle.judge.proofs.TreeLaws.{end-bad, end-code, end-over, end-first, end-second}
use Rattle.judge.proofs.tree.+good_end.Goals as goal

pub loop-next-init : goal.loop-next-init
loop-next-init t c = (omega arith, refl)

pub overflow_add-result : goal.overflow_add-result
overflow_add-result t c = omega (arith, at_code _ _ _ _ (sym c.in-Code.ensures))

pub good_end-requires : goal.good_end-requires
good_end-requires t c = omega (arith, at-runs _ _ _ _ _ (sym c.in-Runs.ensures), c.loop-next.invariant.0)

pub returns-in-Bad : goal.returns-in-Bad
returns-in-Bad t c = end-bad _ _ (at-bad _ _ _ (sym c.in-Bad.ensures)) ∙ c.loop-next.invariant.1

pub returns-in-Code : goal.returns-in-Code
returns-in-Code t c = end-code _ _ _ (at_code _ _ _ _ (sym c.in-Code.ensures)).0 ∙ c.loop-next.invariant.1

pub returns-in_err-here-in-Runs : goal.returns-in_err-here-in-Runs
returns-in_err-here-in-Runs t c =
    let is = at-runs _ _ _ _ _ (sym c.in-Runs.ensures) in
    rw c.from_residual.ensures (end-first _ _ _ _ _ is.0 c.in_err-here-in-Runs.ensures ∙ c.loop-next.invariant.1)

pub loop-next-smaller-in-Runs-1 : goal.loop-next-smaller-in-Runs-1
loop-next-smaller-in-Runs-1 t c = omega (arith, at-runs _ _ _ _ _ (sym c.in-Runs.ensures))

pub loop-next-preserved-in-Runs-1 : goal.loop-next-preserved-in-Runs-1
loop-next-preserved-in-Runs-1 t c =
    let is = at-runs _ _ _ _ _ (sym c.in-Runs.ensures) in
    (omega (arith, is, c.loop-next.invariant.0), end-second _ _ _ _ _ is.0 is.2 c.in_ok-here-in-Runs.ensures refl ∙ c.loop-next.invariant.1)

pub loop-next-smaller-in-Reference : goal.loop-next-smaller-in-Reference
loop-next-smaller-in-Reference t c = let o = over c.stage_at.ensures c.in-Reference.is in omega arith

pub loop-next-preserved-in-Reference : goal.loop-next-preserved-in-Reference
loop-next-preserved-in-Reference t c =
    let o = over c.stage_at.ensures c.in-Reference.is in
    (omega (arith, c.loop-next.invariant.0), end-over o refl ∙ c.loop-next.invariant.1)

pub loop-next-smaller : goal.loop-next-smaller
loop-next-smaller t c = let o = over c.stage_at.ensures c.in-Reference.is in omega arith

pub loop-next-preserved : goal.loop-next-preserved
loop-next-preserved t c =
    let o = over c.stage_at.ensures c.in-Reference.is in
    (omega (arith, c.loop-next.invariant.0), end-over o refl ∙ c.loop-next.invariant.1)
