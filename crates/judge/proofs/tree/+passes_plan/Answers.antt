-- `passes_plan` falls in the stages that may come, and hands on the kinds as `passes` does. Assumes nothing.
use mathlib.Core.Path.{sym, refl, ap, ◌∙◌}
use native.Mathlib.Omega.{arith}
use borrow.Author.Tests.{eq-eqb, ne_eqb}
use Rattle.meaning.specs.Plan.{passes}
use Rattle.judge.proofs.PlanLaws.{at-bad, at_code, at-reference, at-differences, at-runs, second}
use Rattle.judge.proofs.TreeLaws.{and_both, and-not}
use Rattle.judge.proofs.tree.+passes_plan.Goals as goal

pub passes_plan-requires : goal.passes_plan-requires
passes_plan-requires t c = omega (arith, at-reference _ _ _ _ _ (sym c.in-Reference.ensures))

pub passes_plan-requires-then-kind-eq-RISING : goal.passes_plan-requires-then-kind-eq-RISING
passes_plan-requires-then-kind-eq-RISING t c = omega (arith, at-differences _ _ _ _ _ (sym c.in-Differences.ensures))

pub passes_plan-requires-in-Runs : goal.passes_plan-requires-in-Runs
passes_plan-requires-in-Runs t c = omega (arith, at-runs _ _ _ _ _ (sym c.in-Runs.ensures))

pub passes_plan-requires-then-passes_plan : goal.passes_plan-requires-then-passes_plan
passes_plan-requires-then-passes_plan t c = omega (arith, at-runs _ _ _ _ _ (sym c.in-Runs.ensures))

pub returns-in-Bad : goal.returns-in-Bad
unfolding passes
returns-in-Bad t c = sym (ap (passes c.args.kind) (at-bad _ _ _ (sym c.in-Bad.ensures)))

pub returns-in-Code : goal.returns-in-Code
unfolding passes
returns-in-Code t c = sym (ap (passes c.args.kind) (at_code _ _ _ _ (sym c.in-Code.ensures)).0)

pub returns-in-Reference : goal.returns-in-Reference
unfolding passes
returns-in-Reference t c =
    let is = at-reference _ _ _ _ _ (sym c.in-Reference.ensures) in
    c.passes_plan.ensures ∙ sym (ap (passes c.args.kind) is.0)

pub returns-then-kind-eq-RISING : goal.returns-then-kind-eq-RISING
unfolding passes
returns-then-kind-eq-RISING t c =
    let is = at-differences _ _ _ _ _ (sym c.in-Differences.ensures) in
    and_both _ _ _ _ refl (eq-eqb _ _ c.if-kind-eq-RISING.true) c.passes_plan-then-kind-eq-RISING.ensures ∙ sym (ap (passes c.args.kind) is.0)

pub returns-else-kind-eq-RISING : goal.returns-else-kind-eq-RISING
unfolding passes
returns-else-kind-eq-RISING t c =
    let is = at-differences _ _ _ _ _ (sym c.in-Differences.ensures) in
    let other = ne_eqb _ _ c.if-kind-eq-RISING.false in
    other ∙ and-not _ _ _ refl other ∙ sym (ap (passes c.args.kind) is.0)

pub returns-then-passes_plan : goal.returns-then-passes_plan
unfolding passes
returns-then-passes_plan t c =
    let is = at-runs _ _ _ _ _ (sym c.in-Runs.ensures) in
    let lengths = c.passes_plan-then-passes_plan.ensures ∙ second (passes 0) _ _ _ _ c.plan_end-second.ensures in
    and_both _ _ _ _ c.passes_plan-in-Runs.ensures c.if-passes_plan.true lengths ∙ sym (ap (passes c.args.kind) is.0)

pub returns-else-passes_plan : goal.returns-else-passes_plan
unfolding passes
returns-else-passes_plan t c =
    let is = at-runs _ _ _ _ _ (sym c.in-Runs.ensures) in
    c.if-passes_plan.false ∙ and-not _ _ _ c.passes_plan-in-Runs.ensures c.if-passes_plan.false ∙ sym (ap (passes c.args.kind) is.0)
