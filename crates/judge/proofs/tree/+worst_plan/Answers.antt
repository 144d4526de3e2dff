-- `worst_plan` falls in the stages that may come; no sum is above what three stages make of the largest code. Assumes nothing.
use Prim.Native.Nat.{ℕ}
use mathlib.Core.Path.{sym, ap, ◌∙◌}
use native.Mathlib.Omega.{arith}
use Rattle.meaning.specs.Plan.{Plan, worst_plan}
use Rattle.judge.proofs.PlanLaws.{at-bad, at_code, at-reference, at-differences, at-runs, second}
use Rattle.judge.proofs.TreeLaws.{worst-most}
use Rattle.judge.proofs.tree.+worst_plan.Goals as goal

abbrev worst-of : ℕ → Plan → ℕ
worst-of n p = worst_plan p n

pub worst_plan-requires : goal.worst_plan-requires
worst_plan-requires t c = omega (arith, at-reference _ _ _ _ _ (sym c.in-Reference.ensures))

pub overflow_add-result : goal.overflow_add-result
overflow_add-result t c =
    let is = at-reference _ _ _ _ _ (sym c.in-Reference.ensures) in
    omega (arith, worst-most _ _ _ _ _ c.worst_plan.ensures (omega arith) (omega arith))

pub worst_plan-requires-in-Differences : goal.worst_plan-requires-in-Differences
worst_plan-requires-in-Differences t c = omega (arith, at-differences _ _ _ _ _ (sym c.in-Differences.ensures))

pub worst_plan-values-requires : goal.worst_plan-values-requires
worst_plan-values-requires t c = omega (arith, at-runs _ _ _ _ _ (sym c.in-Runs.ensures))

pub worst_plan-lengths-requires : goal.worst_plan-lengths-requires
worst_plan-lengths-requires t c = omega (arith, at-runs _ _ _ _ _ (sym c.in-Runs.ensures))

pub overflow_add-result-in-Runs : goal.overflow_add-result-in-Runs
overflow_add-result-in-Runs t c =
    let is = at-runs _ _ _ _ _ (sym c.in-Runs.ensures) in
    omega (
      arith,
      worst-most _ _ _ _ _ c.worst_plan-values.ensures (omega arith) (omega arith),
      worst-most _ _ _ _ _ c.worst_plan-lengths.ensures (omega arith) (omega arith),
    )

pub overflow_add-result-in-Runs-2 : goal.overflow_add-result-in-Runs-2
overflow_add-result-in-Runs-2 t c =
    let is = at-runs _ _ _ _ _ (sym c.in-Runs.ensures) in
    omega (
      arith,
      worst-most _ _ _ _ _ c.worst_plan-values.ensures (omega arith) (omega arith),
      worst-most _ _ _ _ _ c.worst_plan-lengths.ensures (omega arith) (omega arith),
    )

pub returns-in-Bad : goal.returns-in-Bad
unfolding worst_plan
returns-in-Bad t c = sym (ap (worst-of c.args.n) (at-bad _ _ _ (sym c.in-Bad.ensures)))

pub returns-in-Code : goal.returns-in-Code
unfolding worst_plan
returns-in-Code t c =
    let is = at_code _ _ _ _ (sym c.in-Code.ensures) in
    c.worst_code.ensures ∙ sym (ap (worst-of c.args.n) is.0)

pub returns-in-Reference : goal.returns-in-Reference
unfolding worst_plan
returns-in-Reference t c =
    let is = at-reference _ _ _ _ _ (sym c.in-Reference.ensures) in
    omega (arith, c.worst_plan.ensures, ap (worst-of c.args.n) is.0)

pub returns-in-Differences : goal.returns-in-Differences
unfolding worst_plan
returns-in-Differences t c =
    let is = at-differences _ _ _ _ _ (sym c.in-Differences.ensures) in
    c.worst_plan-in-Differences.ensures ∙ sym (ap (worst-of c.args.n) is.0)

pub returns-in-Runs : goal.returns-in-Runs
unfolding worst_plan
returns-in-Runs t c =
    let is = at-runs _ _ _ _ _ (sym c.in-Runs.ensures) in
    let lengths = c.worst_plan-lengths.ensures ∙ second (worst-of c.args.n) _ _ _ _ c.plan_end-second.ensures in
    omega (arith, ap (worst-of c.args.n) is.0, c.worst_plan-values.ensures, lengths)
