-- Writing by a plan: what the callees ensure is handed to the law of its stage. Assumes nothing.
use Prim.Native.Nat.{ℕ, ◌≤◌}
use mathlib.Core.Path.{refl, sym, ◌∙◌}
use native.Mathlib.Omega.{arith}
use borrow.Author.Rules.{rules}
use lib.ListN.{length, take, drop, length-take}
use Rattle.std.proofs.Math.Nat.{add-sub_cancel_left}
use Rattle.meaning.specs.Plan.{Plan, plan_at}
use Rattle.judge.proofs.PlanLaws.{at-bad, at_code, at-reference, at-differences, at-runs, second}
use Rattle.plan_write.proofs.Steps.{fit-list, fit-code, fit-more, fit-inner, fit-runs, fit-three, fit-part, runs_fit, values-end}
use Rattle.plan_write.proofs.Steps.{written-bad, written-code, written-stage, written-differences, written-reference, written-runs}
use Rattle.plan_write.proofs.+write_plan_write_runs.Goals as goal

-- ---- write_plan

pub write_plan-write_code-requires : goal.write_plan-write_code-requires
write_plan-write_code-requires t c =
    let a = c.args in
    let long : length (take a.n (drop a.from.number a.work.now)) ≤ a.n = omega (arith, length-take {A = ℕ}) in
    rw (add-sub_cancel_left a.from.number a.n) (record { short = omega (arith, fit-code c.requires, long) })

pub write_plan-slice_bounds-write_code-end : goal.write_plan-slice_bounds-write_code-end
write_plan-slice_bounds-write_code-end t c = fit-list c.requires

pub write_plan-less_into-requires : goal.write_plan-less_into-requires
write_plan-less_into-requires t c =
    let is = at-reference _ _ _ _ _ (sym c.stage_at.ensures ∙ c.in-Reference.is) in
    fit-more c.requires is.1

pub write_plan-write_plan-requires : goal.write_plan-write_plan-requires
write_plan-write_plan-requires t c =
    let is = at-reference _ _ _ _ _ (sym c.stage_at.ensures ∙ c.in-Reference.is) in
    (omega (arith, is.1), fit-inner c.requires is.1 (omega arith) c.less_into.auto.work)

pub write_plan-gaps_into-requires : goal.write_plan-gaps_into-requires
write_plan-gaps_into-requires t c =
    let is = at-differences _ _ _ _ _ (sym c.stage_at.ensures ∙ c.in-Differences.is) in
    fit-more c.requires is.1

pub write_plan-write_plan-requires-in-Differences : goal.write_plan-write_plan-requires-in-Differences
write_plan-write_plan-requires-in-Differences t c =
    let is = at-differences _ _ _ _ _ (sym c.stage_at.ensures ∙ c.in-Differences.is) in
    (omega (arith, is.1), fit-inner c.requires is.1 (omega arith) c.gaps_into.auto.work)

pub write_plan-write_runs-requires : goal.write_plan-write_runs-requires
write_plan-write_runs-requires t c =
    let is = at-runs _ _ _ _ _ (sym c.stage_at.ensures ∙ c.in-Runs.is) in
    (omega (arith, is.1), fit-runs c.requires is.1)

pub write_plan-returns-in-Bad : goal.write_plan-returns-in-Bad
write_plan-returns-in-Bad t c = written-bad (at-bad _ _ _ (sym c.stage_at.ensures ∙ c.in-Bad.is))

pub write_plan-returns-in-Code : goal.write_plan-returns-in-Code
write_plan-returns-in-Code t c =
    let is = at_code _ _ _ _ (sym c.stage_at.ensures ∙ c.in-Code.is) in
    written-code is.0 (rw (add-sub_cancel_left c.args.from.number c.args.n) at c.write_code.ensures)

pub write_plan-returns-in-Reference : goal.write_plan-returns-in-Reference
write_plan-returns-in-Reference t c =
    let is = at-reference _ _ _ _ _ (sym c.stage_at.ensures ∙ c.in-Reference.is) in
    let m-is = rw (add-sub_cancel_left c.args.from.number c.args.n) at c.least_of-m.ensures in
    written-reference c.requires is.1 is.0 m-is c.put_word.ensures c.less_into.ensures c.write_plan.ensures

pub write_plan-returns-in-Differences : goal.write_plan-returns-in-Differences
write_plan-returns-in-Differences t c =
    let is = at-differences _ _ _ _ _ (sym c.stage_at.ensures ∙ c.in-Differences.is) in
    written-differences c.requires is.1 is.0 c.gaps_into.ensures c.write_plan-in-Differences.ensures

pub write_plan-returns-in-Runs : goal.write_plan-returns-in-Runs
write_plan-returns-in-Runs t c =
    let is = at-runs _ _ _ _ _ (sym c.stage_at.ensures ∙ c.in-Runs.is) in
    written-stage is.0 c.write_runs.ensures

pub write_plan-slice_bounds-least_of-end : goal.write_plan-slice_bounds-least_of-end
write_plan-slice_bounds-least_of-end t c = fit-list c.requires

-- ---- write_runs

pub write_runs-overflow_cast-k : goal.write_runs-overflow_cast-k
write_runs-overflow_cast-k t c = omega (arith, runs_fit c.requires c.runs_into-k.ensures, c.requires.few)

pub write_runs-write_plan-end-requires : goal.write_runs-write_plan-end-requires
write_runs-write_plan-end-requires t c =
    let few = runs_fit c.requires c.runs_into-k.ensures in
    (omega (arith), fit-part c.requires few (omega arith) (omega arith) c.runs_into-k.auto.work)

pub write_runs-overflow_cast-stop : goal.write_runs-overflow_cast-stop
write_runs-overflow_cast-stop t c =
    let ended = values-end c.requires c.runs_into-k.ensures _ _ (λ i. search rules) c.write_plan-end.ensures in
    omega (arith, ended.after, ended.before, c.requires.small)

pub write_runs-write_plan-requires : goal.write_runs-write_plan-requires
write_runs-write_plan-requires t c =
    let few = runs_fit c.requires c.runs_into-k.ensures in
    let same = c.write_plan-end.auto.work ∙ c.runs_into-k.auto.work in
    let ended = values-end c.requires c.runs_into-k.ensures _ _ (λ i. search rules) c.write_plan-end.ensures in
    (omega arith, fit-part c.requires few (omega arith) ended.before same)

pub write_runs-returns : goal.write_runs-returns
write_runs-returns t c =
    let a = c.args in
    written-runs c.requires c.runs_into-k.ensures {p = plan_at a.stages a.plan.now a.pos.byte}
    (second (λ (q : Plan). q) _ _ _ _ c.plan_end-second.ensures)
    refl c.put_word.ensures c.write_plan-end.ensures refl c.put_word-2.ensures c.write_plan.ensures

pub write_runs-runs_into-k-requires : goal.write_runs-runs_into-k-requires
write_runs-runs_into-k-requires t c = (fit-three c.requires, omega (arith, c.requires.few))
