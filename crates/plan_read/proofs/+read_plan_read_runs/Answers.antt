-- Strict reading by a plan: what the callees ensure is handed to the law of its stage. Assumes nothing.
use Prim.Native.Nat.{◌-◌}
use mathlib.Core.Path.{refl, sym, ◌∙◌}
use native.Mathlib.Omega.{arith}
use lib.ListN.{length}
use Rattle.std.proofs.lemmas.Result.{err_from_is_err_and}
use Rattle.meaning.specs.Places.{Below}
use Rattle.judge.proofs.PlanLaws.{at-bad, at_code, at-reference, at-differences, at-runs}
use Rattle.codes.proofs.Numbered.{laws}
use Rattle.stages.proofs.Headers.{headed, headless}
use Rattle.stages.proofs.Parts.{part-short, part-below}
use Rattle.stages.proofs.Rooms.{fits-list, fits-inner, fits-runs, fits-values, fits-lengths, fits-spread}
use Rattle.plan_read.proofs.Steps.{whole_is, step-bad, step-code, step-as, step-reference-short, step-reference-stop, step-reference}
use Rattle.plan_read.proofs.Steps.{step-differences-stop, step-differences, runs_none, runs-stop, runs-stop-2, runs_then, got-second}
use Rattle.plan_read.proofs.+read_plan_read_runs.Goals as goal

-- ---- read_plan

pub read_plan-read_code-requires : goal.read_plan-read_code-requires
read_plan-read_code-requires t c = record { inside = omega (arith, fits-list c.requires); short = c.requires.short }

pub read_plan-returns-then-body-lt4 : goal.read_plan-returns-then-body-lt4
read_plan-returns-then-body-lt4 t c =
    let is = at-reference _ _ _ _ _ (sym c.stage_at.ensures ∙ c.in-Reference.is) in
    step-reference-short _ _ _ _ _ is.0 _ c.if-body-lt4.true

pub read_plan-read_plan-requires : goal.read_plan-read_plan-requires
read_plan-read_plan-requires t c =
    let is = at-reference _ _ _ _ _ (sym c.stage_at.ensures ∙ c.in-Reference.is) in
    (omega arith, fits-inner c.requires is.1 (part-short c.args.body.now 4 (length c.args.body.now - 4)))

pub read_plan-raise-requires : goal.read_plan-raise-requires
read_plan-raise-requires t c = omega (arith, fits-list c.requires)

pub read_plan-read_plan-requires-in-Differences : goal.read_plan-read_plan-requires-in-Differences
read_plan-read_plan-requires-in-Differences t c =
    let is = at-differences _ _ _ _ _ (sym c.stage_at.ensures ∙ c.in-Differences.is) in
    (omega arith, fits-inner c.requires is.1 (omega arith))

pub read_plan-sum_up-requires : goal.read_plan-sum_up-requires
read_plan-sum_up-requires t c = omega (arith, fits-list c.requires)

pub read_plan-read_runs-requires : goal.read_plan-read_runs-requires
read_plan-read_runs-requires t c =
    let is = at-runs _ _ _ _ _ (sym c.stage_at.ensures ∙ c.in-Runs.is) in
    (omega arith, fits-runs c.requires is.1)

pub read_plan-returns-in-Bad : goal.read_plan-returns-in-Bad
read_plan-returns-in-Bad t c = step-bad _ _ _ _ _ (at-bad _ _ _ (sym c.stage_at.ensures ∙ c.in-Bad.is))

pub read_plan-returns-in-Code : goal.read_plan-returns-in-Code
read_plan-returns-in-Code t c =
    let is = at_code _ _ _ _ (sym c.stage_at.ensures ∙ c.in-Code.is) in
    step-code _ _ _ _ _ _ _ _ is.0 c.read_code.ensures

pub read_plan-returns-in_err-read_plan-in-Reference : goal.read_plan-returns-in_err-read_plan-in-Reference
read_plan-returns-in_err-read_plan-in-Reference t c =
    let is = at-reference _ _ _ _ _ (sym c.stage_at.ensures ∙ c.in-Reference.is) in
    let p = err_from_is_err_and c.from_residual.result c.from_residual.ensures.1 in
    rw (p.1, p.2) (step-reference-stop _ _ _ _ _ is.0 _ _ _ c.if-body-lt4.false c.read_plan.ensures _ c.in_err-read_plan-in-Reference.was)

pub read_plan-returns-in_ok-read_plan-in-Reference : goal.read_plan-returns-in_ok-read_plan-in-Reference
read_plan-returns-in_ok-read_plan-in-Reference t c =
    let is = at-reference _ _ _ _ _ (sym c.stage_at.ensures ∙ c.in-Reference.is) in
    let bytes = part-below c.args.body.now 4 (length c.args.body.now - 4) (λ i. (c.type_inv.body i).fits) in
    let many = whole_is laws _ _ _ _ _ _ _ _ bytes c.read_plan.ensures c.in_ok-read_plan-in-Reference.was in
    step-reference _ _ _ _ _ is.0 _ _ _ c.if-body-lt4.false c.read_plan.ensures _ _ _ _ c.in_ok-read_plan-in-Reference.was many c.word_at-m.ensures
    c.raise.ensures

pub read_plan-returns-in_err-read_plan-in-Differences : goal.read_plan-returns-in_err-read_plan-in-Differences
read_plan-returns-in_err-read_plan-in-Differences t c =
    let is = at-differences _ _ _ _ _ (sym c.stage_at.ensures ∙ c.in-Differences.is) in
    let p = err_from_is_err_and c.from_residual-in_err-read_plan-in-Differences.result c.from_residual-in_err-read_plan-in-Differences.ensures.1 in
    rw (p.1, p.2) (step-differences-stop _ _ _ _ _ is.0 _ _ _ c.read_plan-in-Differences.ensures _ c.in_err-read_plan-in-Differences.was)

pub read_plan-returns-in_ok-read_plan-in-Differences : goal.read_plan-returns-in_ok-read_plan-in-Differences
read_plan-returns-in_ok-read_plan-in-Differences t c =
    let is = at-differences _ _ _ _ _ (sym c.stage_at.ensures ∙ c.in-Differences.is) in
    let many = whole_is laws _ _ _ _ _ _ _ _ (λ i. (c.type_inv.body i).fits) c.read_plan-in-Differences.ensures c.in_ok-read_plan-in-Differences.was in
    step-differences _ _ _ _ _ is.0 _ _ _ c.read_plan-in-Differences.ensures _ _ _ c.in_ok-read_plan-in-Differences.was many c.sum_up.ensures

pub read_plan-returns-in-Runs : goal.read_plan-returns-in-Runs
read_plan-returns-in-Runs t c =
    let is = at-runs _ _ _ _ _ (sym c.stage_at.ensures ∙ c.in-Runs.is) in
    step-as _ _ _ _ _ _ _ _ is.0 c.read_runs.ensures

-- ---- read_runs

pub read_runs-read_plan-requires : goal.read_runs-read_plan-requires
read_runs-read_plan-requires t c =
    let head = headed c.header_of.ensures c.in_ok-header.was in
    (omega arith, fits-values c.requires head.few (part-short c.args.body.now 8 (c.in_ok-header.header.end.byte - 8)) refl)

pub read_runs-read_plan-requires-2 : goal.read_runs-read_plan-requires-2
read_runs-read_plan-requires-2 t c =
    let head = headed c.header_of.ensures c.in_ok-header.was in
    let split = c.in_ok-header.header.end.byte in
    let short = part-short c.args.body.now split (length c.args.body.now - split) in
    (omega arith, fits-lengths c.requires head.few short c.read_plan.auto.work)

pub read_runs-unroll_into-requires : goal.read_runs-unroll_into-requires
read_runs-unroll_into-requires t c =
    let head = headed c.header_of.ensures c.in_ok-header.was in
    (omega (arith, fits-spread c.requires), head.few)

pub read_runs-returns-in_err-header : goal.read_runs-returns-in_err-header
read_runs-returns-in_err-header t c =
    let p = err_from_is_err_and c.from_residual.result c.from_residual.ensures.1 in
    rw (p.1, p.2) (runs_none _ _ _ _ _ _ (headless c.header_of.ensures c.in_err-header.was))

pub read_runs-returns-in_err-read_plan : goal.read_runs-returns-in_err-read_plan
read_runs-returns-in_err-read_plan t c =
    let head = headed c.header_of.ensures c.in_ok-header.was in
    let p = err_from_is_err_and c.from_residual-in_err-read_plan.result c.from_residual-in_err-read_plan.ensures.1 in
    rw (p.1, p.2) (runs-stop _ _ _ _ _ head _ _ _ c.read_plan.ensures _ c.in_err-read_plan.was)

pub read_runs-returns-in_err-read_plan-2 : goal.read_runs-returns-in_err-read_plan-2
read_runs-returns-in_err-read_plan-2 t c =
    let head = headed c.header_of.ensures c.in_ok-header.was in
    let bytes = part-below c.args.body.now 8 (c.in_ok-header.header.end.byte - 8) (λ i. (c.type_inv.body i).fits) in
    let many = whole_is laws _ _ _ _ _ _ _ _ bytes c.read_plan.ensures c.in_ok-read_plan.was in
    let p = err_from_is_err_and c.from_residual-in_err-read_plan-2.result c.from_residual-in_err-read_plan-2.ensures.1 in
    rw (p.1, p.2) (got-second _ _ _ _ _ _ _ _ _ _ _ c.plan_end-second.ensures
    (runs-stop-2 _ _ _ _ _ head _ _ _ c.read_plan.ensures _ c.in_ok-read_plan.was many _ _ c.read_plan-2.ensures _ c.in_err-read_plan-2.was))

pub read_runs-returns : goal.read_runs-returns
read_runs-returns t c =
    let head = headed c.header_of.ensures c.in_ok-header.was in
    let split = c.in_ok-header.header.end.byte in
    let all : Below 256 c.args.body.now = λ i. (c.type_inv.body i).fits in
    let bytes = part-below c.args.body.now 8 (split - 8) all in
    let bytes₂ = part-below c.args.body.now split (length c.args.body.now - split) all in
    let many = whole_is laws _ _ _ _ _ _ _ _ bytes c.read_plan.ensures c.in_ok-read_plan.was in
    let many₂ = whole_is laws _ _ _ _ _ _ _ _ bytes₂ c.read_plan-2.ensures c.in_ok-read_plan-2.was in
    got-second _ _ _ _ _ _ _ _ _ _ _ c.plan_end-second.ensures
    (runs_then _ _ _ _ _ head _ _ _ c.read_plan.ensures _ c.in_ok-read_plan.was many _ _ c.read_plan-2.ensures _ c.in_ok-read_plan-2.was many₂
    _ _ c.unroll_into.ensures)

pub read_runs-slice_bounds-read_plan-count : goal.read_runs-slice_bounds-read_plan-count
read_runs-slice_bounds-read_plan-count t c = (headed c.header_of.ensures c.in_ok-header.was).after

pub read_runs-slice_bounds-read_plan-start : goal.read_runs-slice_bounds-read_plan-start
read_runs-slice_bounds-read_plan-start t c = (headed c.header_of.ensures c.in_ok-header.was).after

pub read_runs-slice_bounds-read_plan-end : goal.read_runs-slice_bounds-read_plan-end
read_runs-slice_bounds-read_plan-end t c = (headed c.header_of.ensures c.in_ok-header.was).inside

pub read_runs-slice_bounds-read_plan-count-2 : goal.read_runs-slice_bounds-read_plan-count-2
read_runs-slice_bounds-read_plan-count-2 t c = (headed c.header_of.ensures c.in_ok-header.was).inside

pub read_runs-slice_bounds-read_plan-start-2 : goal.read_runs-slice_bounds-read_plan-start-2
read_runs-slice_bounds-read_plan-start-2 t c = (headed c.header_of.ensures c.in_ok-header.was).inside
