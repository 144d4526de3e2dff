-- The first numbers by a plan: what the callees ensure is handed to the law of its stage. Assumes nothing.
use Prim.Native.Nat.{◌-◌}
use mathlib.Core.Path.{refl, sym}
use native.Mathlib.Omega.{arith}
use lib.ListN.{length}
use Rattle.judge.proofs.PlanLaws.{at-bad, at_code, at-reference, at-differences, at-runs}
use Rattle.stages.proofs.Headers.{headed, headless}
use Rattle.stages.proofs.Parts.{part-short}
use Rattle.stages.proofs.Rooms.{fits-list, fits-inner, fits-runs, fits-values, fits-lengths, fits-spread}
use Rattle.plan_look.proofs.Plans.{code-space, bad-firsts, code-firsts, same-firsts, reference-none, reference-firsts}
use Rattle.plan_look.proofs.Plans.{differences-firsts, runs_none, runs-firsts}
use Rattle.plan_look.proofs.firsts.+firsts_plan_firsts_runs.Goals as goal

-- ---- firsts_plan

pub firsts_plan-firsts_code-requires : goal.firsts_plan-firsts_code-requires
firsts_plan-firsts_code-requires t c = code-space c.requires.0 c.requires.1

pub firsts_plan-returns-then-body-lt4 : goal.firsts_plan-returns-then-body-lt4
firsts_plan-returns-then-body-lt4 t c =
    let is = at-reference _ _ _ _ _ (sym c.in-Reference.ensures) in
    reference-none _ _ _ _ _ _ _ is.0 c.if-body-lt4.true c.ended-then-body-lt4.ensures

pub firsts_plan-firsts_plan-got-requires : goal.firsts_plan-firsts_plan-got-requires
firsts_plan-firsts_plan-got-requires t c =
    let is = at-reference _ _ _ _ _ (sym c.in-Reference.ensures) in
    (omega arith, (fits-inner c.requires.0 is.1 (part-short c.args.body.now 4 (length c.args.body.now - 4)), c.requires.1))

pub firsts_plan-raise_firsts-count-requires : goal.firsts_plan-raise_firsts-count-requires
firsts_plan-raise_firsts-count-requires t c =
    let room = fits-list c.requires.0 in
    let same = c.firsts_plan-got.auto.work in
    let few = c.firsts_plan-got.ensures.most in
    omega (arith, c.requires.1)

pub firsts_plan-firsts_plan-got-requires-in-Differences : goal.firsts_plan-firsts_plan-got-requires-in-Differences
firsts_plan-firsts_plan-got-requires-in-Differences t c =
    let is = at-differences _ _ _ _ _ (sym c.in-Differences.ensures) in
    (omega arith, (fits-inner c.requires.0 is.1 (omega arith), c.requires.1))

pub firsts_plan-sum_firsts-count-requires : goal.firsts_plan-sum_firsts-count-requires
firsts_plan-sum_firsts-count-requires t c =
    let room = fits-list c.requires.0 in
    let same = c.firsts_plan-got-in-Differences.auto.work in
    let few = c.firsts_plan-got-in-Differences.ensures.most in
    omega (arith, c.requires.1)

pub firsts_plan-firsts_runs-requires : goal.firsts_plan-firsts_runs-requires
firsts_plan-firsts_runs-requires t c =
    let is = at-runs _ _ _ _ _ (sym c.in-Runs.ensures) in
    (omega arith, (fits-runs c.requires.0 is.1, c.requires.1))

pub firsts_plan-returns-in-Bad : goal.firsts_plan-returns-in-Bad
firsts_plan-returns-in-Bad t c = bad-firsts _ _ _ _ _ _ (at-bad _ _ _ (sym c.in-Bad.ensures)) c.ended.ensures

pub firsts_plan-returns-in-Code : goal.firsts_plan-returns-in-Code
firsts_plan-returns-in-Code t c =
    let is = at_code _ _ _ _ (sym c.in-Code.ensures) in
    code-firsts _ _ _ _ _ _ _ _ _ is.0 c.firsts_code.ensures

pub firsts_plan-returns-else-body-lt4 : goal.firsts_plan-returns-else-body-lt4
firsts_plan-returns-else-body-lt4 t c =
    let is = at-reference _ _ _ _ _ (sym c.in-Reference.ensures) in
    let room = fits-list c.requires.0 in
    let same = c.firsts_plan-got.auto.work in
    let few = c.firsts_plan-got.ensures.most in
    reference-firsts _ _ _ _ _ _ _ _ _ _ _ _ is.0 c.if-body-lt4.false _ c.word_at-m.ensures c.firsts_plan-got.ensures
    c.raise_firsts-count.ensures
    c.stop_at.ensures (omega (arith, c.requires.1))

pub firsts_plan-returns-in-Differences : goal.firsts_plan-returns-in-Differences
firsts_plan-returns-in-Differences t c =
    let is = at-differences _ _ _ _ _ (sym c.in-Differences.ensures) in
    let room = fits-list c.requires.0 in
    let same = c.firsts_plan-got-in-Differences.auto.work in
    let few = c.firsts_plan-got-in-Differences.ensures.most in
    differences-firsts _ _ _ _ _ _ _ _ _ _ _ _ is.0 c.firsts_plan-got-in-Differences.ensures c.sum_firsts-count.ensures c.stop_at-in-Differences.ensures
    (omega (arith, c.requires.1))

pub firsts_plan-returns-in-Runs : goal.firsts_plan-returns-in-Runs
firsts_plan-returns-in-Runs t c =
    let is = at-runs _ _ _ _ _ (sym c.in-Runs.ensures) in
    same-firsts _ _ _ _ _ _ _ _ _ is.0 c.firsts_runs.ensures

-- ---- firsts_runs

pub firsts_runs-firsts_plan-values-requires : goal.firsts_runs-firsts_plan-values-requires
firsts_runs-firsts_plan-values-requires t c =
    let head = headed c.header_of.ensures c.in-Ok.is in
    let split = c.in-Ok.header.end.byte in
    let short = part-short c.args.body.now 8 (split - 8) in
    (omega (arith), (fits-values c.requires.0 head.few short refl, omega (arith, c.min-few.ensures)))

pub firsts_runs-firsts_plan-lengths-requires : goal.firsts_runs-firsts_plan-lengths-requires
firsts_runs-firsts_plan-lengths-requires t c =
    let head = headed c.header_of.ensures c.in-Ok.is in
    let split = c.in-Ok.header.end.byte in
    let short = part-short c.args.body.now split (length c.args.body.now - split) in
    let same = c.firsts_plan-values.auto.work in
    (omega (arith), (fits-lengths c.requires.0 head.few short same, omega (arith, c.min-few.ensures)))

pub firsts_runs-spread_runs-requires : goal.firsts_runs-spread_runs-requires
firsts_runs-spread_runs-requires t c =
    let head = headed c.header_of.ensures c.in-Ok.is in
    let small = c.min-few.ensures in (
      omega (arith, fits-spread c.requires.0),
      c.requires.1,
      omega (arith, c.firsts_plan-values.ensures.most, head.few),
      omega (arith, c.firsts_plan-lengths.ensures.most, head.few),
    )

pub firsts_runs-returns-in-Err : goal.firsts_runs-returns-in-Err
firsts_runs-returns-in-Err t c = runs_none _ _ _ _ _ _ _ _ _ _ (headless c.header_of.ensures c.in-Err.is) c.ended.ensures

pub firsts_runs-returns : goal.firsts_runs-returns
firsts_runs-returns t c =
    let head = headed c.header_of.ensures c.in-Ok.is in
    runs-firsts _ _ _ _ _ _ _ _ _ _ c.plan_end-after.ensures _ _ _ _ _ _ head c.min-few.ensures c.firsts_plan-values.ensures
    c.firsts_plan-lengths.ensures
    c.spread_runs.ensures

pub firsts_runs-slice_bounds-firsts_plan-count : goal.firsts_runs-slice_bounds-firsts_plan-count
firsts_runs-slice_bounds-firsts_plan-count t c = (headed c.header_of.ensures c.in-Ok.is).after

pub firsts_runs-slice_bounds-firsts_plan-start : goal.firsts_runs-slice_bounds-firsts_plan-start
firsts_runs-slice_bounds-firsts_plan-start t c = (headed c.header_of.ensures c.in-Ok.is).after

pub firsts_runs-slice_bounds-firsts_plan-end : goal.firsts_runs-slice_bounds-firsts_plan-end
firsts_runs-slice_bounds-firsts_plan-end t c = (headed c.header_of.ensures c.in-Ok.is).inside

pub firsts_runs-slice_bounds-firsts_plan-count-2 : goal.firsts_runs-slice_bounds-firsts_plan-count-2
firsts_runs-slice_bounds-firsts_plan-count-2 t c = (headed c.header_of.ensures c.in-Ok.is).inside

pub firsts_runs-slice_bounds-firsts_plan-start-2 : goal.firsts_runs-slice_bounds-firsts_plan-start-2
firsts_runs-slice_bounds-firsts_plan-start-2 t c = (headed c.header_of.ensures c.in-Ok.is).inside
