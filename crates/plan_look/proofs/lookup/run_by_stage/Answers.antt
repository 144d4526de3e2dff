-- `run_by_stage`: lengths collected once, then sought. Assumes nothing.
use mathlib.Core.Path.{refl, ◌∙◌}
use Prim.Native.Nat.{◌≤◌}
use lib.ListN.{length}
use native.Mathlib.Omega.{arith}
use Rattle.plan_look.proofs.Lookups.{look-fits, run-sought}
use Rattle.plan_look.proofs.lookup.run_by_stage.Goals as goal

pub firsts_plan-got-requires : goal.firsts_plan-got-requires
firsts_plan-got-requires c = (look-fits c.requires.0 c.requires.2 c.requires.1 refl, omega (arith, c.min-few.ensures))

pub returns : goal.returns
returns c =
    let got = c.firsts_plan-got in
    let room : got.result.count ≤ length got.new.work
    = omega (arith, got.auto.work, got.ensures.most, c.min-few.ensures, c.requires.0.inside, c.requires.0.few) in
    c.run_of.ensures
    ∙ run-sought _ _ _ _ _ _ _ _ c.min-few.ensures got.ensures room c.seek_in.ensures c.in_ok-seek_in.was
