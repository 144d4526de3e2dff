-- `total_stage`: the numbers collected once, then added up. Assumes nothing.
use mathlib.Core.Path.{refl}
use native.Mathlib.Omega.{arith}
use Rattle.plan_look.proofs.Lookups.{look-fits}
use Rattle.plan_look.proofs.Turns.{total-fewer, total-whole}
use Rattle.plan_look.proofs.lookup.total_stage.Goals as goal

pub firsts_plan-got-requires : goal.firsts_plan-got-requires
firsts_plan-got-requires c = (look-fits c.requires.0 c.requires.1 (omega arith) refl, omega (arith, c.requires.0.inside))

pub returns-in-Some : goal.returns-in-Some
returns-in-Some c =
    total-fewer c.firsts_plan-got.ensures c.in-Some.is
    (omega (arith, c.firsts_plan-got.ensures.most, c.requires.0.inside, c.requires.0.few))

pub returns : goal.returns
returns c =
    total-whole c.firsts_plan-got.ensures c.in_default.is
    (omega (arith, c.requires.0.inside, c.requires.0.few)) _ c.total_of.ensures.0
