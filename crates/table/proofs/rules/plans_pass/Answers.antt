-- `plans_pass` has passed the plans before a column's. Assumes nothing.
use mathlib.Core.Path.{refl}
use Rattle.table.proofs.RuleLaws.{plans-turn, plans-refuse, plans-end}
use Rattle.table.proofs.rules.plans_pass.Goals as goal

pub loop-column-init : goal.loop-column-init
loop-column-init c = record { counted = record { whole = c.requires; so = c.column_count-column-end.ensures.0 }; below = refl }

pub returns-in-Err : goal.returns-in-Err
returns-in-Err c =
    plans-refuse c.loop-column.invariant c.loop-column-test.true c.kind_at.ensures c.plan_at.ensures c.judge_plan-judged.ensures c.in-Err.is

pub loop-column-preserved : goal.loop-column-preserved
loop-column-preserved c =
    plans-turn c.loop-column.invariant c.loop-column-test.true c.kind_at.ensures c.plan_at.ensures c.judge_plan-judged.ensures c.in_default.is

pub returns : goal.returns
returns c = plans-end c.loop-column.invariant c.loop-column-test.false
