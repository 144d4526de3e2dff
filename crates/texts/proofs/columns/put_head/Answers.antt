-- The line in three parts; the plan is the column's. Assumes nothing.
use native.Mathlib.Omega.{arith}
use Rattle.texts.proofs.ColumnLines.{plan-formed, column-line}
use Rattle.texts.proofs.columns.put_head.Goals as goal

pub put_plan-requires : goal.put_plan-requires
put_plan-requires c =
    (plan-formed c.entry_at-entry.ensures c.plan_of.ensures c.requires.0, omega (arith, c.put_named.ensures.short, c.requires.1))

pub returns : goal.returns
returns c =
    let plan = c.put_plan.ensures.wrote in
    record {
      wrote = column-line c.entry_at-entry.ensures c.plan_of.ensures c.put_named.ensures.wrote plan c.put_sized.ensures.wrote;
      short = omega arith;
      same = omega arith;
    }
