-- `plans_pass` has passed the plans before a column's. Assumes nothing.
use Rattle.table.proofs.RuleLaws.{PlansSo}
use Rattle.table.proofs.rules.plans_pass.Given as goal

abbrev pub invariant-loop-column : goal.invariant-loop-column
invariant-loop-column l = PlansSo l.sheet l.column-end l.column
