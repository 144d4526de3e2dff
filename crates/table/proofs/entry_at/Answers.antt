-- `entry_at` puts an entry together from its fields. Assumes nothing.
use native.Mathlib.Omega.{arith}
use Rattle.table.proofs.ColumnLaws.{within, entry-is}
use Rattle.table.proofs.entry_at.Goals as goal

pub kind_at-requires : goal.kind_at-requires
kind_at-requires c = within c.requires

pub plan_start-requires : goal.plan_start-requires
plan_start-requires c = within c.requires

pub count_at-requires : goal.count_at-requires
count_at-requires c = within c.requires

pub size_at-requires : goal.size_at-requires
size_at-requires c = within c.requires

pub body_start-requires : goal.body_start-requires
body_start-requires c =
    let there = within c.requires in
    (there.whole, omega arith)

pub returns : goal.returns
returns c =
    entry-is c.requires c.kind_at.ensures c.plan_start.ensures.0 c.count_at.ensures c.size_at.ensures.0 c.body_start.ensures
