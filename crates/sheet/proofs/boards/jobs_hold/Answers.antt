-- `jobs_hold` asks the rules in their order. Assumes nothing.
use native.Mathlib.Omega.{arith}
use lib.ListN.{length}
use Rattle.sheet.proofs.BoardLaws.{checked-long, checked-whole, jobs-few, jobs-uneven, jobs-any, jobs-differ}
use Rattle.sheet.proofs.boards.jobs_hold.Goals as goal

pub column_count-columns-requires : goal.column_count-columns-requires
column_count-columns-requires c = checked-long c.args.sheet.now (length c.args.work.now) c.requires

pub returns-then-columns-lt2 : goal.returns-then-columns-lt2
returns-then-columns-lt2 c = jobs-few c.args.sheet.now c.column_count-columns.ensures.0 c.if-columns-lt2.true

pub count_at-jobs-requires : goal.count_at-jobs-requires
count_at-jobs-requires c = checked-whole c.args.sheet.now (length c.args.work.now) c.requires 0 (omega arith)

pub count_at-endings-requires : goal.count_at-endings-requires
count_at-endings-requires c = checked-whole c.args.sheet.now (length c.args.work.now) c.requires 1 (omega arith)

pub returns-then-jobs-endings : goal.returns-then-jobs-endings
returns-then-jobs-endings c =
    jobs-uneven c.args.sheet.now c.column_count-columns.ensures.0 c.if-columns-lt2.false c.count_at-jobs.ensures c.count_at-endings.ensures
    c.if-jobs-endings.true

pub kind_at-kind-requires : goal.kind_at-kind-requires
kind_at-kind-requires c = checked-whole c.args.sheet.now (length c.args.work.now) c.requires 0 (omega arith)

pub returns-then-kind-ne-RISING : goal.returns-then-kind-ne-RISING
returns-then-kind-ne-RISING c =
    jobs-any c.args.sheet.now c.column_count-columns.ensures.0 c.if-columns-lt2.false c.count_at-jobs.ensures c.count_at-endings.ensures
    c.if-jobs-endings.false c.kind_at-kind.ensures c.if-kind-ne-RISING.true

pub returns : goal.returns
returns c =
    jobs-differ c.args.sheet.now c.column_count-columns.ensures.0 c.if-columns-lt2.false c.count_at-jobs.ensures c.count_at-endings.ensures
    c.if-jobs-endings.false c.kind_at-kind.ensures c.if-kind-ne-RISING.false c.read_again-n.ensures c.differs_in.ensures
