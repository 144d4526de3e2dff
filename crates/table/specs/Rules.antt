-- What a sheet's rules ask of one column.
use Rattle.std.specs.Prelude.{Bool, ◌&&◌, leb}
use Rattle.meaning.specs.Answer.{Answer}
use Rattle.meaning.specs.Limits.{most_numbers, rising}
use Rattle.meaning.specs.Plan.{judge_plan}
use Rattle.meaning.specs.Sheet.{Column}

-- its kind is at most 1 and its count at most 1,024
abbrev pub entry_holds : Column → Bool
entry_holds c = leb c.kind rising && leb c.count most_numbers

-- its plan, judged for its kind
abbrev pub plan_judged : Column → Answer (Unit {0})
plan_judged c = judge_plan c.kind c.plan
