-- What the program finds at an offset of the plan bytes, by the same tests as the meaning's `plan_by`: a stage holds where its first inner plan
-- begins and how many stages that may have.
use Rattle.std.specs.Prelude.{ℕ, ◌+◌, ◌-◌, ◌&&◌, cond, List, leb, eqb, get_or, Option, Some, None}
use Rattle.meaning.specs.Codes.{is_code}
use Rattle.meaning.specs.Plan.{Plan, good, plan_size}
use Rattle.meaning.specs.declared.Offset.{Offset}
use Rattle.judge.specs.declared.stage.Stage.{Stage}
use Rattle.judge.specs.declared.stage.Stage.TheVariants.{Bad, Code, Reference, Differences, Runs}

abbrev pub stage_by : ℕ → ℕ → Offset → ℕ → Stage
stage_by stages b next less =
    cond (is_code b) (Code b)
    (cond (leb 1 stages && eqb b 16) (Reference next less)
    (cond (leb 1 stages && eqb b 17) (Differences next less)
    (cond (leb 1 stages && eqb b 18) (Runs next less) Bad)))

unfoldable pub stage_at : ℕ → List ℕ → ℕ → Stage
stage_at stages bytes at = stage_by stages (get_or bytes at 0) (record { byte = at + 1 }) (stages - 1)

-- where a plan that begins at an offset ends, if it is good
unfoldable pub good_end : Plan → ℕ → Option Offset
good_end p at = cond (good p) (Some (record { byte = at + plan_size p })) None
