-- A plan is prefix text in bytes, zero-filled to 15. Codes: 1 to 8. Stages: 16 reference, 17 differences, each followed by one plan; 18 runs,
-- followed by two. Here it is a tree, `bad` where its bytes are malformed.
use Rattle.std.specs.Prelude.{ℕ, zero, suc, ◌+◌, Bool, true, false, ◌&&◌, cond, List, ◌∷◌, leb, eqb, length, get_or, drop, replicate}
use Rattle.meaning.specs.Answer.{Answer, given, need}
use Rattle.meaning.specs.Limits.{plan_bytes, most_stages, most_numbers, any, rising, bad_plan, unfit_plan, bad_orders}
use Rattle.meaning.specs.Lists.{all}
use Rattle.meaning.specs.Codes.{is_code, code_of}

pub data Plan : Type 0 where
  bad : Plan
  code : ℕ → Plan
  reference : Plan → Plan
  differences : Plan → Plan
  runs : Plan → Plan → Plan

-- how many bytes a plan takes
unfoldable pub plan_size : Plan → ℕ
plan_size bad = 0
plan_size (code c) = 1
plan_size (reference p) = 1 + plan_size p
plan_size (differences p) = 1 + plan_size p
plan_size (runs p q) = 1 + (plan_size p + plan_size q)

-- the plan whose first byte is b: a code; or, if a stage may still stand here, a stage over `next`, the plan behind b, and of 18 also `second`, the plan
-- behind `next`; any other byte is malformed
abbrev pub plan_by : ℕ → ℕ → Plan → Plan → Plan
plan_by stages b next second =
    cond (is_code b) (code b)
    (cond (leb 1 stages && eqb b 16) (reference next)
    (cond (leb 1 stages && eqb b 17) (differences next)
    (cond (leb 1 stages && eqb b 18) (runs next second) bad)))

-- the plan that begins at an offset of the plan bytes, with at most so many stages one within the other
unfoldable pub plan_at : ℕ → List ℕ → ℕ → Plan
plan_at zero bytes at = plan_by 0 (get_or bytes at 0) bad bad
plan_at (suc stages) bytes at =
    let next = plan_at stages bytes (at + 1) in
    plan_by (suc stages) (get_or bytes at 0) next (plan_at stages bytes (at + 1 + plan_size next))

-- a run stage's plan, by its two inner plans that stand at an offset, one behind the other
abbrev pub runs_at : ℕ → List ℕ → ℕ → Plan
runs_at stages bytes at = runs (plan_at stages bytes at) (plan_at stages bytes (at + plan_size (plan_at stages bytes at)))

-- the plan of 15 bytes
unfoldable pub plan_of : List ℕ → Plan
plan_of bytes = plan_at most_stages bytes 0

unfoldable pub good : Plan → Bool
good bad = false
good (code c) = true
good (reference p) = good p
good (differences p) = good p
good (runs p q) = good p && good q

-- no unknown number, no zero where a plan must begin, no stage that would make depth 5, no nonzero byte after the end
unfoldable pub well_formed : List ℕ → Bool
well_formed bytes = eqb (length bytes) plan_bytes && (good (plan_of bytes) && all (eqb 0) (drop (plan_size (plan_of bytes)) bytes))

-- stage 17 needs a rising list and hands on kind any; stage 16 keeps the kind; in stage 18 values keep the kind, lengths are any
unfoldable pub passes : ℕ → Plan → Bool
passes kind bad = false
passes kind (code c) = true
passes kind (reference p) = passes kind p
passes kind (differences p) = eqb kind rising && passes any p
passes kind (runs p q) = passes kind p && passes any q

-- a plan judged for a kind: malformed, then not passed
unfoldable pub judge_plan : ℕ → List ℕ → Answer (Unit {0})
judge_plan kind bytes =
    need (well_formed bytes) bad_plan (need (passes kind (plan_of bytes)) unfit_plan (given tt))

-- asked alone, the judge refuses a kind above 1 first
unfoldable pub judge : ℕ → List ℕ → Answer (Unit {0})
judge kind bytes = need (leb kind rising) bad_orders (judge_plan kind bytes)

-- the default in an order: 1 for kind 0, 17 1 for kind 1
unfoldable pub default_plan : ℕ → List ℕ
default_plan kind = cond (eqb kind rising) (17 ∷ 1 ∷ replicate 13 0) (1 ∷ replicate 14 0)

-- a plan of 15 zeros in an order means the default
unfoldable pub plan_used : ℕ → List ℕ → List ℕ
plan_used kind bytes = cond (eqb (length bytes) plan_bytes && all (eqb 0) bytes) (default_plan kind) bytes

-- the worst size of a plan for n numbers: reference 4 more than its inner plan, differences the same, runs 8 plus both inner plans at n
unfoldable pub worst_plan : Plan → ℕ → ℕ
worst_plan bad n = 0
worst_plan (code c) n = (code_of c).worst n
worst_plan (reference p) n = 4 + worst_plan p n
worst_plan (differences p) n = worst_plan p n
worst_plan (runs p q) n = 8 + (worst_plan p n + worst_plan q n)

-- asked alone, it refuses malformed plans, then n above 1,024
unfoldable pub worst_size : List ℕ → ℕ → Answer ℕ
worst_size bytes n =
    need (well_formed bytes) bad_plan (need (leb n most_numbers) bad_orders (given (worst_plan (plan_of bytes) n)))
