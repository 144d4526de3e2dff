-- What a stage makes of the lookups below it, as the meaning's `look` says it.
use Rattle.std.specs.Prelude.{ℕ, ◌+◌, ◌*◌, min, cond, List, drop, ltb, Option, Some, None, unwrap_or}
use Rattle.meaning.specs.Answer.{Answer, given, refused, bind}
use Rattle.meaning.specs.Says.{refusal_number}
use Rattle.meaning.specs.Plan.{Plan, plan_at, plan_size}
use Rattle.meaning.specs.Stages.{within, seek, look}
use Rattle.meaning.specs.declared.Place.{Place}
use Rattle.meaning.specs.declared.Refusal.{Refusal}
use Rattle.meaning.specs.declared.Refusal.TheVariants.{Broken}
use Rattle.codes.specs.Firsts.{Firsts}
use Rattle.codes.specs.declared.First.{First}
use Rattle.stages.specs.Header.{header_in, header_told}
use Rattle.stages.specs.Runs.{run_fits}
use Rattle.stages.specs.declared.header.Header.{Header}
use Rattle.stages.specs.declared.Laid.{Laid}
use Rattle.stages.specs.declared.Sought.{Sought}
use Rattle.stages.specs.declared.Sought.TheVariants as sought

abbrev pub raised_at : ℕ → (ℕ → Answer ℕ) → ℕ → Answer ℕ
raised_at m at i = bind (at i) (λ x. within (m + x))

-- of n numbers in so many runs
abbrev pub runs_at : ℕ → ℕ → (ℕ → Answer ℕ) → (ℕ → Answer ℕ) → ℕ → Answer ℕ
runs_at n runs lengths values i = bind (seek lengths n i runs 0 0) values

-- so many numbers of k, and then a refusal where there are fewer
unfoldable pub ended_by : ℕ → ℕ → Refusal → First
ended_by k count e = cond (ltb count k) (record { count = count; stop = Some e }) (record { count = k; stop = None })

-- what was got, up to a number that is too large
unfoldable pub stop_at : First → ℕ → First
stop_at got count = cond (ltb count got.count) (record { count = count; stop = Some Broken }) got

-- why nothing follows what was got: where all was there, more is asked than there can be
abbrev pub stop_of : Option Refusal → Refusal
stop_of stop = unwrap_or stop Broken

-- why no run follows those that are laid, where l would be its length
unfoldable pub next_refusal : ℕ → First → First → Laid → ℕ → Refusal
next_refusal n values lengths laid l =
    cond (ltb laid.runs lengths.count) (cond (run_fits n laid.numbers l) (stop_of values.stop) Broken) (stop_of lengths.stop)

-- the run that is sought in the lengths of the first runs
abbrev pub run_of : First → Sought → Answer ℕ
run_of got (sought.At j) = given j.number
run_of got (sought.After s) = refused (refusal_number (stop_of got.stop))

-- the second inner plan of a run stage, behind its first that stands at an offset
abbrev pub second_at : ℕ → List ℕ → ℕ → Plan
second_at stages bytes at = plan_at stages bytes (at + plan_size (plan_at stages bytes at))

-- a body's header and the run that holds a place of n, where the runs' lengths are by this plan
unfoldable pub run_in : Plan → List ℕ → ℕ → ℕ → Answer ((ℕ × ℕ) × ℕ)
run_in p body n place =
    bind (header_in n body) (λ h. bind (seek (look p (drop h.1 body) h.0) n place h.0 0 0) (λ j. given (h, j)))

abbrev pub found_told : Header × Place → (ℕ × ℕ) × ℕ
found_told r = (header_told r.0, r.1.number)

-- the values and the lengths of the first runs stood in work, n and 2n places after the place from which their numbers stand now
abbrev pub RunsTurned : ℕ → ℕ → ℕ → ℕ → List ℕ → First → First → List ℕ → First → Type 0
RunsTurned from n k runs work values lengths work' r =
    (value_at length_at : ℕ → Answer ℕ) (before behind : List ℕ)
    → Firsts value_at (min runs k) (from + n) before work values → Firsts length_at (min runs k) (from + 2 * n) behind work lengths
    → Firsts (runs_at n runs length_at value_at) k from work work' r
