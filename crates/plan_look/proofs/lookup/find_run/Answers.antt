-- `find_run`: a code's lengths or a stage's. Assumes nothing.
use mathlib.Core.Path.{sym}
use Rattle.judge.proofs.PlanLaws.{at_code}
use Rattle.plan_look.proofs.Lookups.{code-run}
use Rattle.plan_look.proofs.lookup.find_run.Goals as goal

pub returns : goal.returns
returns c =
    let is = at_code _ _ _ _ (sym c.in-Code.ensures) in
    code-run _ _ _ _ is.0 _ _ _ c.seek_code.ensures
