-- The answers of `first_three` are calls 0, 1 and 2: each call of `step` leaves the reader where the next call finds it. Assumes nothing.
use mathlib.Core.Path.{ap, ◌∙◌}
use Rattle.reader.specs.Steps.{standing}
use Rattle.reader.proofs.Calls.{stands-first, stands-next, tells-call}
use Rattle.reader.proofs.first_three.Goals as goal

pub returns : goal.returns
returns c =
    let sheet = c.args.sheet.now in
    let k = c.args.column in
    let r₀ = c.open.result.0 in
    let e₀ = stands-first sheet k r₀ c.open.ensures.0 in
    let e₁ = ap standing c.step-first.ensures.1 ∙ stands-next sheet k 0 r₀ e₀ in
    let e₂ = ap standing c.step-second.ensures.1 ∙ stands-next sheet k 1 c.step-first.new.r e₁ in (
      tells-call sheet k 0 r₀ c.step-first.result e₀ c.step-first.ensures.0,
      tells-call sheet k 1 c.step-first.new.r c.step-second.result e₁ c.step-second.ensures.0,
      tells-call sheet k 2 c.step-second.new.r c.step-third.result e₂ c.step-third.ensures.0,
    )
