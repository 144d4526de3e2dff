-- `vbyte::number_at` meets its contract: each test is a law's premise. Assumes nothing.
use Rattle.std.proofs.Common.{refl, ◌∙◌}
use Rattle.vbyte.proofs.Steps.{number-none, number-one, number_more}
use Rattle.vbyte.proofs.number_at.Goals as goal

pub returns-in_err-first : goal.returns-in_err-first
returns-in_err-first c = number-none _ _ _ c.in_err-first.ensures c.from_residual.ensures.1

pub returns-then-first-lt128 : goal.returns-then-first-lt128
returns-then-first-lt128 c = number-one _ _ c.in_ok-first.ensures refl c.if-first-lt128.true

pub returns : goal.returns
returns c = c.from_second.ensures ∙ number_more _ _ c.in_ok-first.ensures refl c.if-first-lt128.false
