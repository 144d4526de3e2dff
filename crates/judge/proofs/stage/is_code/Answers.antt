-- `is_code` tells the codes, 1 to the last. Assumes nothing.
use mathlib.Core.Path.{◌∙◌}
use native.Mathlib.Omega.{arith}
use borrow.Author.Tests.{lt-leb}
use Rattle.judge.proofs.StageLaws.{code-low, code-test}
use Rattle.judge.proofs.stage.is_code.Goals as goal

pub returns-then-b-ge1 : goal.returns-then-b-ge1
returns-then-b-ge1 c = code-test _ c.if-b-ge1.true

pub returns-else-b-ge1 : goal.returns-else-b-ge1
returns-else-b-ge1 c = lt-leb _ _ (omega arith) ∙ code-low _ (omega arith)
