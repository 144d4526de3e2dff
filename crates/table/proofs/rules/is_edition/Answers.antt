-- `is_edition` asks in the definition's order. Assumes nothing.
use mathlib.Core.Path.{◌∙◌}
use native.Mathlib.Omega.{arith}
use borrow.Author.Tests.{lt-leb}
use Rattle.table.proofs.RuleLaws.{too-early, by_last}
use Rattle.table.proofs.rules.is_edition.Goals as goal

pub returns-then-edition-ge-FIRST_EDITION : goal.returns-then-edition-ge-FIRST_EDITION
returns-then-edition-ge-FIRST_EDITION c = by_last _ c.if-edition-ge-FIRST_EDITION.true

pub returns-else-edition-ge-FIRST_EDITION : goal.returns-else-edition-ge-FIRST_EDITION
returns-else-edition-ge-FIRST_EDITION c = lt-leb _ _ (omega arith) ∙ too-early _ (omega arith)
