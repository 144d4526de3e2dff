-- `blank_from` asks each byte from the offset on. Assumes nothing.
use mathlib.Core.Path.{◌≡◌}
use mathlib.Core.Bool.{true, false}
use lib.Dec.{eqb}
use lib.ListN.{drop}
use borrow.Author.Tests.{tests}
use Rattle.std.proofs.Common.{rules}
use Rattle.std.proofs.lemmas.Iterator.{cases_from_all, YieldsList-from_slice}
use Rattle.std.proofs.lemmas.Iterator.Adapters.{YieldsList-from_skip}
use Rattle.meaning.proofs.Every.{all-told}
use Rattle.judge.proofs.blank_from.Goals as goal

pub returns : goal.returns
returns c =
    all-told (eqb 0) (drop c.args.at.byte c.args.plan.now) c.all.result
    (cases_from_all _ _ _ (λ b. eqb 0 b ≡ true) (λ b. eqb 0 b ≡ false) c.all.ensures.ran
    (YieldsList-from_skip c.args.at.byte (YieldsList-from_slice c.args.plan.now cc) cc)
    (λ x q k. search (rules, tests)) (λ x q k. search (rules, tests)))
