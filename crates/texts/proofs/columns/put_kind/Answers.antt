-- Kind 1 is rising, and every other is any. Assumes nothing.
use native.Mathlib.Omega.{arith}
use borrow.Author.Tests.{eq-eqb, ne_eqb}
use Rattle.meaning.specs.Limits.{rising}
use Rattle.meaning.specs.Texts.{text, kind_text}
use Rattle.texts.proofs.Putting.{widened}
use Rattle.texts.proofs.columns.put_kind.Goals as goal

pub returns-then-kind-eq-RISING : goal.returns-then-kind-eq-RISING
unfolding kind_text text
returns-then-kind-eq-RISING c =
    let known = eq-eqb c.args.kind rising c.if-kind-eq-RISING.true in
    rw known (widened c.next.ensures (omega arith))

pub returns-else-kind-eq-RISING : goal.returns-else-kind-eq-RISING
unfolding kind_text text
returns-else-kind-eq-RISING c =
    let known = ne_eqb c.args.kind rising c.if-kind-eq-RISING.false in
    rw known (widened c.next-else-kind-eq-RISING.ensures (omega arith))
