-- Stream VByte begins behind its control bytes, every other code with the body; code 8 asks that its parts fit. Assumes nothing.
use Prim.Native.Nat.{ℕ, ◌+◌, ◌/◌, ◌%◌, min}
use mathlib.Core.Path.{◌≡◌, sym, ap, ◌∙◌}
use mathlib.Core.Bool.{not}
use native.Mathlib.Omega.{arith}
use borrow.Author.Tests.{lt-leb, le-leb, not-true, not-false}
use Rattle.meaning.specs.Groups.{group_count}
use Rattle.codes.proofs.Numbered.{code-4, code-8, start-other}
use Rattle.codes.proofs.dispatch.start_at.Goals as goal

-- the count of groups
count-is : (n : ℕ) {m : ℕ} → m ≡ n / 4 + min 1 (n % 4) → m ≡ group_count n
unfolding group_count
count-is n e = omega (arith, e)

pub returns-then-body-controls : goal.returns-then-body-controls
returns-then-body-controls c =
    rw (code-4 c.args.code c.if-code-eq4.true, ← (count-is c.args.n c.div_ceil-controls.ensures), lt-leb _ _ c.if-body-controls.true)

pub returns-then-code-eq4 : goal.returns-then-code-eq4
returns-then-code-eq4 c =
    rw (code-4 c.args.code c.if-code-eq4.true, ← (count-is c.args.n c.div_ceil-controls.ensures), le-leb _ _ c.if-body-controls.false, c.from-first.ensures)

pub returns-then-not-parts_fit : goal.returns-then-not-parts_fit
returns-then-not-parts_fit c =
    rw (code-8 c.args.code c.if-code-eq8.true, sym c.parts_fit.ensures ∙ not-true _ (ap not c.if-not-parts_fit.true))

pub returns-else-not-parts_fit : goal.returns-else-not-parts_fit
returns-else-not-parts_fit c =
    rw (code-8 c.args.code c.if-code-eq8.true, sym c.parts_fit.ensures ∙ not-false _ (ap not c.if-not-parts_fit.false), c.from-first.ensures)

pub returns-else-code-eq8 : goal.returns-else-code-eq8
returns-else-code-eq8 c =
    rw c.from-first.ensures (sym (start-other c.args.code c.args.body.now c.args.n c.if-code-eq4.false c.if-code-eq8.false))
