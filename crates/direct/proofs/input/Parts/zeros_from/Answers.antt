-- `zeros_from` meets its contract: each turn counts one zero. Assumes nothing.
use mathlib.Core.Path.{sym, ◌∙◌}
use native.Mathlib.Omega.{arith}
use Rattle.direct.proofs.Fits.{data-few}
use Rattle.direct.proofs.Zeros.{from-none, from-stop, from-turn}
use Rattle.direct.proofs.input.Parts.zeros_from.Goals as goal

pub overflow_add-index : goal.overflow_add-index
overflow_add-index c = omega (arith, c.requires, data-few c.args.self.now.fit c.args.self.now.small)

pub returns-then-self-index : goal.returns-then-self-index
returns-then-self-index c = from-none c.loop-zeros.invariant c.if-self-index.true

pub returns-then-not-clear : goal.returns-then-not-clear
returns-then-not-clear c = from-stop c.loop-zeros.invariant c.if-self-index.false (sym c.clear.ensures ∙ c.if-not-clear.true)

pub loop-zeros-preserved : goal.loop-zeros-preserved
loop-zeros-preserved c =
    from-turn c.loop-zeros.invariant c.loop-zeros-test.true c.if-self-index.false (sym c.clear.ensures ∙ c.if-not-clear.false)
