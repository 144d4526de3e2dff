-- `zeros_before` meets its contract: each turn counts one zero. Assumes nothing.
use mathlib.Core.Path.{sym, ◌∙◌}
use Rattle.direct.proofs.Zeros.{upto-none, upto-stop, upto-full, upto_turn}
use Rattle.direct.proofs.input.Parts.zeros_before.Goals as goal

pub returns-then-end-zeros : goal.returns-then-end-zeros
returns-then-end-zeros c = upto-none c.loop-zeros.invariant c.if-end-zeros.true

pub returns-then-not-clear : goal.returns-then-not-clear
returns-then-not-clear c =
    upto-stop c.loop-zeros.invariant c.loop-zeros-test.true c.if-end-zeros.false (sym c.clear.ensures ∙ c.if-not-clear.true)

pub loop-zeros-preserved : goal.loop-zeros-preserved
loop-zeros-preserved c =
    upto_turn c.loop-zeros.invariant c.loop-zeros-test.true c.if-end-zeros.false (sym c.clear.ensures ∙ c.if-not-clear.false)

pub returns : goal.returns
returns c = upto-full c.loop-zeros.invariant c.loop-zeros-test.false
