-- `sums_true` meets its contract: each turn adds a stretch's ones. Assumes nothing.
use mathlib.Core.Path.{sym, ◌∙◌}
use native.Mathlib.Omega.{arith}
use Rattle.meaning.specs.Direct.{sum_count}
use Rattle.direct.proofs.Dones.{adding-start, stretch-inside, ones-fit, adding-false, adding-turn, adding-end}
use Rattle.direct.proofs.input.Parts.sums_true.Goals as goal

pub loop-s-init : goal.loop-s-init
loop-s-init c = adding-start c.args.self.now.fit c.requires

pub ones_in-ones-requires : goal.ones_in-ones-requires
ones_in-ones-requires c = omega (arith, stretch-inside c.loop-s.invariant c.loop-s-test.true, c.loop-s.invariant.short)

pub overflow_add-ones : goal.overflow_add-ones
overflow_add-ones c = omega (arith, ones-fit c.loop-s.invariant c.loop-s-test.true c.ones_in-ones.ensures)

pub sum_at-requires : goal.sum_at-requires
unfolding sum_count
sum_at-requires c = c.loop-s-test.true

pub returns-then-sum_at-ones : goal.returns-then-sum_at-ones
returns-then-sum_at-ones c =
    adding-false c.loop-s.invariant c.loop-s-test.true c.ones_in-ones.ensures
    (λ e. c.if-sum_at-ones.true (c.sum_at.ensures ∙ e))

pub loop-s-preserved : goal.loop-s-preserved
loop-s-preserved c =
    adding-turn c.loop-s.invariant c.loop-s-test.true c.ones_in-ones.ensures (sym c.sum_at.ensures ∙ c.if-sum_at-ones.false)

pub returns : goal.returns
returns c = adding-end c.loop-s.invariant c.loop-s-test.false
