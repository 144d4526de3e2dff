-- `done` meets its contract: the definition's tests in turn. Assumes nothing.
use mathlib.Core.Path.{sym, ◌∙◌}
use native.Mathlib.Omega.{arith}
use Rattle.meaning.specs.Direct.{flag_bytes, sum_count, sums_at, data_at}
use Rattle.direct.proofs.Dones.{done-unfit, done-before, done-over, done-spare, done-sums}
use Rattle.direct.proofs.Fits.{heading-none, data-few}
use Rattle.direct.proofs.done.Goals.{then-at-d-via-then-at-d, then-at-d-via-else-at-d+then-data_at-d}
use Rattle.direct.proofs.done.Goals as goal

pub returns-in_default : goal.returns-in_default
returns-in_default c = done-unfit _ c.args.at (heading-none _ c.of.ensures.told c.in_default.is).0

pub data_at-requires : goal.data_at-requires
data_at-requires c = omega (arith, data-few c.in-Ok.parts.fit c.in-Ok.parts.small)

pub overflow_add-data_at : goal.overflow_add-data_at
unfolding data_at sums_at flag_bytes sum_count
overflow_add-data_at c = omega (arith, data-few c.in-Ok.parts.fit c.in-Ok.parts.small, c.data_at.ensures)

pub sums_true-requires : goal.sums_true-requires
sums_true-requires c = rw c.in-Ok.ensures.same c.requires

pub returns-then-at-d : goal.returns-then-at-d
returns-then-at-d c =
    let fit = c.in-Ok.parts.fit in
    rw (← c.in-Ok.ensures.same)
    (elim c.then-at-d.branch [
      | then-at-d-via-then-at-d w ↦ done-before _ c.args.at fit w.if-at-d.true
      | then-at-d-via-else-at-d+then-data_at-d w ↦ done-over _ c.args.at fit w.if-at-d.false (rw (← w.data_at.ensures) w.if-data_at-d.true)
    ])

pub returns-then-spare_zero : goal.returns-then-spare_zero
returns-then-spare_zero c =
    rw (← c.in-Ok.ensures.same)
    (c.sums_true.ensures
    ∙ done-sums _ c.args.at c.in-Ok.parts.fit c.if-at-d.false (rw (← c.data_at.ensures) c.if-data_at-d.false) (sym c.spare_zero.ensures ∙ c.if-spare_zero.true))

pub returns-else-spare_zero : goal.returns-else-spare_zero
returns-else-spare_zero c =
    rw (← c.in-Ok.ensures.same, c.if-spare_zero.false)
    (done-spare _ c.args.at c.in-Ok.parts.fit c.if-at-d.false (rw (← c.data_at.ensures) c.if-data_at-d.false)
    (sym c.spare_zero.ensures ∙ c.if-spare_zero.false))
