-- What was taken, or the unit that was read. Assumes nothing.
use mathlib.Core.Path.{◌≡◌}
use native.Mathlib.Omega.{arith}
use lib.ListN.{length, length-take}
use Rattle.std.proofs.lemmas.Result.{err_from_is_err_and}
use Rattle.meaning.specs.Limits.{unit_places}
use Rattle.codes.proofs.Numbered.{laws}
use Rattle.codes.proofs.Stretches.{passed-taken, kept-none, passed-one, unit-refused}
use borrow.Author.Rules.{rules}
use Rattle.codes.proofs.stretch.or_unit.Goals as goal

pub returns-then-plain-gt0 : goal.returns-then-plain-gt0
returns-then-plain-gt0 c = λ before t. record { says = passed-taken t c.if-plain-gt0.true }

pub returns-in_err-read : goal.returns-in_err-read
returns-in_err-read c =
    let p = err_from_is_err_and c.from_residual.result c.from_residual.ensures.1 in
    λ before t. rw (p.1, p.2) (record { says = (unit-refused c.unit_at.ensures c.in_err-read.was, kept-none t c.if-plain-gt0.false) })

pub lay-requires : goal.lay-requires
lay-requires c =
    let few = c.unit_at.ensures.few _ c.in_ok-read.was in
    (omega arith, omega (arith, c.requires.0.inside))

pub spare_after-spare-requires : goal.spare_after-spare-requires
spare_after-spare-requires c =
    omega (arith, c.unit_at.ensures.few _ c.in_ok-read.was, length-take c.in_ok-read.read.count c.in_ok-read.read.numbers)

pub returns : goal.returns
returns c = λ before t.
    let whole : length c.in_ok-read.read.numbers ≡ unit_places = search rules in
    record {
      says =
          passed-one (laws c.args.code) (λ i. (c.type_inv.body i).fits) c.requires.1 c.unit_at.ensures c.in_ok-read.was whole c.min.ensures
          (kept-none t c.if-plain-gt0.false) c.lay.ensures c.spare_after-spare.ensures;
    }
