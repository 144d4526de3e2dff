-- The numbers at the first places have been added up, one by one. Assumes nothing.
use Prim.Native.Nat.{◌+◌}
use mathlib.Core.Path.{◌≡◌, sym, ap, ◌∙◌}
use native.Mathlib.Omega.{arith}
use Rattle.std.proofs.lemmas.Result.{err_from_is_err_and}
use Rattle.meaning.specs.Direct.{look_direct}
use Rattle.codes.specs.Firsts.{total}
use Rattle.codes.proofs.Totals.{total-none, total-refused, total-one}
use Rattle.codes.proofs.directly.total_direct.Goals as goal

pub loop-number-init : goal.loop-number-init
loop-number-init c = (total-none (look_direct c.args.body.now), omega arith)

pub lookup-requires : goal.lookup-requires
lookup-requires c = c.requires.short

pub loop-number-preserved : goal.loop-number-preserved
loop-number-preserved c =
    (total-one (look_direct c.args.body.now) c.loop-number.invariant.0 (sym c.in_ok-lookup.ensures) c.from.ensures, omega (arith, c.loop-number.invariant.1))

pub returns-in_err-lookup : goal.returns-in_err-lookup
returns-in_err-lookup c =
    let p = err_from_is_err_and c.from_residual.result c.from_residual.ensures.1 in
    rw (p.1, p.2) (sym (total-refused (look_direct c.args.body.now) _ _ _ _ (omega (arith, c.loop-number-test.true)) c.loop-number.invariant.0
    (sym c.in_err-lookup.ensures)))

pub returns : goal.returns
returns c =
    let all : c.loop-number.number ≡ c.args.place.number + 1 = omega (arith, c.loop-number-test.false) in
    sym c.loop-number.invariant.0 ∙ ap (total (look_direct c.args.body.now)) all
