-- The numbers at the first places stand in work, looked up one by one. Assumes nothing.
use mathlib.Core.Path.{sym, ap, ◌∙◌}
use native.Mathlib.Omega.{arith}
use Rattle.meaning.specs.Says.{says}
use Rattle.codes.proofs.Lookings.{laid_none, laid_one, firsts-stop, firsts-all}
use Rattle.codes.proofs.directly.firsts_direct.Goals as goal

pub loop-number-init : goal.loop-number-init
loop-number-init c = laid_none

pub lookup-requires : goal.lookup-requires
lookup-requires c = c.requires.short

pub overflow_add-work : goal.overflow_add-work
overflow_add-work c = omega (arith, c.requires.room, c.loop-number-test.true)

pub bounds-work-to : goal.bounds-work-to
bounds-work-to c = omega (arith, c.requires.room, c.loop-number.invariant.long, c.loop-number-test.true)

pub loop-number-preserved : goal.loop-number-preserved
loop-number-preserved c =
    let laid = c.loop-number.invariant in
    laid_one laid (omega (arith, c.requires.room, laid.long, c.loop-number-test.true)) (sym c.lookup.ensures ∙ ap says c.in-Ok.is)

pub returns-in-Err : goal.returns-in-Err
returns-in-Err c = firsts-stop c.loop-number.invariant c.loop-number-test.true (sym c.lookup.ensures ∙ ap says c.in-Err.is)

pub returns : goal.returns
returns c = firsts-all c.loop-number.invariant (omega (arith, c.loop-number-test.false))
