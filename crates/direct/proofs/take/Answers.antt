-- `take` meets its contract: after the plain numbers each turn takes one. Assumes nothing.
use mathlib.Core.Path.{◌≡◌}
use mathlib.Core.List.{[]}
use native.Mathlib.Omega.{arith}
use Rattle.meaning.specs.Codes.{code_direct}
use Rattle.meaning.proofs.Codes.{spare-always}
use Rattle.meaning.proofs.Taking.{took-none}
use Rattle.direct.proofs.Nexts.{onward-turn, onward-end}
use Rattle.direct.proofs.take.Goals as goal

pub returns-in_default : goal.returns-in_default
returns-in_default c = took-none code_direct _ _ _ _ _ _ (spare-always []) _ c.taken.ensures

pub returns-in_default-next_number : goal.returns-in_default-next_number
returns-in_default-next_number c =
    rw (← c.in-Ok.ensures.same)
    (onward-end c.loop-i.invariant c.min-most.ensures c.take_plain-begun.ensures c.from.ensures c.taken-in_default-next_number.ensures)

pub loop-i-preserved : goal.loop-i-preserved
loop-i-preserved c = onward-turn c.loop-i.invariant c.loop-i-test.true _ c.next_number.ensures c.in-Ok-next_number.is

pub returns : goal.returns
returns c =
    let all : c.min-most.result ≡ c.loop-i.i = omega (arith, c.loop-i-test.false, c.loop-i.auto, c.take_plain-begun.ensures.took.few) in
    rw (← c.in-Ok.ensures.same)
    (onward-end c.loop-i.invariant c.min-most.ensures c.take_plain-begun.ensures c.from-2.ensures (rw all at c.taken-2.ensures))
