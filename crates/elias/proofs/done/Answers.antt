-- `done` meets its contract: seven bits show whether those that are left are 0. Assumes nothing.
use mathlib.Core.Path.{◌∙◌}
use native.Mathlib.Omega.{arith}
use borrow.Author.Tests.{le-ltb}
use Rattle.elias.proofs.Pack.{bits_left}
use Rattle.elias.proofs.Seen.{seen_more, seen_done}
use Rattle.elias.proofs.done.Goals as goal

pub returns-then-left-lt8 : goal.returns-then-left-lt8
returns-then-left-lt8 c =
    let a = c.args in
    seen_done a.body.now a.at c.peek.result c.top.result c.peek.ensures (omega (arith, bits_left a.at.bit.index a.body.now)) c.top.ensures

pub returns-else-left-lt8 : goal.returns-else-left-lt8
returns-else-left-lt8 c =
    let a = c.args in
    le-ltb _ 8 c.if-left-lt8.false ∙ seen_more a.body.now a.at (omega (arith, bits_left a.at.bit.index a.body.now))
