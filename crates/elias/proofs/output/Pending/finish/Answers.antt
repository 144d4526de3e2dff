-- `finish` meets its contract. Assumes nothing.
use native.Mathlib.Omega.{arith}
use Rattle.elias.proofs.Pushing.{last-put, last_none}
use Rattle.elias.proofs.output.Pending.finish.Goals as goal

pub returns-then-count-eq0 : goal.returns-then-count-eq0
returns-then-count-eq0 c = last_none c.args.self c.if-count-eq0.true

pub returns : goal.returns
returns c = last-put c.requires (omega (arith, c.if-count-eq0.false)) c.put.ensures
