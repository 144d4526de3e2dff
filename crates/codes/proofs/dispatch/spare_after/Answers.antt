-- G8IU alone leaves bytes spare. Assumes nothing.
use Rattle.codes.proofs.Numbered.{code-3, spare-other}
use Rattle.codes.proofs.dispatch.spare_after.Goals as goal

pub returns-then-code-eq3 : goal.returns-then-code-eq3
returns-then-code-eq3 c = rw (code-3 _ c.if-code-eq3.true) c.spare_after.ensures

pub returns : goal.returns
returns c = spare-other _ _ c.if-code-eq3.false
