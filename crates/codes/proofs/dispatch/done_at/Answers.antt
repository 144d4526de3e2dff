-- Each arm is its code's end. Assumes nothing.
use native.Mathlib.Omega.{arith}
use Rattle.codes.proofs.Numbered.{code-4, code-8, done-elias, done-other}
use Rattle.codes.proofs.dispatch.done_at.Goals as goal

pub returns-in-4 : goal.returns-in-4
returns-in-4 c = rw (code-4 _ c.in-4.is)

pub returns-in-5 : goal.returns-in-5
returns-in-5 c = rw (done-elias c.args.code c.args.body.now c.args.at (omega arith) (omega arith)) c.done-in-5.ensures

pub returns-in-8 : goal.returns-in-8
returns-in-8 c = rw (code-8 _ c.in-8.is) c.done.ensures

pub returns-in_default : goal.returns-in_default
returns-in_default c = done-other c.args.code c.args.body.now c.args.at (omega arith) (omega arith) (omega arith) (omega arith)
