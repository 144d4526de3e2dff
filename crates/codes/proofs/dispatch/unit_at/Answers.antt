use native.Mathlib.Omega.{arith}
use Rattle.codes.proofs.Numbered.{code-1, code-2, code-3, code-4, code-5, code-6, code-7, code-8}
use Rattle.codes.proofs.dispatch.unit_at.Goals as goal

pub returns-in-1 : goal.returns-in-1
returns-in-1 c = rw (code-1 _ c.in-1.is) c.unit.ensures

pub returns-in-2 : goal.returns-in-2
returns-in-2 c = rw (code-2 _ c.in-2.is) c.unit-in-2.ensures

pub returns-in-3 : goal.returns-in-3
returns-in-3 c = rw (code-3 _ c.in-3.is) c.unit-in-3.ensures

pub returns-in-4 : goal.returns-in-4
returns-in-4 c = rw (code-4 _ c.in-4.is) c.unit-in-4.ensures

pub returns-in-5 : goal.returns-in-5
returns-in-5 c = rw (code-5 _ c.in-5.is) c.unit-in-5.ensures

pub returns-in-6 : goal.returns-in-6
returns-in-6 c = rw (code-6 _ c.in-6.is) c.unit-in-6.ensures

pub returns-in-8 : goal.returns-in-8
returns-in-8 c = rw (code-8 _ c.in-8.is) c.unit-in-8.ensures

pub returns-in_default : goal.returns-in_default
returns-in_default c =
    rw (code-7 c.args.code (omega arith) (omega arith) (omega arith) (omega arith) (omega arith) (omega arith) (omega arith)) c.unit-in_default.ensures
