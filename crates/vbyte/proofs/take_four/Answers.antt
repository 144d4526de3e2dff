-- `vbyte::take_four` meets its contract: four bytes below 128 are stored, or nothing is. Assumes nothing.
use native.Mathlib.Omega.{arith}
use Rattle.vbyte.proofs.Takes.{ones-four}
use Rattle.vbyte.proofs.take_four.Goals as goal

pub returns : goal.returns
returns c =
    ones-four _ _ _ _ c.requires.0 c.from-a.ensures c.from-b.ensures c.from-c.ensures c.from-d.ensures
    (omega arith) (omega arith) (omega arith) (omega arith)
