-- `bit_length` meets its contract. Assumes nothing.
use native.Mathlib.Omega.{arith}
use Rattle.elias.proofs.Length.{length-log}
use Rattle.elias.proofs.output.bit_length.Goals as goal

pub returns : goal.returns
returns c =
    let long = length-log c.ilog2.result c.args.v c.requires.1 c.ilog2.ensures.power_le c.ilog2.ensures.next_power_gt in
    (omega (arith, long.is), omega arith, omega (arith, long.short))
