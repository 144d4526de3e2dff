-- `push_gamma` meets its contract. Assumes nothing.
use native.Mathlib.Omega.{arith}
use lib.Pow.{pow_pos}
use Rattle.elias.proofs.Writing.{sized, gamma-room, gamma-room-2, gamma-pushed}
use Rattle.elias.proofs.output.Pending.push_gamma.Goals as goal

pub push-next-requires : goal.push-next-requires
push-next-requires c =
    let long = sized c.bit_length-long.ensures.0 c.requires.1 c.requires.2 in
    (gamma-room long c.requires.0, pow_pos _, omega (arith, long.few))

pub push-requires : goal.push-requires
push-requires c =
    let long = sized c.bit_length-long.ensures.0 c.requires.1 c.requires.2 in
    (gamma-room-2 long c.requires.0 c.push-next.ensures, long.below, long.few)

pub returns : goal.returns
returns c =
    let long = sized c.bit_length-long.ensures.0 c.requires.1 c.requires.2 in
    gamma-pushed long c.push-next.ensures c.push.ensures
