-- `push_delta` meets its contract. Assumes nothing.
use native.Mathlib.Omega.{arith}
use Rattle.elias.proofs.Writing.{sized, rest-there, rest-small, delta-room, delta-room-2, delta-pushed}
use Rattle.elias.proofs.output.Pending.push_delta.Goals as goal

pub push_gamma-next-requires : goal.push_gamma-next-requires
push_gamma-next-requires c =
    let long = sized c.bit_length-long.ensures.0 c.requires.1 c.requires.2 in
    (delta-room long c.requires.0, long.some, omega (arith, long.few))

pub overflow_sub-v : goal.overflow_sub-v
overflow_sub-v c =
    let long = sized c.bit_length-long.ensures.0 c.requires.1 c.requires.2 in
    rest-there long

pub push-requires : goal.push-requires
push-requires c =
    let long = sized c.bit_length-long.ensures.0 c.requires.1 c.requires.2 in
    (delta-room-2 long c.requires.0 c.push_gamma-next.ensures, rest-small long, omega (arith, long.few))

pub returns : goal.returns
returns c =
    let long = sized c.bit_length-long.ensures.0 c.requires.1 c.requires.2 in
    delta-pushed long c.push_gamma-next.ensures c.push.ensures
