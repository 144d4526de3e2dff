-- `eight_near` meets its contract, whether or not eight bytes are there. Assumes nothing.
use Rattle.elias.proofs.Windows.{window-bits, over_zeros, near_end}
use Rattle.elias.proofs.input.eight_near.Goals as goal

pub returns-then-first-body : goal.returns-then-first-body
returns-then-first-body c = window-bits c.args.body.now c.args.at.byte (λ i. (c.type_inv.body i).fits) c.eight_inside.ensures c.from_be_bytes.ensures

pub returns : goal.returns
returns c =
    let s = c.args.body.now in
    let put = c.copy_from_slice.new.self in
    window-bits s c.args.at.byte {bs = over_zeros s put c.min.result} (λ i. (c.type_inv.body i).fits)
    (near_end s put c.args.at.byte c.min.result c.if-first-body.false c.min.ensures c.copy_from_slice.ensures.after) c.from_be_bytes-2.ensures
