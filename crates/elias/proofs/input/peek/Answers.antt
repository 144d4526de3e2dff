-- `peek` meets its contract. Assumes nothing.
use Rattle.meaning.specs.Bits.{bits_of}
use Rattle.elias.proofs.Windows.{window-bits, peek-from}
use Rattle.elias.proofs.input.peek.Goals as goal

pub returns-then-this-ne0 : goal.returns-then-this-ne0
returns-then-this-ne0 g c =
    let p = c.args.at.index in
    let s = c.args.body.now in
    peek-from c.from_be_bytes.result p (bits_of s) (window-bits s _ (λ i. (c.type_inv.body i).fits) c.eight_inside.ensures c.from_be_bytes.ensures)

pub returns : goal.returns
returns g c = peek-from c.eight_near.result c.args.at.index (bits_of c.args.body.now) c.eight_near.ensures
