-- Four bytes masked are the number of the first of them. Assumes nothing.
use mathlib.Core.Path.{ap}
use Rattle.groups.specs.declared.whole.Bounds.{Bounds}
use Rattle.groups.proofs.Taking.{field-is}
use Rattle.groups.proofs.whole.Bounds.number_at.Goals as goal

pub returns-else-x-self : goal.returns-else-x-self
returns-else-x-self c =
    let (few, there, bounds) = c.requires in
    let largest = ap (λ (b : Bounds). b.largest) bounds in
    let least = ap (λ (b : Bounds). b.least) bounds in
    field-is (λ i. (c.type_inv.body i).fits) there few (rw (c.word_at.ensures, largest)) (rw least at c.if-x-self.false)
