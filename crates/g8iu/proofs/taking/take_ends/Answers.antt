-- `take_ends` takes the block of small numbers by `take_eight`, and any other by `take_plain`. Assumes nothing.
use Rattle.g8iu.proofs.Eights.{eight-block}
use Rattle.g8iu.proofs.taking.take_ends.Goals as goal

pub returns-then-ends-eq255 : goal.returns-then-ends-eq255
returns-then-ends-eq255 c = eight-block c.requires (λ i. (c.type_inv.body i).fits) c.if-ends-eq255.true c.take_eight.ensures
