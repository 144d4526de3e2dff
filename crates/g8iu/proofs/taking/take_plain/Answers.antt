-- `take_plain` puts back what was stored of a block at fault (`Eights`). Assumes nothing.
use Rattle.std.proofs.Common.{refl}
use Rattle.g8iu.proofs.Eights.{undone}
use Rattle.g8iu.proofs.taking.take_plain.Goals as goal

pub returns-in_default : goal.returns-in_default
returns-in_default c = undone c.requires c.in_default.ensures refl c.copy_eight.ensures c.copy_eight-in_default.ensures

pub returns : goal.returns
returns c = c.in-Some.ensures.whole refl
