-- `top` meets its contract. Assumes nothing.
use Rattle.elias.proofs.Windows.{top-bits}
use Rattle.elias.proofs.input.top.Goals as goal

pub returns : goal.returns
returns c = top-bits c.args.s c.args.n c.ranges.s.fits c.requires
