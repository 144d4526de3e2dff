-- The sums stand after the header and the bits. Assumes nothing.
use mathlib.Core.Path.{refl}
use Rattle.meaning.specs.Direct.{flag_bytes, sums_at}
use Rattle.direct.proofs.input.sums_at.Goals as goal

pub returns : goal.returns
unfolding sums_at flag_bytes
returns c = refl
