-- `has_block` compares the offset with the last that has 8 bytes behind it. Assumes nothing.
use Rattle.std.proofs.Common.{arith}
use Rattle.std.proofs.lemmas.Bool.Decides.{nat_tests}
use Rattle.g8iu.proofs.taking.has_block.Goals as goal

pub returns : goal.returns
returns c = grind (arith, nat_tests)
