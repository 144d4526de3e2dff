-- `plain_ends` finds a block, little waste and no room for its first number in the block before. Assumes nothing.
use Rattle.std.proofs.Common.{sym, arith, leb-true}
use Rattle.g8iu.proofs.plain_ends.Goals as goal

pub returns : goal.returns
returns c =
    record { inside = leb-true _ _ (sym c.if-not-has_block.ensures); zeros = rw c.from-ends.ensures; full = omega arith; joins = omega arith }
