use native.Mathlib.Omega.{arith}
use lib.Count.{leading_le}
use Rattle.words.proofs.DataBytes.{length-of-zero, length-of-some}
use Rattle.words.proofs.byte_length.Goals as goal

pub returns-then-z-eq32 : goal.returns-then-z-eq32
returns-then-z-eq32 c = length-of-zero c.args.x (omega arith) c.if-z-eq32.true

pub overflow_sub-result : goal.overflow_sub-result
overflow_sub-result c = omega (arith, leading_le 32 c.args.x)

pub returns : goal.returns
returns c = length-of-some c.args.x (omega arith) c.if-z-eq32.false
