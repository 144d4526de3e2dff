-- `vbyte::put_number` meets its contract: each turn puts a byte that others follow. Assumes nothing.
use Rattle.std.proofs.Common.{arith}
use Rattle.vbyte.proofs.Puts.{put-start, put-turn, put-end, put-fifth}
use Rattle.vbyte.proofs.put_number.Goals as goal

pub loop-i-init : goal.loop-i-init
loop-i-init c = put-start c.args.at.byte c.args.out.now (omega arith)

pub returns-then-rest-lt128 : goal.returns-then-rest-lt128
returns-then-rest-lt128 c = put-end c.loop-i.invariant c.if-rest-lt128.true c.put.ensures

pub loop-i-preserved : goal.loop-i-preserved
loop-i-preserved c = put-turn c.loop-i.invariant c.loop-i-test.true c.if-rest-lt128.false c.put-in-loop-i.ensures

pub returns : goal.returns
returns c = put-fifth c.loop-i.invariant (omega arith) c.put-2.ensures
