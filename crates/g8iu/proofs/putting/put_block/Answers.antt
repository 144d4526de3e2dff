-- `put_block` puts numbers while they fit; a bit of the control byte falls with each (`Puts`). Assumes nothing.
use native.Mathlib.Omega.{arith}
use Rattle.g8iu.proofs.Puts.{put-start, put-closes, put-sized, put-bit, put-turn, put_full, put_all}
use Rattle.g8iu.proofs.putting.put_block.Goals as goal

pub loop-i-init : goal.loop-i-init
loop-i-init c = put-start c.requires

pub overflow_add-filled : goal.overflow_add-filled
overflow_add-filled c = omega (arith, put-sized c.loop-i.invariant c.byte_length.ensures)

pub close_block-requires : goal.close_block-requires
close_block-requires c = put-closes c.loop-i.invariant

pub returns-then-filled-gt8 : goal.returns-then-filled-gt8
returns-then-filled-gt8 c = put_full c.loop-i.invariant c.byte_length.ensures c.if-filled-gt8.true c.close_block.ensures

pub overflow_sub-control : goal.overflow_sub-control
overflow_sub-control c = omega (arith, put-sized c.loop-i.invariant c.byte_length.ensures)

pub overflow_sub-control-in-loop-i : goal.overflow_sub-control-in-loop-i
overflow_sub-control-in-loop-i c = put-bit c.loop-i.invariant c.byte_length.ensures c.loop-i-test.true c.if-filled-gt8.false

pub loop-i-preserved : goal.loop-i-preserved
loop-i-preserved c =
    put-turn c.loop-i.invariant c.byte_length.ensures c.loop-i-test.true c.if-filled-gt8.false c.put_fewest.ensures.1

pub close_block-requires-2 : goal.close_block-requires-2
close_block-requires-2 c = put-closes c.loop-i.invariant

pub returns : goal.returns
returns c = put_all c.loop-i.invariant c.loop-i-test.false c.close_block-2.ensures
