-- `write` meets its contract: what the output will hold is settled at each turn. Assumes nothing.
use Prim.Native.Nat.{◌<◌}
use native.Mathlib.Omega.{arith}
use lib.ListN.{get_or}
use Rattle.meaning.specs.Limits.{number_limit}
use Rattle.elias.proofs.Lists.{write-start, write-room, write-turn, write-end}
use Rattle.elias.proofs.write.Goals as goal

pub loop-x-init : goal.loop-x-init
loop-x-init c = write-start c.requires

-- ---- a turn
pub push_word-wait-requires : goal.push_word-wait-requires
push_word-wait-requires c =
    let few : get_or c.args.list.now c.loop-x.x-index 0 < number_limit = omega (arith, c.type_inv.list c.loop-x.x-index) in
    (write-room c.loop-x.invariant c.loop-x-test.true (omega arith) (omega arith), omega arith, omega arith)

pub loop-x-preserved : goal.loop-x-preserved
loop-x-preserved c =
    let few : get_or c.args.list.now c.loop-x.x-index 0 < number_limit = omega (arith, c.type_inv.list c.loop-x.x-index) in
    write-turn c.loop-x.invariant c.loop-x-test.true few (rw c.from-v.ensures at c.push_word-wait.ensures)

-- ---- after the loop
pub returns : goal.returns
returns c = write-end c.loop-x.invariant c.loop-x-test.false c.finish.ensures
