-- `write` puts block after block: what is still to be written, put from here on, makes the whole (`Writes`). Assumes nothing.
use Rattle.std.proofs.Common.{length, sym, arith, eqb-true}
use Rattle.std.proofs.lemmas.Bool.{eqb-false}
use Rattle.g8iu.proofs.Writes.{write-asks, write-less, write-turn, write-end}
use Rattle.g8iu.proofs.write.Goals as goal

pub put_block-taken-requires : goal.put_block-taken-requires
put_block-taken-requires c =
    let l = c.loop-rest in
    let e = eqb-false (length l.rest.now) 0 (sym c.loop-rest-test.ensures) in
    write-asks l.invariant (omega arith)

pub loop-rest-smaller : goal.loop-rest-smaller
loop-rest-smaller c = write-less c.loop-rest.invariant c.put_block-taken.ensures

pub loop-rest-preserved : goal.loop-rest-preserved
loop-rest-preserved c = write-turn c.loop-rest.invariant c.put_block-taken.ensures

pub returns : goal.returns
returns c = write-end c.loop-rest.invariant (eqb-true _ _ (sym c.loop-rest-test.ensures))
