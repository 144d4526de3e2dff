-- Each byte that is stored is one of the number's fewest, and there is room for all four. Assumes nothing.
use native.Mathlib.Omega.{arith}
use lib.ListN.{length-set}
use Rattle.words.proofs.Straight.{fewest-1, fewest-2, fewest-3, fewest-4}
use Rattle.words.proofs.put_fewest.Goals as goal

pub returns-then-x-lt256 : goal.returns-then-x-lt256
returns-then-x-lt256 c = fewest-1 c.args.out.now c.args.at.byte c.args.x (omega arith)

pub bounds-out-start-2 : goal.bounds-out-start-2
bounds-out-start-2 c = simp length-set (omega arith)

pub returns-then-x-lt65536 : goal.returns-then-x-lt65536
returns-then-x-lt65536 c = fewest-2 c.args.out.now c.args.at.byte c.args.x (omega arith) (omega arith)

pub bounds-out-start-3 : goal.bounds-out-start-3
bounds-out-start-3 c = simp length-set (omega arith)

pub returns-then-x-lt16777216 : goal.returns-then-x-lt16777216
returns-then-x-lt16777216 c = fewest-3 c.args.out.now c.args.at.byte c.args.x (omega arith) (omega arith)

pub bounds-out-start-4 : goal.bounds-out-start-4
bounds-out-start-4 c = simp length-set (omega arith)

pub returns : goal.returns
returns c = fewest-4 c.args.out.now c.args.at.byte c.args.x (omega arith)
