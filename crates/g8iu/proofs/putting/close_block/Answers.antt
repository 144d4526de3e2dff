-- `close_block` puts the control byte and then zeros: what is left of them makes the whole (`Puts`). Assumes nothing.
use Rattle.std.proofs.Common.{ℕ, ◌≡◌, ◌-◌, ap, arith, replicate}
use Rattle.leaves.proofs.Putting.{left_end}
use Rattle.g8iu.proofs.Puts.{zeros-turn}
use Rattle.g8iu.proofs.putting.close_block.Goals as goal

pub loop-i-preserved : goal.loop-i-preserved
loop-i-preserved c = zeros-turn _ _ c.loop-i.invariant c.loop-i-test.true c.put-in-loop-i.ensures

pub returns : goal.returns
returns c =
    let none : 8 - c.loop-i.i ≡ 0 = omega arith in
    rw c.put.ensures at (left_end c.loop-i.invariant (ap (λ (n : ℕ). replicate n 0) none)).here
