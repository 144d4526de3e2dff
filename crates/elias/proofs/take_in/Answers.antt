-- `take_in` meets its contract, by what its loop knows. Assumes nothing.
use mathlib.Core.Path.{sym}
use native.Mathlib.Omega.{arith}
use Rattle.elias.proofs.Forms.{found}
use Rattle.elias.proofs.Taking.{taking-start, taking-turn}
use Rattle.elias.proofs.take_in.Goals as goal

pub loop-i-init : goal.loop-i-init
loop-i-init g c = taking-start _ _ _ _ _ _

-- ---- a turn
pub overflow_sub-work : goal.overflow_sub-work
overflow_sub-work g c = (found c.args.form c.args.body.now c.loop-i.index c.requires.short (sym c.in-Ok.ensures)).some

pub overflow_cast-work : goal.overflow_cast-work
overflow_cast-work g c = let there = found c.args.form c.args.body.now c.loop-i.index c.requires.short (sym c.in-Ok.ensures) in omega arith

pub overflow_add-index : goal.overflow_add-index
overflow_add-index g c = let there = found c.args.form c.args.body.now c.loop-i.index c.requires.short (sym c.in-Ok.ensures) in omega arith

pub loop-i-preserved : goal.loop-i-preserved
loop-i-preserved g c = taking-turn _ _ _ _ _ _ c.loop-i.invariant (omega (arith, c.min-most.ensures)) (sym c.in-Ok.ensures)
