-- `board` puts the tallies or the refusal that the board answers. Assumes nothing.
use native.Mathlib.Omega.{arith}
use mathlib.Core.Path.{refl}
use Rattle.std.proofs.Common.{rules}
use Rattle.texts.proofs.Boards.{board-tallies, board-refused}
use Rattle.texts.proofs.Putting.{widened, written}
use Rattle.texts.proofs.board.Goals as goal
use Rattle.texts.proofs.board.Goals.{in-Ok, in-Err}

pub returns : goal.returns
returns c =
    let a = c.args in
    elim c.match-board.branch [
      | in-Ok w ↦
          let is = board-tallies a.sheet.now a.work.now c.requires _ c.board.ensures w.in-Ok.is in
          written refl is (rw (← w.page-is) at w.put_tally.ensures) (search rules)
      | in-Err w ↦
          let is = board-refused a.sheet.now a.work.now c.requires _ c.board.ensures w.in-Err.is in
          written refl is (rw (← w.page-is) at (widened {most = 128} w.put_refused.ensures (omega arith))) (search rules)
    ]
