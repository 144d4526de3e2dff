-- `listing` puts the lines of a sheet that passes, or the refusal that the check answers. Assumes only the laws of the codes.
use mathlib.Core.Path.{refl, ◌∙◌}
use native.Mathlib.Omega.{arith}
use Rattle.std.proofs.Common.{rules}
use Rattle.texts.proofs.Putting.{widened, written}
use Rattle.texts.proofs.Sheets.{listing-passes, listing-lines, listing-refused}
use Rattle.texts.proofs.listing.Goals as goal
use Rattle.texts.proofs.listing.Goals.{in-Ok, in-Err}

pub put_sheet-requires : goal.put_sheet-requires
put_sheet-requires c =
    let a = c.args in
    let passes = listing-passes a.sheet.now a.work.now c.requires.0 _ c.check.ensures c.in-Ok.is in
    (record { passes = passes; works = c.check.auto.work ∙ c.requires.0; lists = c.requires.1 }, omega arith)

pub returns : goal.returns
returns c =
    let a = c.args in
    elim c.match-check.branch [
      | in-Ok w ↦
          let is = listing-lines a.sheet.now a.work.now c.requires.0 _ c.check.ensures w.in-Ok.is in
          written refl is (rw (← w.page-is) at w.put_sheet.ensures) (search rules)
      | in-Err w ↦
          let is = listing-refused a.sheet.now a.work.now c.requires.0 _ c.check.ensures w.in-Err.is in
          written refl is (rw (← w.page-is) at (widened {most = 270000} w.put_refused.ensures (omega arith))) (search rules)
    ]
