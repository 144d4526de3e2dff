-- `part_of` hands the sheet back where it has the column, and else an empty part of it. Assumes nothing.
use mathlib.Core.Path.{sym, ap}
use Rattle.meaning.specs.Answer.{list, number}
use Rattle.reader.proofs.Openings.{open-there, open-refused}
use Rattle.reader.proofs.part_of.Goals as goal

pub returns-in-Ok : goal.returns-in-Ok
returns-in-Ok c =
    let opened = rw c.in-Ok.is at c.column_at.ensures in
    let f = open-there _ _ _ opened.told in
    (sym (ap list f), sym (ap number f))

pub returns-in-Err : goal.returns-in-Err
returns-in-Err c =
    let f = open-refused _ _ _ (rw c.in-Err.is at c.column_at.ensures) in
    (sym (ap list f), sym (ap number f))
