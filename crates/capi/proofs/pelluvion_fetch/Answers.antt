-- `pelluvion_fetch` tells where the body stands that the entry names. Assumes nothing.
use Rattle.capi.proofs.Bodies.{fetches-body, fetches-none}
use Rattle.capi.proofs.pelluvion_fetch.Goals as goal

pub returns-in-Ok : goal.returns-in-Ok
returns-in-Ok c =
    let sheet = c.args.sheet.now in
    let column = c.args.column in
    fetches-body sheet column _ (rw c.in-Ok.is at c.column_at.ensures)

pub returns-in-Err : goal.returns-in-Err
returns-in-Err c =
    let sheet = c.args.sheet.now in
    let column = c.args.column in
    fetches-none sheet column _ _ (rw c.in-Err.is at c.column_at.ensures) c.from.ensures
