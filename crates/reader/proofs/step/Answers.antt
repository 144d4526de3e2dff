-- `step`: one more than a place at which a number was found cannot wrap. Assumes nothing.
use native.Mathlib.Omega.{arith}
use Rattle.reader.proofs.Openings.{found-ok}
use Rattle.reader.proofs.step.Goals as goal

pub overflow_add-next : goal.overflow_add-next
overflow_add-next c =
    let below = found-ok _ _ _ _ c.lookup-answer.ensures c.if-is_ok.ensures.value in
    record { fits = omega arith }
