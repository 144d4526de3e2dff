-- `next_number` meets its contract: its zeros say how many bytes the number has. Assumes nothing.
use native.Mathlib.Omega.{arith}
use Rattle.std.proofs.lemmas.Result.{err_from_is_err_and}
use Rattle.direct.proofs.Fits.{data-few}
use Rattle.direct.proofs.Nexts.{next-none, next-given, next-refused}
use Rattle.direct.proofs.input.Parts.next_number.Goals as goal

pub returns-then-d-first : goal.returns-then-d-first
returns-then-d-first c = next-none c.args.self.now.fit _ {len = 1} (omega arith) (omega (arith, c.if-d-first.true))

pub overflow_add-index : goal.overflow_add-index
overflow_add-index c = omega (arith, c.zeros_from-len.ensures, data-few c.args.self.now.fit c.args.self.now.small)

pub returns-then-d-index : goal.returns-then-d-index
returns-then-d-index c = next-none c.args.self.now.fit _ (omega (arith, c.zeros_from-len.ensures)) c.if-d-index.true

pub returns : goal.returns
returns c =
    next-given c.args.self.now.fit _ (omega (arith, c.zeros_from-len.ensures)) c.if-d-index.false _ c.number_in.ensures c.in_ok-number.was

pub returns-in_err-number : goal.returns-in_err-number
returns-in_err-number c =
    let p = err_from_is_err_and c.from_residual.result c.from_residual.ensures.1 in
    rw (p.1, p.2)
    (next-refused c.args.self.now.fit _ (omega (arith, c.zeros_from-len.ensures)) c.if-d-index.false _ c.number_in.ensures c.in_err-number.was)
