-- `board`: the check, the jobs' rules, then the endings. Assumes nothing.
use mathlib.Core.Path.{sym, ap, ◌∙◌}
use lib.ListN.{length}
use Rattle.meaning.specs.Operations.{check}
use Rattle.std.proofs.lemmas.Result.{err_from_is_err_and}
use Rattle.sheet.specs.Board.{endings_told}
use Rattle.sheet.proofs.BoardLaws.{board-unchecked, board-broken, board-second, board-counted}
use Rattle.sheet.proofs.board.Goals as goal

pub returns-in_err-check : goal.returns-in_err-check
returns-in_err-check c =
    let a = c.args in
    let p = err_from_is_err_and c.from_residual.result c.from_residual.ensures.1 in
    rw (p.1, p.2) (board-unchecked a.sheet.now (length a.work.now) (sym c.in_err-check.ensures))

pub jobs_hold-requires : goal.jobs_hold-requires
jobs_hold-requires c = ap (check c.args.sheet.now) c.check.auto.work ∙ sym c.in_ok-check.ensures

pub returns-then-not-jobs_hold : goal.returns-then-not-jobs_hold
returns-then-not-jobs_hold c =
    let passes = sym c.in_ok-check.ensures in
    let a = c.args in
    rw c.into.ensures (board-broken a.sheet.now (length a.work.now) passes (sym c.jobs_hold.ensures ∙ c.if-not-jobs_hold.true))

pub read_again-n-requires : goal.read_again-n-requires
read_again-n-requires c =
    let a = c.args in
    record {
      checked = ap (check a.sheet.now) (c.jobs_hold.auto.work ∙ c.check.auto.work) ∙ sym c.in_ok-check.ensures;
      exists = board-second a.sheet.now (sym c.jobs_hold.ensures ∙ c.if-not-jobs_hold.false);
    }

pub returns : goal.returns
returns c =
    let passes = sym c.in_ok-check.ensures in
    let a = c.args in
    c.tally_in.ensures
    ∙ ap endings_told c.read_again-n.ensures.here
    ∙ board-counted a.sheet.now (length a.work.now) passes (sym c.jobs_hold.ensures ∙ c.if-not-jobs_hold.false)
