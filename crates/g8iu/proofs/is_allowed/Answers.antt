-- `is_allowed` tests the count of a control byte's zero bits, and its ends (`Standing`). Assumes nothing.
use Rattle.std.proofs.Common.{refl, arith, ◌∙◌, eq-eqb}
use lib.Count.{ones-le}
use Rattle.g8iu.proofs.Standing.{bars-none, bars-beyond, allows-last, allows-full}
use Rattle.g8iu.proofs.is_allowed.Goals as goal
use Rattle.g8iu.proofs.is_allowed.Goals.{then-count-lt1-via-then-count-lt1, then-count-lt1-via-else-count-lt1+then-left-count}

pub overflow_sub-count : goal.overflow_sub-count
overflow_sub-count c = ones-le 8 c.args.control (omega arith)

pub returns-then-count-lt1 : goal.returns-then-count-lt1
returns-then-count-lt1 c =
    elim c.then-count-lt1.branch [
      | then-count-lt1-via-then-count-lt1 w ↦ bars-none (omega arith) _ refl w.if-count-lt1.true
      | then-count-lt1-via-else-count-lt1+then-left-count w ↦ bars-beyond (omega arith) c.args.left refl w.if-count-lt1.false w.if-left-count.true
    ]

pub returns-then-count-left : goal.returns-then-count-left
returns-then-count-left c =
    let e = c.if-count-left.true in
    eq-eqb _ _ e ∙ allows-last (omega arith) c.args.left refl c.if-count-lt1.false c.if-left-count.false e

pub returns-else-count-left : goal.returns-else-count-left
returns-else-count-left c =
    rw c.from.ensures (allows-full (omega arith) c.args.left refl c.if-count-lt1.false c.if-left-count.false c.if-count-left.false)
