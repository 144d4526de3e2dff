-- `judge` has judged the plans below k. Assumes nothing.
use Prim.Native.Nat.{◌*◌}
use Rattle.std.proofs.Math.Nat.{add-sub_cancel_left}
use Rattle.std.proofs.lemmas.Result.{err_from_is_err_and}
use Rattle.meaning.specs.Limits.{plan_bytes}
use Rattle.writer.proofs.Turns.{judged-turn, judged-refuse, judged-end}
use Rattle.writer.proofs.orders.Orders.judge.Goals as goal

pub returns-in_err-judge_plan : goal.returns-in_err-judge_plan
returns-in_err-judge_plan c =
    let p = err_from_is_err_and c.from_residual.result c.from_residual.ensures.1 in
    let e = rw (add-sub_cancel_left (plan_bytes * c.loop-k.k) plan_bytes) at c.used_plan-plan.ensures in
    rw (p.1, p.2) (judged-refuse c.args.self.now c.loop-k.invariant c.loop-k-test.true e _ c.in_err-judge_plan.ensures)

pub loop-k-preserved : goal.loop-k-preserved
loop-k-preserved c =
    let e = rw (add-sub_cancel_left (plan_bytes * c.loop-k.k) plan_bytes) at c.used_plan-plan.ensures in
    judged-turn c.args.self.now c.loop-k.invariant c.loop-k-test.true e c.in_ok-judge_plan.ensures

pub returns : goal.returns
returns c = judged-end c.args.self.now c.loop-k.invariant c.loop-k-test.false
