-- `stage_at` goes by the definition's tests in their order; past the end stands a 0. Assumes nothing.
use native.Mathlib.Omega.{arith}
use Rattle.judge.proofs.StageLaws.{stage-end, stage_code, stage-none, stage-16, stage-17, stage-18, stage-else}
use Rattle.judge.proofs.stage.stage_at.Goals as goal

pub returns-in_default : goal.returns-in_default
returns-in_default c = stage-end _ _ _ (omega (arith, c.in_default.ensures.lookup))

pub returns-then-is_code : goal.returns-then-is_code
returns-then-is_code c = stage_code _ _ _ (c.in-Some.ensures.lookup.3.1 0) _ c.is_code.ensures c.if-is_code.true

pub returns-then-stages-eq0 : goal.returns-then-stages-eq0
returns-then-stages-eq0 c = stage-none _ _ _ (c.in-Some.ensures.lookup.3.1 0) _ c.is_code.ensures c.if-is_code.false c.if-stages-eq0.true

pub returns-in-16 : goal.returns-in-16
returns-in-16 c = stage-16 _ _ _ (c.in-Some.ensures.lookup.3.1 0) _ c.is_code.ensures c.if-is_code.false c.if-stages-eq0.false c.in-16.is

pub returns-in-17 : goal.returns-in-17
returns-in-17 c = stage-17 _ _ _ (c.in-Some.ensures.lookup.3.1 0) _ c.is_code.ensures c.if-is_code.false c.if-stages-eq0.false c.in-17.is

pub returns-in-18 : goal.returns-in-18
returns-in-18 c = stage-18 _ _ _ (c.in-Some.ensures.lookup.3.1 0) _ c.is_code.ensures c.if-is_code.false c.if-stages-eq0.false c.in-18.is

pub returns-in_default-b : goal.returns-in_default-b
returns-in_default-b c =
    stage-else _ _ _ (c.in-Some.ensures.lookup.3.1 0) _ c.is_code.ensures c.if-is_code.false c.if-stages-eq0.false (omega arith) (omega arith) (omega arith)
