-- `vbyte::from_second` meets its contract: each byte that another follows leaves a shorter number to read. Assumes nothing.
use Rattle.std.proofs.Common.{◌^◌, refl, arith, ◌∙◌}
use Rattle.vbyte.proofs.Steps.{later-none, later_last, later-big, later-fifth, past_second, past_third, past_fourth}
use Rattle.vbyte.proofs.from_second.Goals as goal

pub returns-in_err-second : goal.returns-in_err-second
returns-in_err-second c = later-none _ _ 3 (2 ^ 7) _ _ c.in_err-second.ensures c.from_residual.ensures.1

pub returns-then-second-lt128 : goal.returns-then-second-lt128
returns-then-second-lt128 c = c.last.ensures ∙ later_last _ _ c.in_ok-second.ensures refl 2 (2 ^ 7) _ c.if-second-lt128.true

pub returns-in_err-third : goal.returns-in_err-third
returns-in_err-third c =
    later-none _ _ 2 (2 ^ 14) _ _ c.in_err-third.ensures c.from_residual-in_err-third.ensures.1
    ∙ past_second _ _ _ c.in_ok-second.ensures c.if-second-lt128.false

pub returns-then-third-lt128 : goal.returns-then-third-lt128
returns-then-third-lt128 c =
    c.last-then-third-lt128.ensures
    ∙ later_last _ _ c.in_ok-third.ensures (omega arith) 1 (2 ^ 14) _ c.if-third-lt128.true
    ∙ past_second _ _ _ c.in_ok-second.ensures c.if-second-lt128.false

pub returns-in_err-fourth : goal.returns-in_err-fourth
returns-in_err-fourth c =
    later-none _ _ 1 (2 ^ 21) _ _ c.in_err-fourth.ensures c.from_residual-in_err-fourth.ensures.1
    ∙ past_third _ _ _ c.in_ok-second.ensures c.if-second-lt128.false c.in_ok-third.ensures c.if-third-lt128.false

pub returns-then-fourth-lt128 : goal.returns-then-fourth-lt128
returns-then-fourth-lt128 c =
    c.last-then-fourth-lt128.ensures
    ∙ later_last _ _ c.in_ok-fourth.ensures (omega arith) 0 (2 ^ 21) _ c.if-fourth-lt128.true
    ∙ past_third _ _ _ c.in_ok-second.ensures c.if-second-lt128.false c.in_ok-third.ensures c.if-third-lt128.false

pub returns-in_err-fifth : goal.returns-in_err-fifth
returns-in_err-fifth c =
    later-none _ _ 0 (2 ^ 28) _ _ c.in_err-fifth.ensures c.from_residual-in_err-fifth.ensures.1
    ∙ past_fourth _ _ _ c.in_ok-second.ensures c.if-second-lt128.false c.in_ok-third.ensures c.if-third-lt128.false c.in_ok-fourth.ensures
    c.if-fourth-lt128.false

pub returns-then-fifth-gt15 : goal.returns-then-fifth-gt15
returns-then-fifth-gt15 c =
    later-big _ _ c.in_ok-fifth.ensures refl (2 ^ 28) _ c.if-fifth-gt15.true
    ∙ past_fourth _ _ _ c.in_ok-second.ensures c.if-second-lt128.false c.in_ok-third.ensures c.if-third-lt128.false c.in_ok-fourth.ensures
    c.if-fourth-lt128.false

pub returns : goal.returns
returns c =
    c.last-2.ensures
    ∙ later-fifth _ _ c.in_ok-fifth.ensures (omega arith) (2 ^ 28) _ c.if-fifth-gt15.false
    ∙ past_fourth _ _ _ c.in_ok-second.ensures c.if-second-lt128.false c.in_ok-third.ensures c.if-third-lt128.false c.in_ok-fourth.ensures
    c.if-fourth-lt128.false
