use native.Mathlib.Omega.{arith}
use mathlib.Core.Path.{◌≡◌, sym, ◌∙◌}
use Rattle.words.proofs.Straight.{number-1, number-2, number-3, number-4}
use Rattle.words.proofs.number_at.Goals as goal

pub returns-then-len-eq1 : goal.returns-then-len-eq1
returns-then-len-eq1 c =
    let a = c.args in
    rw c.if-len-eq1.true (c.from-a.ensures ∙ sym (number-1 a.bytes.now a.at.byte (omega arith)))

pub returns-then-len-eq2 : goal.returns-then-len-eq2
returns-then-len-eq2 c =
    let a = c.args in
    rw c.if-len-eq2.true (omega (arith, number-2 a.bytes.now a.at.byte (omega arith)))

pub returns-then-len-eq3 : goal.returns-then-len-eq3
returns-then-len-eq3 c =
    let a = c.args in
    rw c.if-len-eq3.true (omega (arith, number-3 a.bytes.now a.at.byte (omega arith)))

pub returns : goal.returns
returns c =
    let a = c.args in
    let e : a.len ≡ 4 = omega arith in
    rw e (omega (arith, number-4 a.bytes.now a.at.byte (omega arith)))
