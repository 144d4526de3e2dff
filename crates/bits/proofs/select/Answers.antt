-- `select` passes stretches of 8 words, and finds the bit in the one that holds it (`SelectSo`). Assumes nothing.
use Prim.Native.Nat.{◌+◌, ◌*◌}
use mathlib.Core.Path.{◌≡◌, sym, ap, ◌∙◌}
use native.Mathlib.Omega.{arith}
use Rattle.meaning.specs.Says.{says_by, bit_told}
use Rattle.bits.proofs.Asked.{select-long}
use Rattle.bits.proofs.Selecting.{select-start, select-turn, select-inside, select-found, select-holds, select-end}
use Rattle.bits.proofs.select.Goals as goal

pub returns-then-len-gt-MOST_BYTES : goal.returns-then-len-gt-MOST_BYTES
returns-then-len-gt-MOST_BYTES c = sym (select-long c.args.bytes.now c.args.k (omega (arith, c.if-len-gt-MOST_BYTES.true)))

pub loop-stretch-init : goal.loop-stretch-init
loop-stretch-init c = select-start c.if-len-gt-MOST_BYTES.false

-- a stretch with enough ones holds the one that is looked for
pub returns-in_err-bit : goal.returns-in_err-bit
returns-in_err-bit c =
    absurd (select-holds c.loop-stretch.invariant c.ones_in-ones.ensures c.if-left-ones.true
    (sym c.one_in.ensures ∙ ap (says_by bit_told) c.in_err-bit.was))

pub overflow_add-index : goal.overflow_add-index
overflow_add-index c =
    let so = c.loop-stretch.invariant in
    omega (arith, so.short, select-inside so (sym c.one_in.ensures ∙ ap (says_by bit_told) c.in_ok-bit.was))

pub returns-then-left-ones : goal.returns-then-left-ones
returns-then-left-ones c = select-found c.loop-stretch.invariant (sym c.one_in.ensures ∙ ap (says_by bit_told) c.in_ok-bit.was)

pub loop-stretch-preserved : goal.loop-stretch-preserved
loop-stretch-preserved c =
    let next : 64 * (c.loop-stretch.stretch + 1) ≡ 64 * c.loop-stretch.stretch + 64 = omega arith in
    rw next (select-turn c.loop-stretch.invariant (omega (arith, c.loop-stretch-test.true)) c.ones_in-ones.ensures c.if-left-ones.false)

pub returns : goal.returns
returns c = select-end c.loop-stretch.invariant (omega (arith, c.loop-stretch-test.false))
