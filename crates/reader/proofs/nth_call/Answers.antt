-- The answer of `nth_call` is call k: each turn's call of `step` leaves the reader where the next call finds it, and the cap on the calls before changes no
-- answer. Assumes nothing.
use mathlib.Core.Path.{◌≡◌, sym, ap, ◌∙◌}
use Prim.Native.Nat.{suc, ◌+◌, min}
use Rattle.meaning.specs.Limits.{most_numbers}
use native.Mathlib.Numerals.{add-one}
use native.Mathlib.Omega.{arith}
use Rattle.meaning.specs.Operations.{call}
use Rattle.reader.specs.Steps.{opened, after, standing}
use Rattle.reader.proofs.Calls.{stands-first, stands-next, tells-call, call-capped}
use Rattle.reader.proofs.nth_call.Goals as goal

pub loop-i-init : goal.loop-i-init
loop-i-init c = stands-first c.args.sheet.now c.args.column c.open.result.0 c.open.ensures.0

pub loop-i-preserved : goal.loop-i-preserved
loop-i-preserved c =
    let sheet = c.args.sheet.now in
    let k = c.args.column in
    let i = c.loop-i.i in
    let next = stands-next sheet k i c.loop-i.r c.loop-i.invariant in
    let one-more : suc i ≡ i + 1 = sym (add-one i) in
    ap standing c.step.ensures.1 ∙ (next ∙ ap (λ n. after n (opened sheet k)) one-more)

pub returns : goal.returns
returns c =
    let sheet = c.args.sheet.now in
    let k = c.args.column in
    let i = c.loop-i.i in
    let all : i ≡ min c.args.k most_numbers = omega (arith, c.min-i-end.ensures, c.loop-i-test.false) in
    let told = tells-call sheet k i c.loop-i.r c.step-2.result c.loop-i.invariant c.step-2.ensures.0 in
    told ∙ (ap (call sheet k) all ∙ call-capped sheet k c.args.k)
