-- `gamma_in` meets its contract: the zeros that are seen are the list's where they matter. Assumes nothing.
use Prim.Native.Nat.{ℕ, ◌+◌, ◌*◌, ◌≤◌}
use mathlib.Core.List.{List}
use mathlib.Core.Path.{◌≡◌, sym, ap, ◌∙◌}
use mathlib.Core.Bool.{cond}
use native.Mathlib.Omega.{arith}
use lib.Count.{count_leading_zeros}
use lib.Dec.{ltb}
use lib.ListN.{length, drop}
use Rattle.meaning.specs.Answer.{refused}
use Rattle.meaning.specs.Bits.{bits_of}
use Rattle.meaning.specs.Limits.{cut_short, broken}
use Rattle.elias.proofs.Gamma.{behind}
use Rattle.elias.proofs.Pack.{bits_left}
use Rattle.elias.proofs.Seen.{seen-many, seen-short, seen_value, seen-behind, behind-looked}
use Rattle.elias.proofs.word.gamma_in.Goals.{then-z-le28, else-z-le28}
use Rattle.elias.proofs.word.gamma_in.Goals as goal

pub returns-then-zeros-z : goal.returns-then-zeros-z
returns-then-zeros-z g c =
    let a = c.args in
    let left = c.saturating_sub-left.ensures ∙ sym (bits_left a.at.index a.body.now) in
    ap (λ (e : ℕ). refused e) (c.sort_of_zeros.ensures ∙ ap (λ (n : ℕ). cond (ltb a.zeros n) broken cut_short) left)
    ∙ seen-many c.peek-seen.result (drop a.at.index (bits_of a.body.now)) (omega arith) c.peek-seen.ensures a.zeros a.most c.requires.1 c.if-zeros-z.true

pub returns-then-is_short : goal.returns-then-is_short
returns-then-is_short g c =
    let a = c.args in
    seen-short c.peek-seen.result (drop a.at.index (bits_of a.body.now)) (omega arith) c.peek-seen.ensures a.zeros a.most c.requires.1 c.if-zeros-z.false
    (omega (arith, bits_left a.at.index a.body.now))

pub returns : goal.returns
returns g c =
    let a = c.args in
    let s = c.peek-seen.result in
    let z = count_leading_zeros 64 s in
    let body : List ℕ = bits_of a.body.now in
    let bits : List ℕ = drop a.at.index body in
    let there : 2 * z + 1 ≤ length bits = omega (arith, bits_left a.at.index a.body.now) in
    let is : c.if-z-le28.value ≡ behind z bits =
    elim c.if-z-le28.branch [
      | then-z-le28 w ↦ w.value-is ∙ seen-behind s bits (omega arith) c.peek-seen.ensures w.top-value.result w.if-z-le28.true there w.top-value.ensures
      | else-z-le28 w ↦ w.value-is ∙ behind-looked w.peek.result a.at.index z body (omega arith) (omega (arith, bits_left (a.at.index + z) a.body.now))
          w.peek.ensures w.top-value-else-z-le28.ensures
    ] in
    c.within.ensures ∙ seen_value s bits (omega arith) c.peek-seen.ensures a.zeros a.most c.requires.1 c.if-zeros-z.false c.if-z-le28.value there is
