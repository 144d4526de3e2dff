-- `worst_code` goes by the code's number as `code_of` does. Assumes nothing.
use Prim.Native.Nat.{ℕ}
use mathlib.Core.Path.{sym, ap, ◌∙◌}
use native.Mathlib.Omega.{arith}
use Rattle.meaning.specs.Codes.{code_of}
use Rattle.judge.proofs.TreeLaws.{worst-else}
use Rattle.judge.proofs.tree.worst_code.Goals as goal

pub returns-in-1 : goal.returns-in-1
unfolding code_of
returns-in-1 c = sym (ap (λ (k : ℕ). (code_of k).worst c.args.n) c.in-1.is)

pub returns-in-3 : goal.returns-in-3
unfolding code_of
returns-in-3 c = omega (arith, ap (λ (k : ℕ). (code_of k).worst c.args.n) c.in-3.is)

pub returns-in-5 : goal.returns-in-5
unfolding code_of
returns-in-5 c = omega (arith, ap (λ (k : ℕ). (code_of k).worst c.args.n) c.in-5.is)

pub returns-in-6 : goal.returns-in-6
unfolding code_of
returns-in-6 c = omega (arith, ap (λ (k : ℕ). (code_of k).worst c.args.n) c.in-6.is)

pub returns-in-8 : goal.returns-in-8
unfolding code_of
returns-in-8 c = c.worst_direct.ensures ∙ sym (ap (λ (k : ℕ). (code_of k).worst c.args.n) c.in-8.is)

pub returns-in_default : goal.returns-in_default
returns-in_default c = c.worst_groups.ensures ∙ worst-else _ _ (omega arith) (omega arith) (omega arith) (omega arith) (omega arith)
