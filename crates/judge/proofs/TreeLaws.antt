-- What `good_end`, `passes_plan`, `worst_code` and `worst_plan` answer, and a bound on every worst size. Assumes nothing.
use Prim.Native.Nat.{ℕ, zero, suc, ◌+◌, ◌≤◌}
use mathlib.Core.Path.{◌≡◌, refl, sym, ap, ◌∙◌}
use mathlib.Core.Bool.{Bool, true, false, ◌&&◌, cond}
use mathlib.Core.List.{List}
use native.Mathlib.Omega.{arith}
use lib.Dec.{leb, eqb}
use lib.ListN.{get_or}
use Rattle.std.specs.Prelude.{Option, Some, None}
use Rattle.meaning.specs.Codes.{is_code, code_of, worst_groups}
use Rattle.meaning.specs.Direct.{worst_direct}
use Rattle.meaning.specs.Groups.{group_count}
use Rattle.meaning.specs.Limits.{most_numbers, most_stages}
use Rattle.meaning.specs.Plan.{Plan, bad, code, reference, differences, runs, good, plan_size, plan_at, worst_plan}
use Rattle.meaning.specs.declared.Offset.{Offset}
use Rattle.meaning.proofs.Codes.{by_code, by_number}
use Rattle.judge.specs.Stage.{good_end}
use Rattle.judge.proofs.PlanLaws.{Over}

-- ---- a test in two turns
pub and_both : (r s a b : Bool) → r ≡ a → r ≡ true → s ≡ b → s ≡ a && b
and_both r s a b e t f = let h : a ≡ true = sym e ∙ t in rw h f

pub and-not : (r a b : Bool) → r ≡ a → r ≡ false → false ≡ a && b
and-not r a b e t = let h : a ≡ false = sym e ∙ t in rw h

-- ---- where a good plan ends
abbrev end_at : ℕ → Option Offset
end_at k = Some (record { byte = k })

pub end-bad : (P : Plan) (at : ℕ) → P ≡ bad → None ≡ good_end P at
unfolding good_end good
end-bad P at e = rw e

pub end-code : (P : Plan) (at c : ℕ) → P ≡ code c → end_at (at + 1) ≡ good_end P at
unfolding good_end good plan_size
end-code P at c e = rw e

-- one byte before a plan, which is good where the plan is
pub end-over : {stages : ℕ} {bytes : List ℕ} {at : ℕ} {x : Offset} {l : ℕ} {r : Option Offset}
    → Over stages bytes at x l → r ≡ good_end (plan_at l bytes x.byte) x.byte → r ≡ good_end (plan_at stages bytes at) at
unfolding good_end
end-over {stages} {bytes} {at} {x} {l} o h =
    let k : at + plan_size (plan_at stages bytes at) ≡ x.byte + plan_size (plan_at l bytes x.byte) = omega (arith, o.size, o.next) in
    h ∙ rw (o.good, k)

-- what a plan's end says of it
no_end : (g : Bool) (k : ℕ) → None ≡ cond g (end_at k) None → g ≡ false
no_end true k h = cc
no_end false k h = refl

an-end : (g : Bool) (k : ℕ) {m : Offset} → Some m ≡ cond g (end_at k) None → (g ≡ true) × (m.byte ≡ k)
an-end true k {m} h = let e : m ≡ record { byte = k } = cc in (refl, ap (λ (o : Offset). o.byte) e)
an-end false k h = cc

module _ (p : Plan) (at : ℕ) where
  pub good_none : None ≡ good_end p at → good p ≡ false
  unfolding good_end
  good_none h = no_end (good p) (at + plan_size p) h

  pub good-ends : {m : Offset} → Some m ≡ good_end p at → (good p ≡ true) × (m.byte ≡ at + plan_size p)
  unfolding good_end
  good-ends h = an-end (good p) (at + plan_size p) h

-- two plans: the first is not good, or it ends where the second begins
pub end-first : (P p q : Plan) (x at : ℕ) → P ≡ runs p q → None ≡ good_end p x → None ≡ good_end P at
unfolding good_end good
end-first P p q x at e h = rw (e, good_none p x h)

pub end-second : (P : Plan) (l : ℕ) (bytes : List ℕ) (x at : ℕ) {m : Offset} {r : Option Offset}
    → P ≡ runs (plan_at l bytes x) (plan_at l bytes (x + plan_size (plan_at l bytes x))) → x ≡ at + 1
    → Some m ≡ good_end (plan_at l bytes x) x → r ≡ good_end (plan_at l bytes m.byte) m.byte → r ≡ good_end P at
unfolding good_end good plan_size
end-second P l bytes x at {m} e i h f =
    let (g, k) = good-ends (plan_at l bytes x) x h in
    let q = λ (j : ℕ). plan_at l bytes j in
    let n : m.byte + plan_size (q (x + plan_size (q x))) ≡ at + (1 + (plan_size (q x) + plan_size (q (x + plan_size (q x))))) = omega arith in
    rw (e, g) (f ∙ ap (λ (j : ℕ). cond (good (q j)) (end_at (m.byte + plan_size (q j))) None) k
    ∙ ap (λ (j : ℕ). cond (good (q (x + plan_size (q x)))) (end_at j) None) n)

-- ---- the worst size of a code
pub worst-else : (k n : ℕ) → (k ≡ 1 → ⊥) → (k ≡ 3 → ⊥) → (k ≡ 5 → ⊥) → (k ≡ 6 → ⊥) → (k ≡ 8 → ⊥) → worst_groups n ≡ (code_of k).worst n
worst-else k n h₁ h₃ h₅ h₆ h₈ =
    by_number (λ d. worst_groups n ≡ d.worst n) k
    (λ e. absurd (h₁ e)) (λ e. refl) (λ e. absurd (h₃ e)) (λ e. refl) (λ e. absurd (h₅ e)) (λ e. absurd (h₆ e)) refl (λ e. absurd (h₈ e))

-- gamma has the largest
code-most : (k n : ℕ) → n ≤ most_numbers → (code_of k).worst n ≤ 8320
unfolding group_count worst_direct
code-most k n h =
    by_code (λ d. d.worst n ≤ 8320) (omega arith) (omega arith) (omega arith) (omega arith) (omega arith) (omega arith) (omega arith) (omega arith) k

-- ---- the worst size of a plan is within what its stages can make of the largest code
most : ℕ → ℕ
most zero = 8320
most (suc l) = 8 + (most l + most l)

by_most : (p q : Plan) (n k m : ℕ) → (code_of k).worst n ≤ m → 8 + (worst_plan p n + worst_plan q n) ≤ m → (a b c d : Bool)
    → worst_plan (cond a (code k) (cond b (reference p) (cond c (differences p) (cond d (runs p q) bad)))) n ≤ m
unfolding worst_plan
by_most p q n k m h i true b c d = h
by_most p q n k m h i false true c d = omega arith
by_most p q n k m h i false false true d = omega arith
by_most p q n k m h i false false false true = i
by_most p q n k m h i false false false false = omega arith

code-within : (l : ℕ) → 8320 ≤ most l
unfolding most
code-within zero = omega arith
code-within (suc l) = omega (arith, code-within l)

worst-within : (stages : ℕ) (bytes : List ℕ) (at n : ℕ) → n ≤ most_numbers → worst_plan (plan_at stages bytes at) n ≤ most stages
unfolding plan_at most worst_plan
worst-within zero bytes at n h =
    let b = get_or bytes at 0 in
    by_most bad bad n b 8320 (code-most b n h) (omega arith) (is_code b) false false false
worst-within (suc l) bytes at n h =
    let b = get_or bytes at 0 in
    let p = plan_at l bytes (at + 1) in
    let q = plan_at l bytes (at + 1 + plan_size p) in
    by_most p q n b (most (suc l))
    (omega (arith, code-most b n h, code-within (suc l)))
    (omega (arith, worst-within l bytes (at + 1) n h, worst-within l bytes (at + 1 + plan_size p) n h))
    (is_code b) (leb 1 (suc l) && eqb b 16) (leb 1 (suc l) && eqb b 17) (leb 1 (suc l) && eqb b 18)

most-of-three : (stages : ℕ) → stages ≤ most_stages → most stages ≤ 66616
unfolding most
most-of-three zero h = omega arith
most-of-three (suc zero) h = omega arith
most-of-three (suc (suc zero)) h = omega arith
most-of-three (suc (suc (suc zero))) h = omega arith
most-of-three (suc (suc (suc (suc l)))) h = absurd (omega arith)

-- no plan's worst size is above this
pub worst-most : (stages : ℕ) (bytes : List ℕ) (at n r : ℕ) → r ≡ worst_plan (plan_at stages bytes at) n → stages ≤ most_stages → n ≤ most_numbers → r ≤ 66616
worst-most stages bytes at n r e h i = omega (arith, worst-within stages bytes at n i, most-of-three stages h)
