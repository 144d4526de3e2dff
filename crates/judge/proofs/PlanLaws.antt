-- What stands at an offset of the plan bytes says which plan begins there. The bytes meet the tree only here: the other proofs cite the five laws
-- at the end. Assumes nothing.
use Prim.Native.Nat.{ℕ, zero, suc, ◌+◌, ◌-◌, ◌<◌}
use mathlib.Core.Path.{◌≡◌, refl, sym, ap, ◌∙◌, subst}
use mathlib.Core.Logic.{◌⊎◌, inl, inr}
use mathlib.Core.Bool.{Bool, true, false, ◌&&◌, cond}
use mathlib.Core.List.{List}
use native.Mathlib.Numerals.{sub-one}
use native.Mathlib.Omega.{arith}
use lib.Dec.{leb, eqb}
use lib.ListN.{length, get_or, get_or-eq_default}
use borrow.Author.Tests.{leb-true}
use Rattle.meaning.specs.Codes.{is_code}
use Rattle.meaning.specs.Plan.{Plan, bad, code, reference, differences, runs, good, plan_size, plan_by, plan_at}
use Rattle.meaning.specs.declared.Offset.{Offset}
use Rattle.meaning.proofs.Tests.{by_order, both_true}
use Rattle.judge.specs.Stage.{stage_at}
use Rattle.judge.specs.declared.stage.Stage.{Stage}
use Rattle.judge.specs.declared.stage.Stage.TheVariants.{Bad, Code, Reference, Differences, Runs}

-- ---- the tree that grows from what stands at an offset, and what is known there
abbrev grown : List ℕ → Stage → Plan
grown bytes Bad = bad
grown bytes (Code c) = code c
grown bytes (Reference x l) = reference (plan_at l bytes x.byte)
grown bytes (Differences x l) = differences (plan_at l bytes x.byte)
grown bytes (Runs x l) = runs (plan_at l bytes x.byte) (plan_at l bytes (x.byte + plan_size (plan_at l bytes x.byte)))

abbrev Known : ℕ → List ℕ → ℕ → Stage → Type 0
Known stages bytes at Bad = Unit {0}
Known stages bytes at (Code c) = (is_code c ≡ true) × (at < length bytes)
Known stages bytes at (Reference x l) = (stages ≡ suc l) × (x.byte ≡ at + 1)
Known stages bytes at (Differences x l) = (stages ≡ suc l) × (x.byte ≡ at + 1)
Known stages bytes at (Runs x l) = (stages ≡ suc l) × (x.byte ≡ at + 1)

-- the tests on a byte pick a tree and a stage alike
same : (bytes : List ℕ) (k : ℕ) (x : Offset) (l : ℕ) (a b c d : Bool)
    → cond a (code k)
    (cond b (reference (plan_at l bytes x.byte))
    (cond c (differences (plan_at l bytes x.byte))
    (cond d (runs (plan_at l bytes x.byte) (plan_at l bytes (x.byte + plan_size (plan_at l bytes x.byte)))) bad)))
    ≡ grown bytes (cond a (Code k) (cond b (Reference x l) (cond c (Differences x l) (cond d (Runs x l) Bad))))
same bytes k x l true b c d = refl
same bytes k x l false true c d = refl
same bytes k x l false false true d = refl
same bytes k x l false false false true = refl
same bytes k x l false false false false = refl

known : (stages : ℕ) (bytes : List ℕ) (at k : ℕ) (x : Offset) (l : ℕ) → x.byte ≡ at + 1 → (a b c d : Bool)
    → (a ≡ true → (is_code k ≡ true) × (at < length bytes)) → (b ≡ true → stages ≡ suc l) → (c ≡ true → stages ≡ suc l) → (d ≡ true → stages ≡ suc l)
    → Known stages bytes at (cond a (Code k) (cond b (Reference x l) (cond c (Differences x l) (cond d (Runs x l) Bad))))
known stages bytes at k x l e true b c d f g h i = f refl
known stages bytes at k x l e false true c d f g h i = (g refl, e)
known stages bytes at k x l e false false true d f g h i = (h refl, e)
known stages bytes at k x l e false false false true f g h i = (i refl, e)
known stages bytes at k x l e false false false false f g h i = tt

-- a code is a byte that is there, and a stage uses one up
code_inside : (bytes : List ℕ) (at : ℕ) → is_code (get_or bytes at 0) ≡ true → at < length bytes
unfolding is_code
code_inside bytes at e =
    let h = leb-true 1 (get_or bytes at 0) (both_true (leb 1 (get_or bytes at 0)) _ e).0 in
    by_order at (length bytes) (λ k. k) (λ k. let z = get_or-eq_default bytes 0 k in absurd (omega arith))

one_less : (stages : ℕ) (t : Bool) → leb 1 stages && t ≡ true → stages ≡ suc (stages - 1)
one_less stages t e = let h = leb-true 1 stages (both_true (leb 1 stages) t e).0 in omega arith

-- ---- for any number of stages that may come
plan-by : (stages : ℕ) (bytes : List ℕ) (at : ℕ)
    → plan_at stages bytes at
    ≡ plan_by stages (get_or bytes at 0) (plan_at (stages - 1) bytes (at + 1))
    (plan_at (stages - 1) bytes (at + 1 + plan_size (plan_at (stages - 1) bytes (at + 1))))
unfolding plan_at
plan-by zero bytes at = refl
plan-by (suc l) bytes at = rw sub-one

module _ (stages : ℕ) (bytes : List ℕ) (at : ℕ) where
  plan-grown : plan_at stages bytes at ≡ grown bytes (stage_at stages bytes at)
  unfolding stage_at
  plan-grown =
      let b = get_or bytes at 0 in
      plan-by stages bytes at
      ∙ same bytes b (record { byte = at + 1 }) (stages - 1) (is_code b) (leb 1 stages && eqb b 16) (leb 1 stages && eqb b 17) (leb 1 stages && eqb b 18)

  stage-known : Known stages bytes at (stage_at stages bytes at)
  unfolding stage_at
  stage-known =
      let b = get_or bytes at 0 in
      known stages bytes at b (record { byte = at + 1 }) (stages - 1) refl
      (is_code b) (leb 1 stages && eqb b 16) (leb 1 stages && eqb b 17) (leb 1 stages && eqb b 18)
      (λ e. (e, code_inside bytes at e))
      (one_less stages _)
      (one_less stages _)
      (one_less stages _)

  told : (s : Stage) → stage_at stages bytes at ≡ s → (plan_at stages bytes at ≡ grown bytes s) × Known stages bytes at s
  told s e = (plan-grown ∙ ap (grown bytes) e, subst (Known stages bytes at) e stage-known)

  -- ---- the five laws
  pub at-bad : stage_at stages bytes at ≡ Bad → plan_at stages bytes at ≡ bad
  at-bad e = (told Bad e).0

  pub at_code : (c : ℕ) → stage_at stages bytes at ≡ Code c → (plan_at stages bytes at ≡ code c) × (is_code c ≡ true) × (at < length bytes)
  at_code c e = let (p, (i, k)) = told (Code c) e in (p, i, k)

  pub at-reference : (x : Offset) (l : ℕ) → stage_at stages bytes at ≡ Reference x l
      → (plan_at stages bytes at ≡ reference (plan_at l bytes x.byte)) × (stages ≡ suc l) × (x.byte ≡ at + 1)
  at-reference x l e = let (p, (i, k)) = told (Reference x l) e in (p, i, k)

  pub at-differences : (x : Offset) (l : ℕ) → stage_at stages bytes at ≡ Differences x l
      → (plan_at stages bytes at ≡ differences (plan_at l bytes x.byte)) × (stages ≡ suc l) × (x.byte ≡ at + 1)
  at-differences x l e = let (p, (i, k)) = told (Differences x l) e in (p, i, k)

  pub at-runs : (x : Offset) (l : ℕ) → stage_at stages bytes at ≡ Runs x l
      → (plan_at stages bytes at ≡ runs (plan_at l bytes x.byte) (plan_at l bytes (x.byte + plan_size (plan_at l bytes x.byte))))
      × (stages ≡ suc l) × (x.byte ≡ at + 1)
  at-runs x l e = let (p, (i, k)) = told (Runs x l) e in (p, i, k)

-- a stage over one plan, of either sort: what is known of that plan
pub record Over (stages : ℕ) (bytes : List ℕ) (at : ℕ) (x : Offset) (l : ℕ) : Type 0 where
  pub size : plan_size (plan_at stages bytes at) ≡ 1 + plan_size (plan_at l bytes x.byte)
  pub good : good (plan_at stages bytes at) ≡ good (plan_at l bytes x.byte)
  pub fewer : stages ≡ suc l
  pub next : x.byte ≡ at + 1

pub over : {stages : ℕ} {bytes : List ℕ} {at : ℕ} {x : Offset} {l : ℕ} {s : Stage} → s ≡ stage_at stages bytes at
    → (s ≡ Reference x l) ⊎ (s ≡ Differences x l) → Over stages bytes at x l
unfolding plan_size good
over is (inl e) =
    let (p, f, n) = at-reference _ _ _ _ _ (sym is ∙ e) in
    record { size = ap plan_size p; good = ap good p; fewer = f; next = n }
over is (inr e) =
    let (p, f, n) = at-differences _ _ _ _ _ (sym is ∙ e) in
    record { size = ap plan_size p; good = ap good p; fewer = f; next = n }

-- what is said of the plan at the end of the first inner plan is said of the second inner plan
pub second {ℓ} : {X : Type ℓ} (F : Plan → X) (l : ℕ) (bytes : List ℕ) (x m : ℕ) → m ≡ x + plan_size (plan_at l bytes x)
    → F (plan_at l bytes m) ≡ F (plan_at l bytes (x + plan_size (plan_at l bytes x)))
second F l bytes x m e = ap (λ (k : ℕ). F (plan_at l bytes k)) e
