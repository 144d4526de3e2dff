-- What `is_code`, `stage_at` and `plan_end` answer. Assumes nothing.
use Prim.Native.Nat.{ℕ, ◌+◌, ◌-◌, ◌≤◌, ◌<◌}
use mathlib.Core.Path.{◌≡◌, refl, sym, ap, ◌∙◌}
use mathlib.Core.Bool.{Bool, true, false, ◌&&◌, cond}
use mathlib.Core.List.{List}
use native.Mathlib.Omega.{arith}
use lib.Dec.{leb, eqb}
use lib.ListN.{length, get_or, get_or-eq_default}
use borrow.Author.Tests.{le-leb, lt-leb, ne_eqb}
use Rattle.meaning.specs.Codes.{last_code, is_code}
use Rattle.meaning.specs.Plan.{plan_size, plan_at}
use Rattle.meaning.specs.declared.Offset.{Offset}
use Rattle.judge.specs.Stage.{stage_at}
use Rattle.judge.specs.declared.stage.Stage.TheVariants.{Bad, Code, Reference, Differences, Runs}

pub code-low : (b : ℕ) → b < 1 → false ≡ is_code b
unfolding is_code
code-low b h = rw (lt-leb 1 b h)

pub code-test : (b : ℕ) → 1 ≤ b → leb b last_code ≡ is_code b
unfolding is_code
code-test b h = rw (le-leb 1 b h)

-- a byte 0 is no plan, whether stages may come or not
nothing : (s : Bool) (x : Offset) (l : ℕ)
    → Bad ≡ cond (is_code 0) (Code 0) (cond (s && eqb 0 16) (Reference x l) (cond (s && eqb 0 17) (Differences x l) (cond (s && eqb 0 18) (Runs x l) Bad)))
unfolding is_code
nothing true x l = refl
nothing false x l = refl

module _ (stages : ℕ) (bytes : List ℕ) (at : ℕ) where
  pub stage-end : length bytes ≤ at → Bad ≡ stage_at stages bytes at
  unfolding stage_at
  stage-end k = rw (get_or-eq_default bytes 0 k) (nothing (leb 1 stages) (record { byte = at + 1 }) (stages - 1))

  module _ {b : ℕ} (is : b ≡ get_or bytes at 0) (t : Bool) (told : t ≡ is_code b) where
    pub stage_code : t ≡ true → Code b ≡ stage_at stages bytes at
    unfolding stage_at
    stage_code f = let h : is_code b ≡ true = sym told ∙ f in rw (← is, h)

    module _ (f : t ≡ false) where
      no_code : is_code b ≡ false
      no_code = sym told ∙ f

      pub stage-none : stages ≡ 0 → Bad ≡ stage_at stages bytes at
      unfolding stage_at
      stage-none z = rw (← is, no_code, z)

      module _ (some : stages ≡ 0 → ⊥) where
        more : leb 1 stages ≡ true
        more = le-leb 1 stages (omega arith)

        pub stage-16 : b ≡ 16 → Reference (record { byte = at + 1 }) (stages - 1) ≡ stage_at stages bytes at
        unfolding stage_at is_code
        stage-16 e = rw (← is, e, more)

        pub stage-17 : b ≡ 17 → Differences (record { byte = at + 1 }) (stages - 1) ≡ stage_at stages bytes at
        unfolding stage_at is_code
        stage-17 e = rw (← is, e, more)

        pub stage-18 : b ≡ 18 → Runs (record { byte = at + 1 }) (stages - 1) ≡ stage_at stages bytes at
        unfolding stage_at is_code
        stage-18 e = rw (← is, e, more)

        pub stage-else : (b ≡ 16 → ⊥) → (b ≡ 17 → ⊥) → (b ≡ 18 → ⊥) → Bad ≡ stage_at stages bytes at
        unfolding stage_at
        stage-else h₁₆ h₁₇ h₁₈ = rw (← is, no_code, more, ne_eqb b 16 h₁₆, ne_eqb b 17 h₁₇, ne_eqb b 18 h₁₈)

-- where the second inner plan ends, by way of where the first does
pub two_ends : (l : ℕ) (bytes : List ℕ) (x m r : ℕ) → m ≡ x + plan_size (plan_at l bytes x) → r ≡ m + plan_size (plan_at l bytes m)
    → r ≡ x + (plan_size (plan_at l bytes x) + plan_size (plan_at l bytes (x + plan_size (plan_at l bytes x))))
two_ends l bytes x m r e f =
    let g : plan_size (plan_at l bytes m) ≡ plan_size (plan_at l bytes (x + plan_size (plan_at l bytes x))) = ap (λ (k : ℕ). plan_size (plan_at l bytes k)) e in
    omega arith
