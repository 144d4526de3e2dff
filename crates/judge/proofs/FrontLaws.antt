-- What the fronts answer: well formed plans, and refusals in their order. Assumes nothing.
use Prim.Native.Nat.{ℕ}
use mathlib.Core.Path.{◌≡◌, refl, sym, ap, ◌∙◌}
use mathlib.Core.Bool.{Bool, true, false}
use mathlib.Core.List.{List}
use native.Mathlib.Nat.{zero-add}
use lib.Dec.{eqb}
use lib.ListN.{length, drop}
use borrow.Author.Tests.{eq-eqb, ne_eqb}
use Rattle.std.specs.Option.{MatchOption}
use Rattle.std.specs.Prelude.{Option, Some, None}
use Rattle.meaning.specs.Answer.{Answer, refused, need}
use Rattle.meaning.specs.Limits.{plan_bytes, most_stages}
use Rattle.meaning.specs.Lists.{all}
use Rattle.meaning.specs.Plan.{plan_at, plan_of, well_formed}
use Rattle.meaning.specs.declared.Offset.{Offset}
use Rattle.judge.specs.Stage.{good_end}
use Rattle.judge.proofs.TreeLaws.{and_both, and-not, good_none, good-ends}

-- ---- a refusal, or the answer behind it
pub need-passed : {A : Type 0} (r t : Bool) (e : ℕ) (x a : Answer A) → r ≡ t → r ≡ true → x ≡ a → x ≡ need t e a
need-passed r t e x a h k q = let i : t ≡ true = sym h ∙ k in rw i q

pub need-refused : {A : Type 0} (r t : Bool) (e : ℕ) (a : Answer A) → r ≡ t → r ≡ false → refused e ≡ need t e a
need-refused r t e a h k = let i : t ≡ false = sym h ∙ k in rw i

-- ---- well formed
module _ (bytes : List ℕ) where
  pub formed-short : (length bytes ≡ plan_bytes → ⊥) → false ≡ well_formed bytes
  unfolding well_formed
  formed-short h = and-not _ _ _ refl (ne_eqb _ _ h)

  module _ (l : length bytes ≡ plan_bytes) where
    formed-bad : None ≡ good_end (plan_at most_stages bytes 0) 0 → false ≡ well_formed bytes
    unfolding well_formed plan_of
    formed-bad h = and_both _ _ _ _ refl (eq-eqb _ _ l) (and-not _ _ _ refl (good_none _ 0 h))

    formed-end : {e : Offset} → Some e ≡ good_end (plan_at most_stages bytes 0) 0 → {b : Bool} → b ≡ all (eqb 0) (drop e.byte bytes) → b ≡ well_formed bytes
    unfolding well_formed plan_of
    formed-end is eb =
        let (g, s) = good-ends _ 0 is in
        let k = s ∙ zero-add _ in
        and_both _ _ _ _ refl (eq-eqb _ _ l) (and_both _ _ _ _ refl g (eb ∙ ap (λ (j : ℕ). all (eqb 0) (drop j bytes)) k))

    -- blank after its end, if it has one
    pub formed-is : {o : Option Offset} {b : Bool} → o ≡ good_end (plan_at most_stages bytes 0) 0
        → MatchOption o (b ≡ false) (λ e. b ≡ all (eqb 0) (drop e.byte bytes)) → b ≡ well_formed bytes
    formed-is {o = None} is h = h ∙ formed-bad is
    formed-is {o = Some e} is h = formed-end is h
