-- What the numbers through a place are refused by when they are taken once, stage by stage. Assumes nothing.
use Prim.Native.Nat.{ℕ, ◌+◌, ◌-◌, ◌≤◌, ◌<◌}
use mathlib.Core.Path.{◌≡◌, sym, ap, ◌∙◌}
use mathlib.Core.List.{List}
use mathlib.Core.Logic.{◌⊎◌, inl, inr}
use lib.ListN.{length, take, drop}
use borrow.Author.Tests.{le-leb, lt-leb}
use Rattle.meaning.specs.Answer.{Answer, given, refused, number}
use Rattle.meaning.specs.Limits.{cut_short, broken}
use Rattle.meaning.specs.Plan.{Plan, bad, code, reference, differences, runs, plan_at}
use Rattle.meaning.specs.Stages.{numbers_to, look, numbers_through}
use Rattle.meaning.specs.declared.Offset.{Offset}
use Rattle.meaning.proofs.Answers.{made-number}
use Rattle.judge.specs.Stage.{stage_at}
use Rattle.judge.specs.declared.stage.Stage.{Stage}
use Rattle.judge.specs.declared.stage.Stage.TheVariants.{Code, Differences}
use Rattle.judge.proofs.PlanLaws.{at_code, at-differences}
use Rattle.codes.specs.Firsts.{total}
use Rattle.codes.proofs.Totals.{total-to}
use Rattle.stages.proofs.Parts.{to_the_end}
use Rattle.plan_look.specs.Turns.{run_in}
use Rattle.plan_look.proofs.Looks.{through-run}

-- ---- where each place is by itself
by-places : (at : ℕ → Answer ℕ) (k : ℕ) → number (total at k) ≡ number (numbers_to at k)
by-places at k = ap number (total-to at k) ∙ made-number (numbers_to at k) _

module _ (p : Plan) (body : List ℕ) (n place : ℕ) where
  pub taking-bad : p ≡ bad → broken ≡ number (numbers_through p body n place)
  unfolding numbers_through
  taking-bad e = rw e

  module _ {t : ℕ} (told : t ≡ number (total (look p body n) (place + 1))) where
    taking-code : (c : ℕ) → p ≡ code c → t ≡ number (numbers_through p body n place)
    unfolding numbers_through
    taking-code c e = rw e (rw e at told ∙ by-places _ (place + 1))

    taking-differences : (q : Plan) → p ≡ differences q → t ≡ number (numbers_through p body n place)
    unfolding numbers_through
    taking-differences q e = rw e (rw e at told ∙ by-places _ (place + 1))

  module _ (q : Plan) (e : p ≡ reference q) where
    pub taking-short : length body < 4 → cut_short ≡ number (numbers_through p body n place)
    unfolding numbers_through
    taking-short h = rw (e, lt-leb 4 (length body) h)

    pub taking-reference : 4 ≤ length body → {t : ℕ} → t ≡ number (numbers_through q (take (length body - 4) (drop 4 body)) n place)
        → t ≡ number (numbers_through p body n place)
    unfolding numbers_through
    taking-reference h told =
        told ∙ rw (e, le-leb 4 (length body) h, to_the_end body 4) (sym (made-number (numbers_through q (drop 4 body) n place) _))

  module _ (p₁ q : Plan) (e : p ≡ runs p₁ q) where
    pub taking-no-run : {z : ℕ} → refused z ≡ run_in q body n place → z ≡ number (numbers_through p body n place)
    taking-no-run h = rw e (sym (through-run p₁ q body n place ∙ rw (← h)))

    pub taking-at-run : {k end j t : ℕ} → given ((k, end), j) ≡ run_in q body n place
        → t ≡ number (numbers_through p₁ (take (end - 8) (drop 8 body)) k j) → t ≡ number (numbers_through p body n place)
    taking-at-run h t = t ∙ rw e (sym (through-run p₁ q body n place ∙ rw (← h)))

-- a code or differences
pub taking-apart : (stages : ℕ) (bytes : List ℕ) (at : ℕ) (body : List ℕ) (n place : ℕ) {r : Stage} → r ≡ stage_at stages bytes at
    → ((c : ℕ) × (r ≡ Code c)) ⊎ ((x : Offset) × (l : ℕ) × (r ≡ Differences x l)) → {t : ℕ}
    → t ≡ number (total (look (plan_at stages bytes at) body n) (place + 1)) → t ≡ number (numbers_through (plan_at stages bytes at) body n place)
taking-apart stages bytes at body n place is (inl (c, q)) told = taking-code _ body n place told c (at_code stages bytes at c (sym is ∙ q)).0
taking-apart stages bytes at body n place is (inr (x, l, q)) told =
    taking-differences _ body n place told _ (at-differences stages bytes at x l (sym is ∙ q)).0
