-- The first numbers by a plan, stage by stage: what each inner call is asked, and what its answer makes. Assumes nothing.
use Prim.Native.Nat.{ℕ, ◌+◌, ◌-◌, ◌*◌, ◌≤◌, ◌<◌, min}
use mathlib.Core.Path.{◌≡◌, sym, subst, ◌∙◌}
use mathlib.Core.List.{List}
use native.Mathlib.Omega.{arith}
use lib.ListN.{length, take, drop}
use Rattle.meaning.specs.Bytes.{word_at}
use Rattle.meaning.specs.Codes.{code_of, look_code}
use Rattle.meaning.specs.Places.{part}
use Rattle.meaning.specs.Plan.{Plan, bad, code, reference, differences, runs, plan_at, plan_size}
use Rattle.meaning.specs.Says.{refusal_number}
use Rattle.meaning.specs.Stages.{sums_from, look}
use Rattle.meaning.specs.declared.Refusal.{Refusal}
use Rattle.meaning.specs.declared.Refusal.TheVariants.{Broken, CutShort}
use Rattle.codes.specs.Firsts.{Firsts, Space}
use Rattle.codes.specs.declared.First.{First}
use Rattle.stages.specs.Firsts.{Stored}
use Rattle.stages.specs.Room.{Fits}
use Rattle.stages.proofs.Headers.{Headed, Headless}
use Rattle.stages.proofs.Parts.{shorter}
use Rattle.stages.proofs.Rooms.{fits-list}
use Rattle.stages.proofs.Scans.{raised_by}
use Rattle.plan_look.specs.Turns.{raised_at, ended_by, stop_at, RunsTurned}
use Rattle.plan_look.proofs.Turns.{firsts-none, firsts-as, firsts-stay, raised-firsts, summed-firsts}
use Rattle.plan_look.proofs.Looks.{bad-at, code_at, reference-short, reference-at, runs-refused, runs-at}

pub code-space : {body work : List ℕ} {l n from k : ℕ} → Fits body work l n from → k ≤ n → Space body n k work from
code-space s h = record { short = s.short; few = s.few; inside = h; room = omega (arith, fits-list s) }

-- ---- stage by stage
module _ (p : Plan) (body : List ℕ) (n k from : ℕ) (w : List ℕ) where
  pub bad-firsts : p ≡ bad → {r : First} → r ≡ ended_by k 0 Broken → Firsts (look p body n) k from w w r
  bad-firsts e er = rw er (firsts-none (look p body n) k from w Broken (bad-at p body n e 0))

  module _ (w' : List ℕ) (r : First) where
    pub code-firsts : (c : ℕ) → p ≡ code c → Firsts (look_code (code_of c) body n) k from w w' r → Firsts (look p body n) k from w w' r
    code-firsts c e f = firsts-as (look_code (code_of c) body n) (look p body n) k from w w' r (code_at p body n c e) f

    pub same-firsts : (q : Plan) → p ≡ q → Firsts (look q body n) k from w w' r → Firsts (look p body n) k from w w' r
    same-firsts q e f = subst (λ (x : Plan). Firsts (look x body n) k from w w' r) (sym e) f

  module _ (q : Plan) (w₁ w₂ : List ℕ) (got r : First) (c : ℕ) where
    pub differences-firsts : p ≡ differences q → Firsts (look q body n) k from w w₁ got → Stored (sums_from 0 (part w₁ from got.count)) from w₁ w₂ c
        → r ≡ stop_at got c → from + got.count ≤ length w₁ → Firsts (look p body n) k from w w₂ r
    differences-firsts e f so er room =
        rw er (subst (λ (x : Plan). Firsts (look x body n) k from w w₂ (stop_at got c)) (sym e) (summed-firsts q body n f room w₂ c so))

    pub reference-firsts : p ≡ reference q → 4 ≤ length body → (m : ℕ) → m ≡ word_at body 0
        → Firsts (look q (take (length body - 4) (drop 4 body)) n) k from w w₁ got
        → Stored (raised_by m (part w₁ from got.count)) from w₁ w₂ c → r ≡ stop_at got c → from + got.count ≤ length w₁
        → Firsts (look p body n) k from w w₂ r
    reference-firsts e h m em f so er room =
        let at = look q (take (length body - 4) (drop 4 body)) n in
        rw er (firsts-as (raised_at m at) (look p body n) k from w w₂ (stop_at got c) (reference-at p body n q e m h em) (raised-firsts f room m w₂ c so))

  pub reference-none : (q : Plan) → p ≡ reference q → length body < 4 → {r : First} → r ≡ ended_by k 0 CutShort → Firsts (look p body n) k from w w r
  reference-none q e h er = rw er (firsts-none (look p body n) k from w CutShort (reference-short p body n q e h 0))

-- ---- runs, of which the second inner plan begins where the first ends
module _ (p : Plan) (l : ℕ) (bytes : List ℕ) (x : ℕ) (body : List ℕ) (n k from : ℕ) (w : List ℕ) where
  abbrev runs_plan : Plan
  runs_plan = runs p (plan_at l bytes (x + plan_size (plan_at l bytes x)))

  pub runs_none : (z : Refusal) → Headless n body (refusal_number z) → {r : First} → r ≡ ended_by k 0 z → Firsts (look runs_plan body n) k from w w r
  runs_none z h er = rw er (firsts-none _ k from w z (runs-refused p _ body n h 0))

  pub runs-firsts : (m : ℕ) → m ≡ x + plan_size (plan_at l bytes x) → (w₁ w₂ w₃ : List ℕ) {many end few : ℕ} (values lengths r : First)
      → Headed n body many end → few ≡ min many k
      → Firsts (look p (take (end - 8) (drop 8 body)) many) few (from + n) w w₁ values
      → Firsts (look (plan_at l bytes m) (take (length body - end) (drop end body)) many) few (from + 2 * n) w₁ w₂ lengths
      → RunsTurned from n k many w₂ values lengths w₃ r
      → Firsts (look runs_plan body n) k from w w₃ r
  runs-firsts m e w₁ w₂ w₃ {many} {end} {few} values lengths r h ef fv fl turned =
      let q = plan_at l bytes m in
      let vals = look p (take (end - 8) (drop 8 body)) many in
      let lens = look q (take (length body - end) (drop end body)) many in
      let stay = firsts-stay vals few (from + n) (from + 2 * n) w w₁ w₂ values (omega (arith, h.few)) fl.kept fv in
      let f = turned vals lens w w₁ (rw ef at stay) (rw ef at fl) in
      let before = shorter from (from + n) w₂ w (omega arith) (shorter (from + n) (from + 2 * n) w₂ w₁ (omega arith) fl.kept ∙ fv.kept) in
      subst (λ (y : ℕ). Firsts (look (runs p (plan_at l bytes y)) body n) k from w w₃ r) e
      (firsts-as _ (look (runs p q) body n) k from w w₃ r (runs-at p q body n h)
      (record { most = f.most; are = f.are; stops = f.stops; all = f.all; kept = f.kept ∙ before }))
