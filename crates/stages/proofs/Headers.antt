-- A run stage's header: what it tells, and how it is read. Assumes nothing.
use Prim.Native.Nat.{ℕ, ◌+◌, ◌-◌, ◌≤◌}
use mathlib.Core.Path.{◌≡◌, sym, ap, ◌∙◌}
use mathlib.Core.List.{List}
use native.Mathlib.Omega.{arith}
use lib.Dec.{leb}
use lib.ListN.{length}
use borrow.Author.Tests.{leb-true}
use Rattle.std.specs.Prelude.{Result, Ok, Err}
use Rattle.meaning.specs.Answer.{Answer, given, refused, bind}
use Rattle.meaning.specs.Bytes.{word_at}
use Rattle.meaning.specs.Limits.{cut_short, broken}
use Rattle.meaning.specs.Says.{refusal_number, says_by}
use Rattle.meaning.specs.Stages.{run_header}
use Rattle.meaning.specs.declared.Refusal.{Refusal}
use Rattle.meaning.proofs.Answers.{not-given, bind-given, need-given}
use Rattle.stages.specs.Header.{header_in, header_told}
use Rattle.stages.specs.declared.header.Header.{Header}

-- ---- what it tells: k runs, whose values body ends at e
pub record Headed (n : ℕ) (body : List ℕ) (k e : ℕ) : Type 0 where
  pub fits : run_header n body ≡ given tt
  pub many : k ≡ word_at body 0
  pub ends : e ≡ 8 + word_at body 4
  pub few : k ≤ n
  pub after : 8 ≤ e
  pub inside : e ≤ length body

pub header-fits : (n : ℕ) (body : List ℕ) → run_header n body ≡ given tt
    → (8 ≤ length body) × (word_at body 0 ≤ n) × (word_at body 4 ≤ length body - 8)
unfolding run_header
header-fits n body e =
    let (a, e₁) = need-given (leb 8 (length body)) cut_short _ tt e in
    let (b, e₂) = need-given (leb (word_at body 0) n) broken _ tt e₁ in
    let (c, e₃) = need-given (leb (word_at body 4) (length body - 8)) cut_short _ tt e₂ in
    (leb-true 8 (length body) a, leb-true (word_at body 0) n b, leb-true (word_at body 4) (length body - 8) c)

header-given : (n : ℕ) (body : List ℕ) (k e : ℕ) → header_in n body ≡ given (k, e) → Headed n body k e
unfolding header_in
header-given n body k e q =
    let (u, t, r) = bind-given (run_header n body) (λ h. given (word_at body 0, 8 + word_at body 4)) (k, e) q in
    let (a, b, c) = header-fits n body t in
    let z : ◌≡◌ {A = ℕ × ℕ} (word_at body 0, 8 + word_at body 4) (k, e) = cc in
    let x : word_at body 0 ≡ k = ap (λ (u : ℕ × ℕ). u.0) z in
    let y : 8 + word_at body 4 ≡ e = ap (λ (u : ℕ × ℕ). u.1) z in
    record { fits = t; many = sym x; ends = sym y; few = omega arith; after = omega arith; inside = omega arith }

-- or there is none
pub record Headless (n : ℕ) (body : List ℕ) (z : ℕ) : Type 0 where
  pub none : run_header n body ≡ refused z

unheaded : (n : ℕ) (body : List ℕ) (z : ℕ) → header_in n body ≡ refused z → Headless n body z
unfolding header_in
unheaded n body z e = record { none = go (run_header n body) e }
  where
    go : (m : Answer (Unit {0})) → bind {B = ℕ × ℕ} m (λ h. given (word_at body 0, 8 + word_at body 4)) ≡ refused z → m ≡ refused z
    go (given h) q = absurd (not-given z (word_at body 0, 8 + word_at body 4) (sym q))
    go (refused r) q = let is : r ≡ z = cc in ap (λ (k : ℕ). refused k) is

-- ---- as it is told
module _ {n : ℕ} {body : List ℕ} {r : Result Header Refusal} (told : says_by header_told r ≡ header_in n body) where
  pub headed : {h : Header} → r ≡ Ok h → Headed n body h.runs h.end.byte
  headed {h} q = header-given n body h.runs h.end.byte (sym told ∙ ap (says_by header_told) q)

  pub headless : {e : Refusal} → r ≡ Err e → Headless n body (refusal_number e)
  headless {e} q = unheaded n body (refusal_number e) (sym told ∙ ap (says_by header_told) q)
