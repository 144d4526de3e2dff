-- What demand 1 asks of an operation, by the form of its contract. Assumes nothing.
use Prim.Native.Nat.{ℕ, ◌<◌}
use mathlib.Core.Path.{◌≡◌, refl, sym, ap, ◌∙◌}
use mathlib.Core.Bool.{true}
use mathlib.Core.List.{List, []}
use native.Mathlib.Omega.{arith}
use lib.Dec.{leb}
use Rattle.meaning.specs.Answer.{Answer, given, refused, number, list, amount, filled, Verdict}
use Rattle.meaning.specs.Lists.{all}
use Rattle.meaning.proofs.Answers.{amount-number}
use Rattle.demands.specs.Promises.{Fills}
use Rattle.demands.specs.Demands.{Answers}
use Rattle.demands.specs.Refusals.{RefusesBy, BlamesBy, verdict_of, refusal}
use Rattle.demands.proofs.Outputs.{both}
use Rattle.demands.proofs.Refusals.{zero-passes}

-- an answer and its verdict refuse by the same number
verdict-by : {B : Type 0} (es : List ℕ) (m : Answer B) → RefusesBy es m → BlamesBy es (verdict_of m)
verdict-by es (given b) h = h
verdict-by es (refused e) h = h

verdict-number : {B : Type 0} (m : Answer B) → number m ≡ refusal (verdict_of m)
verdict-number (given b) = refl
verdict-number (refused e) = refl

-- after a refusal an output is as it was, and a list is empty
refused-keeps : (m : Answer (List ℕ)) (o : List ℕ) → 0 < number m → filled m o ≡ o
refused-keeps (given xs) o h = absurd (omega arith)
refused-keeps (refused e) o h = refl

pub refused-empty : (m : Answer (List ℕ)) → 0 < number m → list m ≡ []
refused-empty (given xs) h = absurd (omega arith)
refused-empty (refused e) h = refl

module _ {A : Type 0} (es : List ℕ) (some : all (leb 1) es ≡ true) where
  -- a verdict is told
  pub by-verdict : (Meets : A → Type 0) (says : A → ℕ) (v : Verdict) (Bare : A → Type 0) → BlamesBy es v → ((a b : A) → Meets a → Meets b → a ≡ b)
      → ((a : A) → Meets a → says a ≡ refusal v) → ((a : A) → Meets a → 0 < says a → Bare a) → Answers Meets says v es Bare
  by-verdict Meets says v Bare h one stated bare = record { one = one; numbered = h; stated = stated; zero = zero-passes es v some h; bare = bare }

  -- an answer's number is told
  pub by_number : {B : Type 0} (Meets : A → Type 0) (says : A → ℕ) (m : Answer B) (Bare : A → Type 0) → RefusesBy es m → ((a b : A) → Meets a → Meets b → a ≡ b)
      → ((a : A) → Meets a → says a ≡ number m) → ((a : A) → Meets a → 0 < number m → Bare a) → Answers Meets says (verdict_of m) es Bare
  by_number Meets says m Bare h one stated bare =
      by-verdict Meets says (verdict_of m) Bare (verdict-by es m h) one (λ a t. stated a t ∙ verdict-number m) (λ a t l. bare a t (omega (arith, stated a t)))

  -- an answer is told
  pub by_answer : {B : Type 0} (says : A → Answer B) (m : Answer B) → RefusesBy es m → ((a b : A) → says a ≡ m → says b ≡ m → a ≡ b)
      → Answers (λ a. says a ≡ m) (λ a. number (says a)) (verdict_of m) es (λ a. Unit {0})
  by_answer says m h one = by_number (λ a. says a ≡ m) (λ a. number (says a)) m (λ a. Unit {0}) h one (λ a t. ap number t) (λ a t l. tt)

-- a list goes to an output, and how long it is is told
pub by-output : {A : Type 0} (es : List ℕ) → all (leb 1) es ≡ true → (says : A → Answer ℕ) (m : Answer (List ℕ)) (o : List ℕ) → RefusesBy es m
    → ((a b : A) → says a ≡ amount m → says b ≡ amount m → a ≡ b)
    → Answers {A = A × List ℕ} (λ a. Fills m o (says a.0) a.1) (λ a. number (says a.0)) (verdict_of m) es (λ a. a.1 ≡ o)
by-output {A} es some says m o h one =
    by_number {A = A × List ℕ} es some (λ a. Fills m o (says a.0) a.1) (λ a. number (says a.0)) m (λ a. a.1 ≡ o) h
    (λ a b s t. both a b (one a.0 b.0 s.0 t.0, s.1 ∙ sym t.1))
    (λ a t. ap number t.0 ∙ amount-number m)
    (λ a t l. t.1 ∙ refused-keeps m o l)
