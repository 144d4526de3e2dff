-- One possible answer: two answers, and two readers left, that meet the contract are equal. Assumes nothing.
use Rattle.meaning.specs.declared.Refusal.{Refusal}
use Rattle.std.specs.Prelude.{Result, Option, Some, None}
use Prim.Native.Nat.{ℕ}
use mathlib.Core.Path.{◌≡◌, refl, sym, ◌∙◌}
use mathlib.Core.List.{List}
use Rattle.meaning.specs.Answer.{number}
use Rattle.meaning.specs.Operations.{open_reader, call}
use Rattle.meaning.specs.Says.{says}
use Rattle.sheet.proofs.Unique.{one-lookup}
use Rattle.meaning.proofs.Same.{number-same, some-number}
use Rattle.reader.specs.Steps.{opened, refusal_told, answer, after, standing, moved}
use Rattle.reader.specs.declared.Reader.{Reader}
use Rattle.reader.specs.declared.FirstThree.{FirstThree}
use Rattle.reader.proofs.Calls.{call-after}

-- the part, the column and the place that the reader stands on, and the refusal
pub refusal-same : (e f : Option Refusal) → refusal_told e ≡ refusal_told f → e ≡ f
refusal-same None None h = refl
refusal-same None (Some f) h = absurd (some-number f (sym h))
refusal-same (Some e) None h = absurd (some-number e h)
refusal-same (Some e) (Some f) h = rw (number-same e f h)

pub one-open : (sheet : List ℕ) (k : ℕ) (r r' : Reader) (told told' : Option Refusal)
    → (standing r ≡ opened sheet k) × (refusal_told told ≡ number (open_reader sheet k))
    → (standing r' ≡ opened sheet k) × (refusal_told told' ≡ number (open_reader sheet k))
    → (standing r ≡ standing r') × (told ≡ told')
one-open sheet k r r' told told' e f = (e.0 ∙ sym f.0, refusal-same told told' (e.1 ∙ sym f.1))

-- the answer, and the reader left
pub one-step : (r exit exit' : Reader) (x x' : Result ℕ Refusal)
    → (says x ≡ answer (standing r)) × (exit ≡ moved r)
    → (says x' ≡ answer (standing r)) × (exit' ≡ moved r)
    → (x ≡ x') × (exit ≡ exit')
one-step r exit exit' x x' e f =
    (one-lookup (standing r).part (standing r).column (standing r).place x x' e.0 f.0, e.1 ∙ sym f.1)

-- the answer of a call by its number
pub one-call : (sheet : List ℕ) (k n : ℕ) (x x' : Result ℕ Refusal) → says x ≡ call sheet k n → says x' ≡ call sheet k n → x ≡ x'
one-call sheet k n x x' e f =
    let s = after n (opened sheet k) in
    one-lookup s.part s.column s.place x x' (e ∙ sym (call-after sheet k n)) (f ∙ sym (call-after sheet k n))

-- the answers of the first three calls
pub one-three : (sheet : List ℕ) (k : ℕ) (t t' : FirstThree)
    → (says t.first ≡ call sheet k 0) × (says t.second ≡ call sheet k 1) × (says t.third ≡ call sheet k 2)
    → (says t'.first ≡ call sheet k 0) × (says t'.second ≡ call sheet k 1) × (says t'.third ≡ call sheet k 2)
    → t ≡ t'
one-three sheet k t t' e f =
    let first : t.first ≡ t'.first = one-call sheet k 0 t.first t'.first e.0 f.0 in
    let second : t.second ≡ t'.second = one-call sheet k 1 t.second t'.second e.1 f.1 in
    let third : t.third ≡ t'.third = one-call sheet k 2 t.third t'.third e.2 f.2 in
    λ i. record { first = first i; second = second i; third = third i }
