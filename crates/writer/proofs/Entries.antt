-- The plan really used, and an entry's bytes. Assumes nothing.
use Prim.Native.Nat.{ℕ, suc, ◌+◌}
use mathlib.Core.Path.{◌≡◌, refl, ap, ◌∙◌}
use mathlib.Core.Bool.{Bool, true, false, ◌&&◌, cond}
use mathlib.Core.List.{List, ◌∷◌, ◌++◌, append_assoc}
use native.Mathlib.Omega.{arith}
use lib.Dec.{eqb}
use lib.ListN.{length, set, replicate, length-append}
use lib.Seq.{sets}
use borrow.Author.Tests.{eq-eqb}
use Rattle.meaning.specs.Bytes.{word}
use Rattle.meaning.specs.Limits.{plan_bytes, rising}
use Rattle.meaning.specs.Lists.{all}
use Rattle.meaning.specs.Plan.{default_plan, plan_used}
use Rattle.meaning.specs.Sheet.{Entry, plan_in, count_in, size_in, entry_bytes}
use Rattle.meaning.proofs.Stores.{sets-append}
use Rattle.words.proofs.Words.{word-length}

-- ---- 15 zeros mean the default
module _ (kind : ℕ) (bytes : List ℕ) where
  pub used-blank : length bytes ≡ plan_bytes → all (eqb 0) bytes ≡ true → default_plan kind ≡ plan_used kind bytes
  unfolding plan_used
  used-blank l e = rw (eq-eqb (length bytes) plan_bytes l, e)

  pub used-given : all (eqb 0) bytes ≡ false → bytes ≡ plan_used kind bytes
  unfolding plan_used
  used-given e = rw e (go (eqb (length bytes) plan_bytes))
    where
      go : (t : Bool) → bytes ≡ cond (t && false) (default_plan kind) bytes
      go true = refl
      go false = refl

  default-long : length (default_plan kind) ≡ plan_bytes
  unfolding default_plan
  default-long = go (eqb kind rising)
    where
      go : (t : Bool) → length {A = ℕ} (cond t (17 ∷ 1 ∷ replicate 13 0) (1 ∷ replicate 14 0)) ≡ plan_bytes
      go true = refl
      go false = refl

  pub used-long : length bytes ≡ plan_bytes → length (plan_used kind bytes) ≡ plan_bytes
  unfolding plan_used
  used-long l = go (eqb (length bytes) plan_bytes && all (eqb 0) bytes)
    where
      go : (t : Bool) → length (cond t (default_plan kind) bytes) ≡ plan_bytes
      go true = default-long
      go false = l

-- ---- an entry
-- an entry put part by part
entry-put : (edition : ℕ) (e : Entry) (o : List ℕ) (at : ℕ) → length e.plan ≡ plan_bytes
    → sets (sets (sets (set o at e.kind) (at + plan_in) e.plan) (at + count_in) (word e.count)) (at + size_in) (word e.size)
    ≡ sets o at (entry_bytes edition e)
unfolding entry_bytes
entry-put edition e o at l =
    let kind = e.kind in
    let plan = e.plan in
    let count = e.count in
    let size = e.size in
    let b : at + count_in ≡ at + plan_in + length plan = omega arith in
    let c : at + size_in ≡ at + plan_in + length (plan ++ word count) = omega (arith, length-append plan (word count), word-length count) in
    let one : at + plan_in ≡ suc at = omega arith in
    ap (λ (o₂ : List ℕ). sets o₂ (at + size_in) (word size))
    (ap (λ (k : ℕ). sets (sets (set o at kind) (at + plan_in) plan) k (word count)) b ∙ sets-append plan (word count) (set o at kind) (at + plan_in))
    ∙ ap (λ (k : ℕ). sets (sets (set o at kind) (at + plan_in) (plan ++ word count)) k (word size)) c
    ∙ sets-append (plan ++ word count) (word size) (set o at kind) (at + plan_in)
    ∙ ap (sets (set o at kind) (at + plan_in)) (append_assoc plan (word count) (word size))
    ∙ ap (λ (k : ℕ). sets (set o at kind) k (plan ++ (word count ++ word size))) one

-- the same from what each part's function says
pub entry-laid : (edition : ℕ) (e : Entry) (o o₁ o₂ o₃ o₄ : List ℕ) (at : ℕ) → length e.plan ≡ plan_bytes
    → o₁ ≡ set o at e.kind → o₂ ≡ sets o₁ (at + plan_in) e.plan
    → o₃ ≡ sets o₂ (at + count_in) (word e.count) → o₄ ≡ sets o₃ (at + size_in) (word e.size) → o₄ ≡ sets o at (entry_bytes edition e)
entry-laid edition e o o₁ o₂ o₃ o₄ at l e₁ e₂ e₃ e₄ =
    e₄
    ∙ ap (λ (x : List ℕ). sets x (at + size_in) (word e.size))
    (e₃ ∙ ap (λ (x : List ℕ). sets x (at + count_in) (word e.count)) (e₂ ∙ ap (λ (x : List ℕ). sets x (at + plan_in) e.plan) e₁))
    ∙ entry-put edition e o at l
