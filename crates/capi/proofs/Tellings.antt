-- What is told of a verdict, and of a verdict with tallies, from what the operation answered, over plain variables. Assumes nothing.
use Prim.Native.Nat.{ℕ}
use mathlib.Core.Path.{◌≡◌, ap, ◌∙◌}
use Rattle.meaning.specs.Answer.{Verdict}
use Rattle.meaning.specs.declared.Tally.{Tally}
use Rattle.capi.specs.Told.{refusal, faulty, Blames, Tallies}

-- ---- a verdict
pub blames : (v v' : Verdict) (r : ℕ) → v' ≡ v → r ≡ refusal v' → Blames v r (faulty v')
blames v v' r e h = record { returned = h ∙ ap refusal e; blamed = ap faulty e }

-- ---- a verdict with tallies
pub tallies : (b b' : Verdict × Tally) (r : ℕ) → b' ≡ b → r ≡ refusal b'.0 → Tallies b r (faulty b'.0) b'.1
tallies b b' r e h =
    record {
      returned = h ∙ ap (λ (x : Verdict × Tally). refusal x.0) e;
      blamed = ap (λ (x : Verdict × Tally). faulty x.0) e;
      tallies = ap (λ (x : Verdict × Tally). x.1) e;
    }
