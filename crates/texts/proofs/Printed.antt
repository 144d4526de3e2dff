-- What a program takes from the output that it lent: the text, whole, and there is one possible answer. Assumes nothing.
use Prim.Native.Nat.{ℕ, ◌≤◌}
use mathlib.Core.Path.{◌≡◌, sym, ap₂, ◌∙◌}
use mathlib.Core.List.{List}
use native.Mathlib.Omega.{arith}
use lib.ListN.{length, take}
use Rattle.meaning.proofs.Stores.{part-sets}
use Rattle.texts.specs.Written.{Written}

module _ {bytes : List ℕ} {most : ℕ} {out out' : List ℕ} {r : ℕ} (w : Written bytes most out out' r) where
  pub printed : most ≤ length out → take r out' ≡ bytes
  printed h = ap₂ take w.ends w.here ∙ part-sets bytes out 0 (omega (arith, w.ends, w.short))

  pub one-text : {out'' : List ℕ} {q : ℕ} → Written bytes most out out'' q → (r ≡ q) × (out' ≡ out'')
  one-text v = (w.ends ∙ sym v.ends, w.here ∙ sym v.here)
