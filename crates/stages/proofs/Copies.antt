-- A copy read back. Assumes nothing.
use Prim.Native.Nat.{ℕ, ◌+◌, ◌≤◌}
use mathlib.Core.Path.{◌≡◌, sym, ap, ◌∙◌}
use mathlib.Core.List.{List}
use native.Mathlib.Omega.{arith}
use lib.ListN.{length, take}
use lib.Seq.{sets}
use Rattle.meaning.specs.Places.{part}
use Rattle.meaning.proofs.Stores.{part-sets}
use Rattle.leaves.proofs.Parts.{part_length}

-- a copy at the start of work, read back
pub copy-back : (src : List ℕ) (from n : ℕ) (w : List ℕ) → from + n ≤ length src → n ≤ length w → {w' : List ℕ} → w' ≡ sets w 0 (part src from n)
    → take n w' ≡ part src from n
copy-back src from n w fits room e =
    let long = part_length src from n fits in
    ap (take n) e ∙ ap (λ (k : ℕ). take k (sets w 0 (part src from n))) (sym long) ∙ part-sets (part src from n) w 0 (omega arith)
