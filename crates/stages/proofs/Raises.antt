-- What a list that is raised or summed up in its place answers. Assumes nothing.
use Prim.Native.Nat.{ℕ, ◌+◌, ◌≤◌, ◌<◌}
use mathlib.Core.Path.{◌≡◌, sym, ap, ◌∙◌}
use mathlib.Core.Bool.{true}
use mathlib.Core.List.{List}
use native.Mathlib.Omega.{arith}
use lib.ListN.{length, get_or, take}
use lib.Seq.{sets, take_all, length-take-le, get_or-take}
use borrow.Author.Tests.{eq-eqb, ne_eqb}
use Rattle.std.specs.Prelude.{Ok, Err}
use Rattle.meaning.specs.Places.{part, Got}
use Rattle.meaning.specs.Stages.{least, sums_from, small, raised, summed}
use Rattle.meaning.specs.declared.Refusal.TheVariants as refusal
use Rattle.meaning.proofs.Stores.{part-sets, take-sets}
use Rattle.leaves.proofs.Parts.{part_length}
use Rattle.stages.specs.Firsts.{Stored}
use Rattle.stages.proofs.Firsts.{first-most, all_small, one-large}
use Rattle.stages.proofs.Gots.{got-refused, got-stored}
use Rattle.stages.proofs.Parts.{stored-get}
use Rattle.stages.proofs.Scans.{raised_by, raise-scan, sums-scan, scan-length}

pub stored-kept : {xs : List ℕ} {from : ℕ} {w w₁ : List ℕ} {r : ℕ} → Stored xs from w w₁ r → take from w₁ ≡ take from w
stored-kept {xs} {from} {w} {w₁} {r} so = ap (take from) so.here ∙ take-sets (take r xs) w from from (omega arith)

pub stored_at : {xs : List ℕ} {from : ℕ} {w w₁ : List ℕ} {r : ℕ} → Stored xs from w w₁ r → from + length xs ≤ length w → (i : ℕ) → i < r
    → get_or w₁ (from + i) 0 ≡ get_or xs i 0
stored_at {xs} {from} {w} {w₁} {r} so room i h =
    let many : length (take r xs) ≡ r = length-take-le r xs (omega (arith, so.many, first-most xs)) in
    ap (λ (l : List ℕ). get_or l (from + i) 0) so.here ∙ stored-get (take r xs) w from i (omega (arith, so.many, first-most xs)) (omega arith)
    ∙ get_or-take r xs i 0 h

-- all of them are stored
stored-all : {xs : List ℕ} {from : ℕ} {w w₁ : List ℕ} {r : ℕ} → Stored xs from w w₁ r → length xs ≤ r → (small xs ≡ true) × (w₁ ≡ sets w from xs)
stored-all {xs} {from} {w} {w₁} {r} so h = (all_small xs (omega (arith, so.many)), so.here ∙ ap (sets w from) (take_all r xs h))

module _ {from n : ℕ} {w w₁ : List ℕ} {r : ℕ} (room : from + n ≤ length w) where
  module _ (so : Stored (sums_from 0 (part w from n)) from w w₁ r) where
    sums-long : length (sums_from 0 (part w from n)) ≡ n
    sums-long = scan-length sums_from _ _ sums-scan 0 (part w from n) ∙ part_length w from n room

    pub sum_over : r < n → Got (summed (part w from n)) from w w₁ (Err refusal.Broken)
    unfolding summed
    sum_over h =
        let large = one-large (sums_from 0 (part w from n)) (omega (arith, so.many, sums-long)) in
        got-refused _ from w w₁ refusal.Broken (rw large) (stored-kept so)

    pub sum-whole : n ≤ r → Got (summed (part w from n)) from w w₁ (Ok n)
    unfolding summed
    sum-whole h =
        let (e, stored) = stored-all so (omega (arith, sums-long)) in
        got-stored _ from n w w₁ (sums_from 0 (part w from n)) (rw e) sums-long room stored

  module _ (m : ℕ) (so : Stored (raised_by m (part w from n)) from w w₁ r) where
    raised_long : length (raised_by m (part w from n)) ≡ n
    raised_long = scan-length raised_by _ _ raise-scan m (part w from n) ∙ part_length w from n room

    pub raise-over : r < n → Got (raised m (part w from n)) from w w₁ (Err refusal.Broken)
    unfolding raised
    raise-over h =
        let large = one-large (raised_by m (part w from n)) (omega (arith, so.many, raised_long)) in
        got-refused _ from w w₁ refusal.Broken (rw large) (stored-kept so)

    -- every sum is in work, and l is the least of them
    module _ (h : n ≤ r) {l : ℕ} (is : l ≡ least (part w₁ from n)) where
      all-stored : (small (raised_by m (part w from n)) ≡ true) × (w₁ ≡ sets w from (raised_by m (part w from n)))
      all-stored = stored-all so (omega (arith, raised_long))

      lowest : l ≡ least (raised_by m (part w from n))
      lowest =
          is
          ∙ ap (λ (z : List ℕ). least (part z from n)) all-stored.1
          ∙ ap (λ (k : ℕ). least (part (sets w from (raised_by m (part w from n))) from k)) (sym raised_long)
          ∙ ap least (part-sets (raised_by m (part w from n)) w from (omega (arith, raised_long)))

      pub raise-whole : l ≡ m → Got (raised m (part w from n)) from w w₁ (Ok n)
      unfolding raised
      raise-whole q =
          got-stored _ from n w w₁ (raised_by m (part w from n)) (rw (all-stored.0, eq-eqb (least (raised_by m (part w from n))) m (sym lowest ∙ q)))
          raised_long room
          all-stored.1

      pub raise-low : (l ≡ m → ⊥) → Got (raised m (part w from n)) from w w₁ (Err refusal.Broken)
      unfolding raised
      raise-low q =
          got-refused _ from w w₁ refusal.Broken (rw (all-stored.0, ne_eqb (least (raised_by m (part w from n))) m (λ z. q (lowest ∙ z)))) (stored-kept so)
