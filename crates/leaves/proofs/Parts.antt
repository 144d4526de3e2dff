-- Parts of a list, by their length and their elements. Assumes nothing.
use Prim.Native.Nat.{ℕ, zero, suc, ◌+◌, ◌-◌, ◌≤◌, ◌<◌}
use mathlib.Core.Path.{◌≡◌, refl, ap, ◌∙◌}
use mathlib.Core.List.{List, [], ◌∷◌, ◌++◌}
use native.Mathlib.Numerals.{add-one}
use native.Mathlib.Omega.{arith}
use lib.ListN.{length, get_or, drop, length-drop}
use lib.Seq.{drop-cons, take-suc, get_or-drop, length-take-le}
use Rattle.meaning.specs.Places.{part}

module _ (s : List ℕ) (from k : ℕ) where
  pub part_length : from + k ≤ length s → length (part s from k) ≡ k
  part_length h = length-take-le k (drop from s) (omega (arith, length-drop from s))

  -- the first element, and the others
  pub part-cons : 0 < k → from + k ≤ length s → part s from k ≡ get_or s from 0 ∷ part s (from + 1) (k - 1)
  part-cons some h =
      let e : k ≡ suc (k - 1) = omega arith in
      ap (part s from) e ∙ rw (drop-cons s from 0 (omega arith), add-one from)

  -- one element more
  pub part-snoc : from + k < length s → part s from (k + 1) ≡ part s from k ++ (get_or s (from + k) 0 ∷ [])
  part-snoc h = rw (add-one k, take-suc (drop from s) k 0 (omega (arith, length-drop from s)), get_or-drop from s k 0)

-- k elements from a place on, each by itself
abbrev pub each : ℕ → List ℕ → ℕ → List ℕ
each zero s from = []
each (suc k) s from = get_or s from 0 ∷ each k s (suc from)

pub part-each : (k : ℕ) (s : List ℕ) (from : ℕ) → from + k ≤ length s → part s from k ≡ each k s from
part-each zero s from h = refl
part-each (suc k) s from h = rw (drop-cons s from 0 (omega arith)) (ap (λ (l : List ℕ). get_or s from 0 ∷ l) (part-each k s (suc from) (omega arith)))
