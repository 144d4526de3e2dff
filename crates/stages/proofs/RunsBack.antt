-- What unrolls to a list are its runs. Assumes nothing.
use Prim.Native.Nat.{ℕ, zero, suc, ◌+◌, ◌≤◌, ◌<◌}
use mathlib.Core.Path.{◌≡◌, refl, sym, ap, ap₂, ◌∙◌}
use mathlib.Core.Bool.{true, not}
use mathlib.Core.List.{List, [], ◌∷◌, ◌++◌}
use native.Mathlib.Nat.{add-zero}
use native.Mathlib.Omega.{arith}
use lib.Dec.{leb, eqb}
use lib.ListN.{length, replicate, length-append, length-replicate}
use borrow.Author.Tests.{eqb-true, eqb-false, leb-true, not-true}
use Rattle.meaning.specs.Answer.{given}
use Rattle.meaning.specs.Limits.{broken}
use Rattle.meaning.specs.Lists.{all, sum, neighbours, differ}
use Rattle.meaning.specs.Places.{Below}
use Rattle.meaning.specs.Stages.{values_after, lengths_after, run_values, run_lengths, unroll, unrolled}
use Rattle.meaning.proofs.Answers.{need-given}
use Rattle.meaning.proofs.Bounds.{below-nil, below-cons, below-append}
use Rattle.meaning.proofs.Tests.{both_true}
use Rattle.stages.proofs.Runs.{values_same, values-next, lengths-same, lengths-next}

values-over : (v k : ℕ) (ys : List ℕ) → values_after v (replicate k v ++ ys) ≡ values_after v ys
values-over v zero ys = refl
values-over v (suc k) ys = values_same v v (replicate k v ++ ys) refl ∙ values-over v k ys

lengths-over : (v j k : ℕ) (ys : List ℕ) → lengths_after v j (replicate k v ++ ys) ≡ lengths_after v (j + k) ys
lengths-over v j zero ys = rw add-zero
lengths-over v j (suc k) ys =
    let e : j + 1 + k ≡ j + suc k = omega arith in
    lengths-same v v (replicate k v ++ ys) j refl ∙ lengths-over v (j + 1) k ys ∙ ap (λ (i : ℕ). lengths_after v i ys) e

-- lists of values and of lengths that say what runs are
pub record Maximal (vs ls : List ℕ) : Type 0 where
  pub paired : length vs ≡ length ls
  pub some : all (leb 1) ls ≡ true
  pub apart : differ vs ≡ true

maximal-tail : (v l : ℕ) (vs ls : List ℕ) → Maximal (v ∷ vs) (l ∷ ls) → (1 ≤ l) × (length vs ≡ length ls) × (all (leb 1) ls ≡ true)
unfolding all
maximal-tail v l vs ls m = let (a, b) = both_true (leb 1 l) (all (leb 1) ls) m.some in (leb-true 1 l a, omega (arith, m.paired), b)

-- a run of u, which is not v, after the runs up to v
after_run : (v k u l : ℕ) (ys : List ℕ) → (u ≡ v → ⊥) → 1 ≤ l
    → (values_after v (replicate l u ++ ys) ≡ v ∷ values_after u ys) × (lengths_after v k (replicate l u ++ ys) ≡ k ∷ lengths_after u l ys)
after_run v k u zero ys ne h = absurd (omega arith)
after_run v k u (suc l) ys ne h =
    let e : 1 + l ≡ suc l = omega arith in (
      values-next v u (replicate l u ++ ys) ne ∙ ap (λ (r : List ℕ). v ∷ r) (values-over u l ys),
      lengths-next v u (replicate l u ++ ys) k ne ∙ ap (λ (r : List ℕ). k ∷ r) (lengths-over u 1 l ys ∙ ap (λ (i : ℕ). lengths_after u i ys) e),
    )

differ-next : (v u : ℕ) (vs : List ℕ) → differ (v ∷ u ∷ vs) ≡ true → (u ≡ v → ⊥) × (differ (u ∷ vs) ≡ true)
unfolding differ neighbours
differ-next v u vs e =
    let (a, b) = both_true (not (eqb v u)) (differ (u ∷ vs)) e in
    (λ q. eqb-false v u (not-true (eqb v u) a) (sym q), b)

after-unroll : (v k : ℕ) (vs ls : List ℕ) → length vs ≡ length ls → all (leb 1) ls ≡ true → differ (v ∷ vs) ≡ true
    → (values_after v (unroll vs ls) ≡ v ∷ vs) × (lengths_after v k (unroll vs ls) ≡ k ∷ ls)
unfolding unroll values_after lengths_after all
after-unroll v k [] [] p s d = (refl, refl)
after-unroll v k [] (l ∷ ls) p s d = absurd (omega arith)
after-unroll v k (u ∷ vs) [] p s d = absurd (omega arith)
after-unroll v k (u ∷ vs) (l ∷ ls) p s d =
    let (a, b) = both_true (leb 1 l) (all (leb 1) ls) s in
    let (ne, d') = differ-next v u vs d in
    let (ev, el) = after_run v k u l (unroll vs ls) ne (leb-true 1 l a) in
    let (iv, il) = after-unroll u l vs ls (omega arith) b d' in
    (ev ∙ ap (λ (r : List ℕ). v ∷ r) iv, el ∙ ap (λ (r : List ℕ). k ∷ r) il)

first_run : (u l : ℕ) (ys : List ℕ) → 1 ≤ l
    → (run_values (replicate l u ++ ys) ≡ values_after u ys) × (run_lengths (replicate l u ++ ys) ≡ lengths_after u l ys)
unfolding run_values run_lengths
first_run u zero ys h = absurd (omega arith)
first_run u (suc l) ys h =
    let e : 1 + l ≡ suc l = omega arith in
    (values-over u l ys, lengths-over u 1 l ys ∙ ap (λ (i : ℕ). lengths_after u i ys) e)

pub runs-unroll : (vs ls : List ℕ) → Maximal vs ls → (run_values (unroll vs ls) ≡ vs) × (run_lengths (unroll vs ls) ≡ ls)
unfolding unroll run_values run_lengths
runs-unroll [] [] m = (refl, refl)
runs-unroll [] (l ∷ ls) m = absurd (omega (arith, m.paired))
runs-unroll (u ∷ vs) [] m = absurd (omega (arith, m.paired))
runs-unroll (u ∷ vs) (l ∷ ls) m =
    let (a, p, s) = maximal-tail u l vs ls m in
    let (ev, el) = first_run u l (unroll vs ls) a in
    let (iv, il) = after-unroll u l vs ls p s m.apart in
    (ev ∙ iv, el ∙ il)

pub unroll-length : (vs ls : List ℕ) → length vs ≡ length ls → length (unroll vs ls) ≡ sum ls
unfolding unroll sum
unroll-length [] [] p = refl
unroll-length [] (l ∷ ls) p = absurd (omega arith)
unroll-length (v ∷ vs) [] p = absurd (omega arith)
unroll-length (v ∷ vs) (l ∷ ls) p =
    length-append (replicate l v) (unroll vs ls) ∙ ap₂ ◌+◌ (length-replicate l v) (unroll-length vs ls (omega arith))

replicate-below : (m k v : ℕ) → v < m → Below m (replicate k v)
replicate-below m zero v h = below-nil m (omega arith)
replicate-below m (suc k) v h = below-cons m v (replicate k v) h (replicate-below m k v h)

pub unroll-below : (m : ℕ) (vs ls : List ℕ) → Below m vs → Below m (unroll vs ls)
unfolding unroll
unroll-below m [] ls h = h
unroll-below m (v ∷ vs) [] h = below-nil m (omega (arith, h 0))
unroll-below m (v ∷ vs) (l ∷ ls) h = below-append m (replicate l v) (unroll vs ls) (replicate-below m l v (h 0)) (unroll-below m vs ls (λ i. h (suc i)))

-- what was unrolled: its values, its lengths and its count are what they were
pub record Unrolled (n : ℕ) (vs ls xs : List ℕ) : Type 0 where
  pub is : unroll vs ls ≡ xs
  pub maximal : Maximal vs ls
  pub total : sum ls ≡ n

pub unrolled-is : (n : ℕ) (vs ls xs : List ℕ) → length vs ≡ length ls → unrolled n vs ls ≡ given xs → Unrolled n vs ls xs
unfolding unrolled
unrolled-is n vs ls xs p e =
    let (s, e₁) = need-given (all (leb 1) ls) broken _ xs e in
    let (t, e₂) = need-given (eqb (sum ls) n) broken _ xs e₁ in
    let (d, e₃) = need-given (differ vs) broken _ xs e₂ in
    record { is = cc; maximal = record { paired = p; some = s; apart = d }; total = eqb-true (sum ls) n t }
