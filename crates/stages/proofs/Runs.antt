-- The runs of a list: how many there are, that they are maximal, and that they unroll to the list. Assumes nothing.
use Prim.Native.Nat.{ℕ, suc, ◌+◌, ◌≤◌, ◌<◌}
use mathlib.Core.Path.{◌≡◌, refl, sym, ap, ap₂, ◌∙◌, subst}
use mathlib.Core.Bool.{Bool, true, not, ◌&&◌}
use mathlib.Core.List.{List, [], ◌∷◌, ◌++◌, append_assoc}
use native.Mathlib.Omega.{arith}
use lib.Dec.{leb, eqb}
use lib.ListN.{length, replicate, replicate-append-replicate}
use borrow.Author.Tests.{eq-eqb, ne_eqb, eqb-true, eqb-false, le-leb}
use Rattle.meaning.specs.Answer.{given}
use Rattle.meaning.specs.Lists.{all, sum, neighbours, rises, differ}
use Rattle.meaning.specs.Places.{Below}
use Rattle.meaning.specs.Stages.{values_after, lengths_after, run_values, run_lengths, unroll, unrolled}
use Rattle.meaning.proofs.Bounds.{below-nil, below-cons}
use Rattle.meaning.proofs.Tests.{by-test, both_true, true-both}

-- two numbers either way
pub by-same {ℓ} : {X : Type ℓ} (x v : ℕ) → (x ≡ v → X) → ((x ≡ v → ⊥) → X) → X
by-same x v f g = by-test (eqb x v) (λ t. f (eqb-true x v t)) (λ t. g (eqb-false x v t))

-- ---- one number more after a run of v: the run goes on, or it ends
module _ (v x : ℕ) (xs : List ℕ) where
  pub values_same : x ≡ v → values_after v (x ∷ xs) ≡ values_after v xs
  unfolding values_after
  values_same e = rw (eq-eqb x v e, e)

  pub values-next : (x ≡ v → ⊥) → values_after v (x ∷ xs) ≡ v ∷ values_after x xs
  unfolding values_after
  values-next e = rw (ne_eqb x v e)

  pub lengths-same : (k : ℕ) → x ≡ v → lengths_after v k (x ∷ xs) ≡ lengths_after v (k + 1) xs
  unfolding lengths_after
  lengths-same k e = rw (eq-eqb x v e, e)

  pub lengths-next : (k : ℕ) → (x ≡ v → ⊥) → lengths_after v k (x ∷ xs) ≡ k ∷ lengths_after x 1 xs
  unfolding lengths_after
  lengths-next k e = rw (ne_eqb x v e)

-- ---- how many
pub after-many : (v k : ℕ) (xs : List ℕ) → length (lengths_after v k xs) ≡ length (values_after v xs)
unfolding lengths_after values_after
after-many v k [] = refl
after-many v k (x ∷ xs) =
    by-same x v
    (λ e. ap length (lengths-same v x xs k e) ∙ after-many v (k + 1) xs ∙ sym (ap length (values_same v x xs e)))
    (λ e. ap length (lengths-next v x xs k e) ∙ ap suc (after-many x 1 xs) ∙ sym (ap length (values-next v x xs e)))

pub after-few : (v : ℕ) (xs : List ℕ) → length (values_after v xs) ≤ suc (length xs)
unfolding values_after
after-few v [] = omega arith
after-few v (x ∷ xs) =
    by-same x v
    (λ e. omega (arith, ap length (values_same v x xs e), after-few v xs))
    (λ e. omega (arith, ap length (values-next v x xs e), after-few x xs))

pub runs-many : (xs : List ℕ) → length (run_lengths xs) ≡ length (run_values xs)
unfolding run_lengths run_values
runs-many [] = refl
runs-many (x ∷ xs) = after-many x 1 xs

pub runs-few : (xs : List ℕ) → length (run_values xs) ≤ length xs
unfolding run_values
runs-few [] = omega arith
runs-few (x ∷ xs) = after-few x xs

-- ---- neighbours: the first value is v
values-first : (v : ℕ) (xs : List ℕ) → (r : List ℕ) × (values_after v xs ≡ v ∷ r)
unfolding values_after
values-first v [] = ([], refl)
values-first v (x ∷ xs) =
    by-same x v
    (λ e. let (r, er) = values-first v xs in (r, values_same v x xs e ∙ er))
    (λ e. (values_after x xs, values-next v x xs e))

values-led : (test : ℕ → ℕ → Bool) (p v : ℕ) (xs : List ℕ) → neighbours test (p ∷ values_after v xs) ≡ test p v && neighbours test (values_after v xs)
unfolding neighbours
values-led test p v xs =
    let (r, er) = values-first v xs in
    ap (λ (l : List ℕ). neighbours test (p ∷ l)) er ∙ ap (λ (l : List ℕ). test p v && neighbours test l) (sym er)

values-differ : (v : ℕ) (xs : List ℕ) → differ (values_after v xs) ≡ true
unfolding differ values_after neighbours
values-differ v [] = refl
values-differ v (x ∷ xs) =
    by-same x v
    (λ e. ap differ (values_same v x xs e) ∙ values-differ v xs)
    (λ e. ap differ (values-next v x xs e) ∙ values-led (λ x y. not (eqb x y)) v x xs ∙ rw (ne_eqb v x (λ q. e (sym q))) (values-differ x xs))

values-rise : (v : ℕ) (xs : List ℕ) → rises (v ∷ xs) ≡ true → rises (values_after v xs) ≡ true
unfolding rises values_after neighbours
values-rise v [] h = refl
values-rise v (x ∷ xs) h =
    let (a, b) = both_true (leb v x) (rises (x ∷ xs)) h in
    by-same x v
    (λ e. ap rises (values_same v x xs e) ∙ values-rise v xs (subst (λ (y : ℕ). rises (y ∷ xs) ≡ true) e b))
    (λ e. ap rises (values-next v x xs e) ∙ values-led leb v x xs ∙ true-both (leb v x) (rises (values_after x xs)) a (values-rise x xs b))

pub runs-rise : (xs : List ℕ) → rises xs ≡ true → rises (run_values xs) ≡ true
unfolding run_values
runs-rise [] h = h
runs-rise (x ∷ xs) h = values-rise x xs h

-- ---- bounds
values-below : (m v : ℕ) (xs : List ℕ) → v < m → Below m xs → Below m (values_after v xs)
unfolding values_after
values-below m v [] h k = below-cons m v [] h k
values-below m v (x ∷ xs) h k =
    by-same x v
    (λ e. subst (Below m) (sym (values_same v x xs e)) (values-below m v xs h (λ i. k (suc i))))
    (λ e. subst (Below m) (sym (values-next v x xs e)) (below-cons m v (values_after x xs) h (values-below m x xs (k 0) (λ i. k (suc i)))))

lengths-below : (m v k : ℕ) (xs : List ℕ) → 1 ≤ k → k + length xs < m → Below m (lengths_after v k xs)
unfolding lengths_after
lengths-below m v k [] h l = below-cons m k [] (omega arith) (below-nil m (omega arith))
lengths-below m v k (x ∷ xs) h l =
    by-same x v
    (λ e. subst (Below m) (sym (lengths-same v x xs k e)) (lengths-below m v (k + 1) xs (omega arith) (omega arith)))
    (λ e. subst (Below m) (sym (lengths-next v x xs k e))
    (below-cons m k (lengths_after x 1 xs) (omega arith) (lengths-below m x 1 xs (omega arith) (omega arith))))

pub run-values-below : (m : ℕ) (xs : List ℕ) → Below m xs → Below m (run_values xs)
unfolding run_values
run-values-below m [] h = h
run-values-below m (x ∷ xs) h = values-below m x xs (h 0) (λ i. h (suc i))

pub run-lengths-below : (m : ℕ) (xs : List ℕ) → length xs < m → Below m (run_lengths xs)
unfolding run_lengths
run-lengths-below m [] h = below-nil m (omega arith)
run-lengths-below m (x ∷ xs) h = lengths-below m x 1 xs (omega arith) (omega arith)

-- ---- unrolled
lengths_some : (v k : ℕ) (xs : List ℕ) → 1 ≤ k → all (leb 1) (lengths_after v k xs) ≡ true
unfolding lengths_after all
lengths_some v k [] h = rw (le-leb 1 k h)
lengths_some v k (x ∷ xs) h =
    by-same x v
    (λ e. ap (all (leb 1)) (lengths-same v x xs k e) ∙ lengths_some v (k + 1) xs (omega arith))
    (λ e. ap (all (leb 1)) (lengths-next v x xs k e) ∙ rw (le-leb 1 k h) (lengths_some x 1 xs (omega arith)))

lengths-sum : (v k : ℕ) (xs : List ℕ) → sum (lengths_after v k xs) ≡ k + length xs
unfolding lengths_after sum
lengths-sum v k [] = omega arith
lengths-sum v k (x ∷ xs) =
    by-same x v
    (λ e. omega (arith, ap sum (lengths-same v x xs k e), lengths-sum v (k + 1) xs))
    (λ e. omega (arith, ap sum (lengths-next v x xs k e), lengths-sum x 1 xs))

one_more : (k v : ℕ) (xs : List ℕ) → replicate (k + 1) v ++ xs ≡ replicate k v ++ (v ∷ xs)
one_more k v xs = ap (λ (l : List ℕ). l ++ xs) (sym (replicate-append-replicate k 1 v)) ∙ append_assoc (replicate k v) (v ∷ []) xs

unroll_after : (v k : ℕ) (xs : List ℕ) → unroll (values_after v xs) (lengths_after v k xs) ≡ replicate k v ++ xs
unfolding values_after lengths_after unroll
unroll_after v k [] = refl
unroll_after v k (x ∷ xs) =
    by-same x v
    (λ e. ap₂ unroll (values_same v x xs e) (lengths-same v x xs k e) ∙ unroll_after v (k + 1) xs ∙ one_more k v xs
    ∙ ap (λ (y : ℕ). replicate k v ++ (y ∷ xs)) (sym e))
    (λ e. ap₂ unroll (values-next v x xs e) (lengths-next v x xs k e) ∙ ap (λ (l : List ℕ). replicate k v ++ l) (unroll_after x 1 xs))

pub unrolled-runs : (xs : List ℕ) → unrolled (length xs) (run_values xs) (run_lengths xs) ≡ given xs
unfolding unrolled run_values run_lengths all sum differ neighbours unroll
unrolled-runs [] = refl
unrolled-runs (x ∷ xs) =
    rw (
      lengths_some x 1 xs (omega arith),
      eq-eqb (sum (lengths_after x 1 xs)) (suc (length xs)) (omega (arith, lengths-sum x 1 xs)),
      values-differ x xs,
      unroll_after x 1 xs,
    )
