-- Sums of the numbers at the first places. Assumes nothing.
use Prim.Native.Nat.{ℕ, zero, suc, ◌+◌, ◌-◌, ◌≤◌, ◌<◌}
use mathlib.Core.Path.{◌≡◌, refl, sym, ap, ◌∙◌}
use mathlib.Core.List.{List, [], ◌∷◌, ◌++◌}
use mathlib.Core.Logic.{◌⊎◌, inl, inr}
use native.Mathlib.Nat.{add_assoc, add-zero, zero-add, eq-or-lt_of_le, le_of_suc-le-suc}
use native.Mathlib.Numerals.{add-one}
use native.Mathlib.Omega.{arith}
use lib.Seq.{length-take-le, get_or-take}
use lib.ListN.{length, get_or, take}
use Rattle.meaning.specs.Answer.{Answer, given, refused, bind}
use Rattle.meaning.specs.Lists.{sum}
use Rattle.meaning.specs.Stages.{numbers_to}
use Rattle.meaning.specs.Codes.{code_of, look_code}
use Rattle.meaning.specs.declared.Position.{Position}
use Rattle.meaning.specs.declared.Taken.{Taken}
use Rattle.codes.specs.Firsts.{total}
use Rattle.codes.specs.Goes.{Passed}
use Rattle.meaning.proofs.Answers.{not-given, bind-given}
use Rattle.leaves.proofs.Joined.{sum-append}
use Rattle.stages.proofs.Through.{numbers-given}
use Rattle.codes.proofs.Lookings.{Looking, front}
use Rattle.codes.proofs.Stretches.{passed-long}

module _ (at : ℕ → Answer ℕ) where
  -- the first refusal is the sum's
  pub total-refused : (i k s e : ℕ) → i < k → total at i ≡ given s → at i ≡ refused e → total at k ≡ refused e
  unfolding total
  total-refused i zero s e h t r = absurd (omega arith)
  total-refused i (suc k) s e h t r = go (λ l. total-refused i k s e l t r) (eq-or-lt_of_le (le_of_suc-le-suc h))
    where
      go : (i < k → total at k ≡ refused e) → (i ≡ k) ⊎ (i < k) → bind (total at k) (λ s. bind (at k) (λ x. given (s + x))) ≡ refused e
      go f (inl q) = rw (← q, t, r)
      go f (inr l) = rw (f l)

  -- the numbers of xs stand at the next places
  pub total-more : (xs : List ℕ) (i s : ℕ) → total at i ≡ given s → ((j : ℕ) → j < length xs → at (i + j) ≡ given (get_or xs j 0))
      → total at (i + length xs) ≡ given (s + sum xs)
  unfolding total sum
  total-more [] i s t h = rw (add-zero i, add-zero s) t
  total-more (x ∷ xs) i s t h =
      let first : at i ≡ given x = rw add-zero at (h 0 (omega arith)) in
      let next : total at (suc i) ≡ given (s + x) = rw (t, first) in
      let here : i + suc (length xs) ≡ suc i + length xs = omega arith in
      ap (total at) here
      ∙ total-more xs (suc i) (s + x) next (λ j l. let e : suc i + j ≡ i + suc j = omega arith in ap at e ∙ h (suc j) (omega arith))
      ∙ ap (λ (y : ℕ). given y) (add_assoc s x (sum xs))

  -- one number more
  pub total-one : {i s x y : ℕ} → total at i ≡ given s → at i ≡ given x → y ≡ x → total at (i + 1) ≡ given (s + y)
  unfolding total
  total-one {i} t e same = rw (add-one i, t, e, same)

  pub total-none : total at 0 ≡ given 0
  unfolding total
  total-none = refl

  -- the first k numbers of xs stand at the next places
  pub total-part : (xs : List ℕ) (i s k : ℕ) → k ≤ length xs → total at i ≡ given s → ((j : ℕ) → j < k → at (i + j) ≡ given (get_or xs j 0))
      → total at (i + k) ≡ given (s + sum (take k xs))
  total-part xs i s k h t f =
      let n : length (take k xs) ≡ k = length-take-le k xs h in
      ap (λ (j : ℕ). total at (i + j)) (sym n)
      ∙ total-more (take k xs) i s t (λ j l. f j (omega arith) ∙ ap (λ (x : ℕ). given x) (sym (get_or-take k xs j 0 (omega arith))))

  -- numbers that are known
  pub total-taken : (gs : List ℕ) → ((i : ℕ) → i < length gs → at i ≡ given (get_or gs i 0)) → (k : ℕ) → k ≤ length gs → total at k ≡ given (sum (take k gs))
  total-taken gs h k l =
      ap (total at) (sym (zero-add k)) ∙ total-part gs 0 0 k l total-none (λ j b. rw (zero-add j) (h j (omega arith)))
      ∙ ap (λ (y : ℕ). given y) (zero-add (sum (take k gs)))

  -- they are the sum of the numbers taken in turn
  pub total-to : (k : ℕ) → total at k ≡ bind (numbers_to at k) (λ xs. given (sum xs))
  unfolding total numbers_to sum
  total-to zero = refl
  total-to (suc k) = rw (total-to k) (by-numbers (numbers_to at k) (at k))
    where
      by-numbers : (m : Answer (List ℕ)) (n : Answer ℕ) → bind (bind m (λ xs. given (sum xs))) (λ s. bind n (λ x. given (s + x)))
          ≡ bind (bind m (λ xs. bind n (λ x. given (xs ++ (x ∷ []))))) (λ xs. given (sum xs))
      by-numbers (given xs) (given x) = ap (λ (y : ℕ). given y) (sym (sum-append xs (x ∷ []) ∙ ap (λ (y : ℕ). sum xs + y) (add-zero x)))
      by-numbers (given xs) (refused e) = refl
      by-numbers (refused e) n = refl

  -- where the sum is refused, a place is refused by the same number
  pub total-stops : (k e : ℕ) → total at k ≡ refused e → (i : ℕ) × (i < k) × (at i ≡ refused e)
  unfolding total
  total-stops zero e h = absurd (not-given e 0 (sym h))
  total-stops (suc k) e h = by-sum (λ z q. total-stops k z q) (total at k) refl (at k) refl
    where
      by-sum : ((z : ℕ) → total at k ≡ refused z → (i : ℕ) × (i < k) × (at i ≡ refused z)) → (m : Answer ℕ) → total at k ≡ m → (n : Answer ℕ) → at k ≡ n
          → (i : ℕ) × (i < suc k) × (at i ≡ refused e)
      by-sum ih (given s) t (given x) a = absurd (not-given e (s + x) (sym h ∙ rw (t, a)))
      by-sum ih (given s) t (refused z) a = let same : refused z ≡ refused e = sym (rw (t, a)) ∙ h in (k, omega arith, a ∙ same)
      by-sum ih (refused z) t n a =
          let same : refused z ≡ refused e = sym (rw t) ∙ h in
          let (i, l, q) = ih z t in
          (i, omega arith, q ∙ same)

  -- where it is given, it is that of the numbers at those places
  pub total-numbers : (k s : ℕ) → total at k ≡ given s
      → (xs : List ℕ) × (sum xs ≡ s) × (length xs ≡ k) × ((i : ℕ) → i < k → at i ≡ given (get_or xs i 0))
  total-numbers k s h =
      let (xs, e, q) = bind-given (numbers_to at k) _ s (sym (total-to k) ∙ h) in
      let (long, is) = numbers-given at k xs e in
      (xs, cc, long, is)

-- a stretch adds its first k numbers
pub total-went : {code : ℕ} {body : List ℕ} {n i : ℕ} {p : Position} → (l : Looking code body n i p) → {room : ℕ} {w w' : List ℕ} {r : Taken}
    → (g : Passed (code_of code) body (n - i) p room 0 w w' r) → room ≤ length w → {s : ℕ} → total (look_code (code_of code) body n) i ≡ given s
    → (k : ℕ) → k ≤ r.count → k ≤ room → total (look_code (code_of code) body n) (i + k) ≡ given (s + sum (take k w'))
total-went {code} {body} {n} {i} l {w' = w'} g fits {s} t k h b =
    total-part (look_code (code_of code) body n) w' i s k (omega (arith, passed-long g)) t (λ j c. front l g fits j (omega arith) (omega arith))

-- and so the sum through a place among them is found
pub total-found : {code : ℕ} {body : List ℕ} {n i : ℕ} {p : Position} → (l : Looking code body n i p) → {room : ℕ} {w w' : List ℕ} {r : Taken}
    → (g : Passed (code_of code) body (n - i) p room 0 w w' r) → room ≤ length w → {s : ℕ} → total (look_code (code_of code) body n) i ≡ given s
    → (place : ℕ) → i ≤ place → place - i < r.count → place - i < room
    → given (s + sum (take (place - i + 1) w')) ≡ total (look_code (code_of code) body n) (place + 1)
total-found {code} {body} {n} {i} l g fits t place h b k =
    let e : i + (place - i + 1) ≡ place + 1 = omega arith in
    sym (total-went l g fits t (place - i + 1) (omega arith) (omega arith)) ∙ ap (total (look_code (code_of code) body n)) e
