-- Rank and select over a list of bits undo each other, and both by parts of the list. Assumes nothing.
use Prim.Native.Nat.{ℕ, zero, suc, ◌+◌, ◌-◌, ◌≤◌, ◌<◌}
use mathlib.Core.Path.{◌≡◌, refl, sym, ap, ◌∙◌}
use mathlib.Core.List.{List, [], ◌∷◌, ◌++◌}
use native.Mathlib.Nat.{zero-add, add_assoc, sub-zero}
use native.Mathlib.Omega.{arith}
use lib.ListN.{length, get_or, take, drop, replicate, take-append-drop}
use lib.Seq.{take-nil, length-take-le}
use Rattle.meaning.specs.Answer.{Answer, given, refused, bind}
use Rattle.meaning.specs.Lists.{sum}
use Rattle.meaning.specs.Places.{Below}
use Rattle.meaning.specs.Rank.{ones_before, one_at}
use Rattle.meaning.proofs.Answers.{bind-given, not-given}
use Rattle.meaning.proofs.Bounds.{below-take, below-drop, below-zeros}
use Rattle.meaning.proofs.Tests.{by_order}

-- a bit that comes later by so many
abbrev pub later : ℕ → Answer ℕ → Answer ℕ
later n a = bind a (λ i. given (n + i))

-- the k-th one stands at bit i
pub record One (bits : List ℕ) (k i : ℕ) : Type 0 where
  pub inside : i < length bits
  pub before : ones_before bits i ≡ k
  pub set : get_or bits i 0 ≡ 1

-- ---- one bit first
one-after : {bits : List ℕ} {j i : ℕ} (b : ℕ) → One bits j i → {k : ℕ} → b + j ≡ k → One (b ∷ bits) k (suc i)
unfolding ones_before sum
one-after b o e = record { inside = omega (arith, o.inside); before = ap (λ (n : ℕ). b + n) o.before ∙ e; set = o.set }

again : (a : Answer ℕ) (i : ℕ) → bind a (λ j. given (suc j)) ≡ given i → (j : ℕ) × (a ≡ given j) × (i ≡ suc j)
again a i e = let (j, ej, ei) = bind-given a _ i e in let same : suc j ≡ i = cc in (j, ej, sym same)

-- ---- select, then rank: the one that is found is there, and as many stand before it as were asked for
pub one-is : (e k : ℕ) (bits : List ℕ) (i : ℕ) → Below 2 bits → one_at e k bits ≡ given i → One bits k i
unfolding one_at ones_before sum
one-is e k [] i b q = absurd (not-given e i q)
one-is e k (zero ∷ bits) i b q =
    let (j, ej, ei) = again (one_at e k bits) i q in
    rw ei (one-after 0 (one-is e k bits j (λ n. b (suc n)) ej) (zero-add k))
one-is e zero (suc c ∷ bits) i b q =
    let z : 0 ≡ i = cc in
    let n : c ≡ 0 = omega (arith, b 0) in
    rw (← z, n) (record { inside = omega arith; before = refl; set = refl })
one-is e (suc k) (suc c ∷ bits) i b q =
    let (j, ej, ei) = again (one_at e k bits) i q in
    let n : c ≡ 0 = omega (arith, b 0) in
    rw (ei, n) (one-after 1 (one-is e k bits j (λ m. b (suc m)) ej) (omega arith))

-- ---- rank, then select: a one is found by the ones before it
pub one-at : (e : ℕ) (bits : List ℕ) (i : ℕ) → Below 2 bits → get_or bits i 0 ≡ 1 → one_at e (ones_before bits i) bits ≡ given i
unfolding one_at ones_before sum
one-at e [] i b s = let z : ◌≡◌ {A = ℕ} 0 1 = s in absurd (omega arith)
one-at e (zero ∷ bits) zero b s = absurd (omega arith)
one-at e (suc c ∷ bits) zero b s = refl
one-at e (zero ∷ bits) (suc i) b s =
    ap (λ (n : ℕ). one_at e n (0 ∷ bits)) (zero-add (sum (take i bits)))
    ∙ ap (λ (a : Answer ℕ). bind a (λ j. given (suc j))) (one-at e bits i (λ n. b (suc n)) s)
one-at e (suc c ∷ bits) (suc i) b s =
    let n : c ≡ 0 = omega (arith, b 0) in
    let m : suc c + sum (take i bits) ≡ suc (sum (take i bits)) = omega arith in
    rw (m, one-at e bits i (λ n. b (suc n)) s)

-- ---- a refusal is the one that was to be given, and says that there are too few
pub one_none : (e k : ℕ) (bits : List ℕ) → Below 2 bits → sum bits ≤ k → one_at e k bits ≡ refused e
unfolding one_at sum
one_none e k [] b h = refl
one_none e k (zero ∷ bits) b h = rw (one_none e k bits (λ n. b (suc n)) (omega arith))
one_none e zero (suc c ∷ bits) b h = absurd (omega arith)
one_none e (suc k) (suc c ∷ bits) b h = rw (one_none e k bits (λ n. b (suc n)) (omega arith))

pub one-some : (e k : ℕ) (bits : List ℕ) → Below 2 bits → k < sum bits → (i : ℕ) × (one_at e k bits ≡ given i)
unfolding one_at sum
one-some e k [] b h = absurd (omega arith)
one-some e k (zero ∷ bits) b h = let (i, q) = one-some e k bits (λ n. b (suc n)) (omega arith) in (suc i, rw q)
one-some e zero (suc c ∷ bits) b h = (0, refl)
one-some e (suc k) (suc c ∷ bits) b h = let (i, q) = one-some e k bits (λ n. b (suc n)) (omega (arith, b 0)) in (suc i, rw q)

-- another refusal changes nothing else
pub one-given : (e f k : ℕ) (bits : List ℕ) (i : ℕ) → Below 2 bits → one_at e k bits ≡ given i → one_at f k bits ≡ given i
one-given e f k bits i b q = let o = one-is e k bits i b q in ap (λ (n : ℕ). one_at f n bits) (sym o.before) ∙ one-at f bits i b o.set

-- no more ones than bits
pub ones-few : (bits : List ℕ) (k : ℕ) → Below 2 bits → ones_before bits k ≤ k
unfolding ones_before sum
ones-few bits zero b = omega arith
ones-few [] (suc k) b = omega arith
ones-few (x ∷ bits) (suc k) b = omega (arith, b 0, ones-few bits k (λ i. b (suc i)))

-- ---- by parts
pub ones-add : (bits : List ℕ) (m n : ℕ) → ones_before bits (m + n) ≡ ones_before bits m + ones_before (drop m bits) n
unfolding ones_before sum
ones-add bits zero n = ap (λ (k : ℕ). sum (take k bits)) (zero-add n) ∙ sym (zero-add (sum (take n bits)))
ones-add [] (suc m) n = ap sum (take-nil (suc m + n)) ∙ sym (ap sum (take-nil n)) ∙ sym (zero-add (sum (take n [])))
ones-add (b ∷ bits) (suc m) n =
    let e : suc m + n ≡ suc (m + n) = omega arith in
    ap (λ (k : ℕ). sum (take k (b ∷ bits))) e ∙ ap (λ (k : ℕ). b + k) (ones-add bits m n) ∙ sym (add_assoc b (sum (take m bits)) (sum (take n (drop m bits))))

-- the one is in the first part, or after it
pub one_left : (e k : ℕ) (xs ys : List ℕ) → Below 2 xs → k < sum xs → one_at e k (xs ++ ys) ≡ one_at e k xs
unfolding one_at sum
one_left e k [] ys b h = absurd (omega arith)
one_left e k (zero ∷ xs) ys b h = rw (one_left e k xs ys (λ n. b (suc n)) (omega arith))
one_left e zero (suc c ∷ xs) ys b h = refl
one_left e (suc k) (suc c ∷ xs) ys b h = rw (one_left e k xs ys (λ n. b (suc n)) (omega (arith, b 0)))

again-later : (a : Answer ℕ) (n : ℕ) → bind (later n a) (λ i. given (suc i)) ≡ later (suc n) a
again-later (given i) n = ap (λ (k : ℕ). given k) (omega arith)
again-later (refused r) n = refl

pub one_right : (e k : ℕ) (xs ys : List ℕ) → Below 2 xs → sum xs ≤ k → one_at e k (xs ++ ys) ≡ later (length xs) (one_at e (k - sum xs) ys)
unfolding one_at sum
one_right e k [] ys b h = ap (λ (n : ℕ). one_at e n ys) (sym (sub-zero k)) ∙ sym (at_once (one_at e (k - 0) ys))
  where
    at_once : (a : Answer ℕ) → later 0 a ≡ a
    at_once (given i) = ap (λ (n : ℕ). given n) (zero-add i)
    at_once (refused r) = refl
one_right e k (zero ∷ xs) ys b h =
    let m : k - (0 + sum xs) ≡ k - sum xs = omega arith in
    rw (one_right e k xs ys (λ n. b (suc n)) (omega arith), m) (again-later (one_at e (k - sum xs) ys) (length xs))
one_right e zero (suc c ∷ xs) ys b h = absurd (omega arith)
one_right e (suc k) (suc c ∷ xs) ys b h =
    let m : suc k - (suc c + sum xs) ≡ k - sum xs = omega (arith, b 0) in
    rw (one_right e k xs ys (λ n. b (suc n)) (omega (arith, b 0)), m) (again-later (one_at e (k - sum xs) ys) (length xs))

zeros-sum : (n k : ℕ) → sum (replicate n 0) ≤ k
unfolding sum
zeros-sum zero k = omega arith
zeros-sum (suc n) k = omega (arith, zeros-sum n k)

-- zeros behind add nothing
pub one-zeros : (e k : ℕ) (xs : List ℕ) (n : ℕ) → Below 2 xs → one_at e k (xs ++ replicate n 0) ≡ one_at e k xs
unfolding sum
one-zeros e k xs n b =
    by_order k (sum xs) (λ h. one_left e k xs (replicate n 0) b h)
    (λ h. one_right e k xs (replicate n 0) b h ∙ ap (later (length xs)) (zeros e (k - sum xs) n) ∙ sym (one_none e k xs b h))
  where
    zeros : (e k n : ℕ) → one_at e k (replicate n 0) ≡ refused e
    zeros e k n = one_none e k (replicate n 0) (below-zeros 2 n (omega arith)) (zeros-sum n k)

-- a bit found among all is found among the first m where it is one of them, and else none is
module _ (e k : ℕ) (bits : List ℕ) (i : ℕ) (b : Below 2 bits) (q : one_at e k bits ≡ given i) (m : ℕ) where
  split : one_at e k (take m bits ++ drop m bits) ≡ given i
  split = ap (one_at e k) (take-append-drop m bits) ∙ q

  ones-grow : (j : ℕ) → j ≤ m → ones_before bits j ≤ ones_before bits m
  ones-grow j h = let n : m ≡ j + (m - j) = omega arith in omega (arith, ap (ones_before bits) n, ones-add bits j (m - j))

  pub one-among : i < m → one_at e k (take m bits) ≡ given i
  unfolding ones_before sum
  one-among h =
      let o = one-is e k bits i b q in
      let s = one-next bits i o.inside in
      sym (one_left e k (take m bits) (drop m bits) (below-take 2 m bits b) (omega (arith, ones-grow (suc i) h, o.before, o.set, s))) ∙ split
    where
      one-next : (l : List ℕ) (j : ℕ) → j < length l → sum (take (suc j) l) ≡ sum (take j l) + get_or l j 0
      one-next [] j h = absurd (omega arith)
      one-next (x ∷ l) zero h = omega arith
      one-next (x ∷ l) (suc j) h = rw (one-next l j (omega arith)) (sym (add_assoc x (sum (take j l)) (get_or l j 0)))

  pub one-beyond : m ≤ i → one_at e k (take m bits) ≡ refused e
  unfolding ones_before
  one-beyond h =
      let o = one-is e k bits i b q in
      one_none e k (take m bits) (below-take 2 m bits b) (omega (arith, before-less i h, o.before))
    where
      before-less : (j : ℕ) → m ≤ j → ones_before bits m ≤ ones_before bits j
      before-less j h = let n : j ≡ m + (j - m) = omega arith in omega (arith, ap (ones_before bits) n, ones-add bits m (j - m))

-- a bit found among all is found in the w bits from m on, where the ones before say that it is there
pub one-within : (e k : ℕ) (bits : List ℕ) (i m w : ℕ) → Below 2 bits → one_at e k bits ≡ given i → ones_before bits m ≤ k → k < ones_before bits (m + w)
    → (m ≤ length bits) → (j : ℕ) × (one_at e (k - ones_before bits m) (take w (drop m bits)) ≡ given j) × (i ≡ m + j)
unfolding ones_before
one-within e k bits i m w b q low high inside =
    let here = below-take 2 w (drop m bits) (below-drop 2 m bits b) in
    let (j, g) = one-some e (k - ones_before bits m) (take w (drop m bits)) here (omega (arith, ones-add bits m w)) in
    let there : one_at e (k - ones_before bits m) (drop m bits) ≡ given j =
    sym (ap (one_at e (k - ones_before bits m)) (take-append-drop w (drop m bits)))
    ∙ one_left e (k - ones_before bits m) (take w (drop m bits)) (drop w (drop m bits)) here (omega (arith, ones-add bits m w)) ∙ g in
    let whole : one_at e k bits ≡ later (length (take m bits)) (one_at e (k - ones_before bits m) (drop m bits)) =
    sym (ap (one_at e k) (take-append-drop m bits)) ∙ one_right e k (take m bits) (drop m bits) (below-take 2 m bits b) low in
    let found : given (length (take m bits) + j) ≡ given i = sym (whole ∙ ap (later (length (take m bits))) there) ∙ q in
    let same : length (take m bits) + j ≡ i = cc in
    (j, g, omega (arith, length-take-le m bits inside))
