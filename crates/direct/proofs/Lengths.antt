-- The bits of a list's data bytes: how many they are, where each number's begin, and the ones among them. Assumes nothing.
use Prim.Native.Nat.{ℕ, zero, suc, ◌+◌, ◌-◌, ◌≤◌, ◌<◌}
use mathlib.Core.Path.{◌≡◌, refl, sym, ap, ap₂, ◌∙◌}
use mathlib.Core.List.{List, [], ◌∷◌, ◌++◌}
use native.Mathlib.Nat.{add-zero, zero-add}
use native.Mathlib.Omega.{arith}
use lib.ListN.{length, get_or, take, drop, replicate, length-append, length-replicate, take-append-drop}
use lib.Seq.{take-append-add, take-append-le, take-append_seam, drop-append_seam, drop-cons, length-take-le}
use Rattle.meaning.specs.Bits.{zeros_first}
use Rattle.meaning.specs.DataBytes.{byte_length, fewest, data_bytes}
use Rattle.meaning.specs.Direct.{last_bits}
use Rattle.meaning.specs.Lists.{sum, joined}
use Rattle.meaning.specs.Places.{Below}
use Rattle.meaning.specs.Rank.{ones_before}
use Rattle.meaning.proofs.Bounds.{below-nil, below-cons, below-append, below-zeros}
use Rattle.leaves.proofs.Joined.{joined-append, joined-next, sum-append}
use Rattle.words.proofs.DataBytes.{held, few-length}

-- ---- zeros and a one
sum_zeros : (n : ℕ) → sum (replicate n 0) ≡ 0
unfolding sum
sum_zeros zero = refl
sum_zeros (suc n) = zero-add (sum (replicate n 0)) ∙ sum_zeros n

take-zeros : (k n : ℕ) → k ≤ n → take k (replicate {A = ℕ} n 0) ≡ replicate k 0
take-zeros zero n h = refl
take-zeros (suc k) zero h = absurd (omega arith)
take-zeros (suc k) (suc n) h = ap (λ (l : List ℕ). 0 ∷ l) (take-zeros k n (omega arith))

zeros-then-one : (n : ℕ) (rest : List ℕ) → zeros_first ((replicate n 0 ++ (1 ∷ [])) ++ rest) ≡ n
unfolding zeros_first
zeros-then-one zero rest = refl
zeros-then-one (suc n) rest = ap suc (zeros-then-one n rest)

-- ---- a number's bits
pub last-length : (x : ℕ) → length (last_bits x) ≡ byte_length x
unfolding last_bits
last-length x =
    length-append (replicate (byte_length x - 1) 0) (1 ∷ []) ∙ omega (arith, length-replicate {A = ℕ} (byte_length x - 1) 0, (held x).least)

pub last-below : (x : ℕ) → Below 2 (last_bits x)
unfolding last_bits
last-below x =
    below-append 2 (replicate (byte_length x - 1) 0) (1 ∷ []) (below-zeros 2 (byte_length x - 1) (omega arith))
    (below-cons 2 1 [] (omega arith) (below-nil 2 (omega arith)))

pub last_sum : (x : ℕ) → sum (last_bits x) ≡ 1
unfolding last_bits sum
last_sum x = sum-append (replicate (byte_length x - 1) 0) (1 ∷ []) ∙ omega (arith, sum_zeros (byte_length x - 1))

-- it ends at the first one
pub last-first : (x : ℕ) (rest : List ℕ) → zeros_first (last_bits x ++ rest) ≡ byte_length x - 1
unfolding last_bits
last-first x rest = zeros-then-one (byte_length x - 1) rest

-- none of its bits is a one before the last
pub last-ones : (x k : ℕ) (rest : List ℕ) → k < byte_length x → ones_before (last_bits x ++ rest) k ≡ 0
unfolding last_bits ones_before
last-ones x k rest h =
    let n = byte_length x - 1 in
    let zeros : length (replicate {A = ℕ} n 0) ≡ n = length-replicate n 0 in
    ap sum (take-append-le k (last_bits x) rest (omega (arith, last-length x))
    ∙ take-append-le k (replicate n 0) (1 ∷ []) (omega arith) ∙ take-zeros k n (omega arith))
    ∙ sum_zeros k

-- ---- a list's bits
pub flags-cons : (x : ℕ) (xs : List ℕ) → joined last_bits (x ∷ xs) ≡ last_bits x ++ joined last_bits xs
unfolding joined
flags-cons x xs = refl

-- one for each data byte
pub flags-length : (xs : List ℕ) → length (joined last_bits xs) ≡ length (data_bytes xs)
unfolding joined data_bytes
flags-length [] = refl
flags-length (x ∷ xs) =
    length-append (last_bits x) (joined last_bits xs) ∙ ap₂ ◌+◌ (last-length x ∙ sym (few-length x)) (flags-length xs)
    ∙ sym (length-append (fewest x) (joined fewest xs))

pub flags-below : (xs : List ℕ) → Below 2 (joined last_bits xs)
unfolding joined
flags-below [] = below-nil 2 (omega arith)
flags-below (x ∷ xs) = below-append 2 (last_bits x) (joined last_bits xs) (last-below x) (flags-below xs)

-- as many ones as numbers
pub flags-sum : (xs : List ℕ) → sum (joined last_bits xs) ≡ length xs
unfolding joined sum
flags-sum [] = refl
flags-sum (x ∷ xs) = sum-append (last_bits x) (joined last_bits xs) ∙ omega (arith, last_sum x, flags-sum xs)

-- ---- where the bits of number i begin
abbrev pub begins : List ℕ → ℕ → ℕ
begins xs i = length (joined last_bits (take i xs))

module _ (xs : List ℕ) (i : ℕ) where
  pub flags-split : joined last_bits xs ≡ joined last_bits (take i xs) ++ joined last_bits (drop i xs)
  flags-split = ap (joined last_bits) (sym (take-append-drop i xs)) ∙ joined-append last_bits (take i xs) (drop i xs)

  pub flags-take : take (begins xs i) (joined last_bits xs) ≡ joined last_bits (take i xs)
  flags-take = ap (take (begins xs i)) flags-split ∙ take-append_seam (joined last_bits (take i xs)) (joined last_bits (drop i xs))

  pub flags-drop : drop (begins xs i) (joined last_bits xs) ≡ joined last_bits (drop i xs)
  flags-drop = ap (drop (begins xs i)) flags-split ∙ drop-append_seam (joined last_bits (take i xs)) (joined last_bits (drop i xs))

  pub begins-most : begins xs i ≤ length (joined last_bits xs)
  begins-most = omega (arith, ap length flags-split, length-append (joined last_bits (take i xs)) (joined last_bits (drop i xs)))

  -- ones before a bit of the rest
  pub ones-rest : (k : ℕ) → i ≤ length xs → ones_before (joined last_bits xs) (begins xs i + k) ≡ i + ones_before (joined last_bits (drop i xs)) k
  unfolding ones_before
  ones-rest k h =
      let front = joined last_bits (take i xs) in
      let rest = joined last_bits (drop i xs) in
      ap (λ (l : List ℕ). sum (take (begins xs i + k) l)) flags-split
      ∙ ap sum (take-append-add front rest k)
      ∙ sum-append front (take k rest)
      ∙ ap (λ (n : ℕ). n + sum (take k rest)) (flags-sum (take i xs) ∙ length-take-le i xs h)

  -- as many ones stand before number i as numbers
  pub ones-begin : i ≤ length xs → ones_before (joined last_bits xs) (begins xs i) ≡ i
  unfolding ones_before sum
  ones-begin h = ap sum flags-take ∙ flags-sum (take i xs) ∙ length-take-le i xs h

  module _ (inside : i < length xs) where
    pub begins-next : begins xs (i + 1) ≡ begins xs i + byte_length (get_or xs i 0)
    begins-next =
        ap length (joined-next last_bits xs 0 i inside) ∙ length-append (joined last_bits (take i xs)) (last_bits (get_or xs i 0))
        ∙ ap (λ (n : ℕ). begins xs i + n) (last-length (get_or xs i 0))

    -- the bits from there on are its own, and those of the numbers after it
    pub flags-from : drop (begins xs i) (joined last_bits xs) ≡ last_bits (get_or xs i 0) ++ joined last_bits (drop (suc i) xs)
    flags-from = flags-drop ∙ ap (joined last_bits) (drop-cons xs i 0 inside) ∙ flags-cons (get_or xs i 0) (drop (suc i) xs)

    -- and as many before each of its bits
    pub ones-inside : (k : ℕ) → k < byte_length (get_or xs i 0) → ones_before (joined last_bits xs) (begins xs i + k) ≡ i
    ones-inside k h =
        ones-rest k (omega arith)
        ∙ ap (λ (l : List ℕ). i + ones_before l k) (sym flags-drop ∙ flags-from)
        ∙ ap (λ (n : ℕ). i + n) (last-ones (get_or xs i 0) k (joined last_bits (drop (suc i) xs)) h)
        ∙ add-zero i
