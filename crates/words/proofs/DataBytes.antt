-- Numbers in the fewest bytes, for codes 2, 3, 4 and 7: a list's data bytes read back as the list, and what reads as a list are its data bytes.
-- Assumes nothing.
use Prim.Native.Nat.{ℕ, zero, suc, ◌+◌, ◌-◌, ◌*◌, ◌/◌, ◌^◌, ◌≤◌, ◌<◌}
use mathlib.Core.Path.{◌≡◌, refl, sym, ap, ap₂, ◌∙◌, subst}
use mathlib.Core.List.{List, [], ◌∷◌, ◌++◌, append_assoc, map}
use native.Mathlib.Nat.{lt_of_lt_of_le}
use native.Mathlib.Omega.{arith}
use lib.Count.{count_leading_zeros, leading_length}
use lib.Pow.{pow_mono}
use lib.Dec.{eqb}
use lib.ListN.{length, get_or, take, drop, length-append, length-drop, length-map}
use lib.Seq.{take_at, drop_at, take-add, length-take-le, take-append-le, drop-append-le}
use borrow.Author.Tests.{lt-ltb, le-ltb, eq-eqb, eqb-true}
use Rattle.meaning.specs.Answer.{given}
use Rattle.meaning.specs.Limits.{broken, number_limit}
use Rattle.meaning.specs.Lists.{sum, joined}
use Rattle.meaning.specs.Bytes.{bytes_of, number_of}
use Rattle.meaning.specs.DataBytes.{byte_length, fewest, data_bytes, data_in}
use Rattle.meaning.specs.Places.{Below, part}
use Rattle.meaning.proofs.Answers.{bind-given, need-given}
use Rattle.meaning.proofs.Bounds.{below-nil, below-cons, below-append, below-take, below-drop}
use Rattle.meaning.proofs.Lasting.{Lasts, lasts-given, lasts-rule, lasts-bind}
use Rattle.meaning.proofs.Tests.{by_order}
use Rattle.words.proofs.Bytes.{bytes-length, bytes_small, number-bytes, number_small, bytes-number}
use Rattle.leaves.proofs.Joined.{joined-append, joined-next, joined-rest, joined-past}
use Rattle.leaves.proofs.Parts.{part-cons}

-- ---- how many bytes hold a number
-- x lies between the powers that its length says
pub record Held (x l : ℕ) : Type 0 where
  pub least : 1 ≤ l
  pub most : l ≤ 4
  pub above : x < number_limit → x < 256 ^ l
  pub below : 1 < l → 256 ^ (l - 1) ≤ x

pub held : (x : ℕ) → Held x (byte_length x)
unfolding byte_length
held x =
    by_order x (2 ^ 8)
    (λ a. rw (lt-ltb x (2 ^ 8) a) (record { least = omega arith; most = omega arith; above = λ h. a; below = λ h. absurd (omega arith) }))
    (λ a. by_order x (2 ^ 16)
    (λ b. rw (le-ltb x (2 ^ 8) a, lt-ltb x (2 ^ 16) b) (record { least = omega arith; most = omega arith; above = λ h. b; below = λ h. a }))
    (λ b. by_order x (2 ^ 24)
    (λ c. rw (le-ltb x (2 ^ 8) a, le-ltb x (2 ^ 16) b, lt-ltb x (2 ^ 24) c)
    (record { least = omega arith; most = omega arith; above = λ h. c; below = λ h. b }))
    (λ c. rw (le-ltb x (2 ^ 8) a, le-ltb x (2 ^ 16) b, le-ltb x (2 ^ 24) c)
    (record { least = omega arith; most = omega arith; above = λ h. h; below = λ h. c }))))

pub few-length : (x : ℕ) → length (fewest x) ≡ byte_length x
unfolding fewest
few-length x = bytes-length (byte_length x) x

pub few-small : (x : ℕ) → Below 256 (fewest x)
unfolding fewest
few-small x = bytes_small (byte_length x) x

pub few-number : (x : ℕ) → x < number_limit → number_of (fewest x) ≡ x
unfolding fewest
few-number x h = number-bytes (byte_length x) x ((held x).above h)

-- ---- a list's data bytes
pub data-cons : (x : ℕ) (xs : List ℕ) → data_bytes (x ∷ xs) ≡ fewest x ++ data_bytes xs
unfolding data_bytes joined
data-cons x xs = refl

-- the data of a part of a list: its first number's, and the others'
pub data-part : (xs : List ℕ) (from n : ℕ) → 0 < n → from + n ≤ length xs
    → data_bytes (part xs from n) ≡ fewest (get_or xs from 0) ++ data_bytes (part xs (from + 1) (n - 1))
data-part xs from n some inside = rw (part-cons xs from n some inside) (data-cons (get_or xs from 0) (part xs (from + 1) (n - 1)))

pub data-append : (xs ys : List ℕ) → data_bytes (xs ++ ys) ≡ data_bytes xs ++ data_bytes ys
unfolding data_bytes
data-append xs ys = joined-append fewest xs ys

pub data-length : (xs : List ℕ) → length (data_bytes xs) ≡ sum (map byte_length xs)
unfolding data_bytes joined sum
data-length [] = refl
data-length (x ∷ xs) = length-append (fewest x) (joined fewest xs) ∙ ap₂ ◌+◌ (few-length x) (data-length xs)

-- from a number on, and past the last
pub data-rest : (xs : List ℕ) (i : ℕ) → i < length xs → data_bytes (drop i xs) ≡ fewest (get_or xs i 0) ++ data_bytes (drop (i + 1) xs)
unfolding data_bytes
data-rest xs i h = joined-rest fewest xs 0 i h

pub data-past : (xs : List ℕ) (i : ℕ) → length xs ≤ i → data_bytes (drop i xs) ≡ []
unfolding data_bytes
data-past xs i h = joined-past fewest xs i h

pub data-most : (xs : List ℕ) → length (data_bytes xs) ≤ 4 * length xs
unfolding data_bytes joined
data-most [] = omega arith
data-most (x ∷ xs) = simp length-append (omega (arith, few-length x, (held x).most, data-most xs))

pub data-empty : length (data_bytes []) ≡ 0
unfolding data_bytes joined
data-empty = refl

-- a number more
pub data-next : (xs : List ℕ) (i : ℕ) → i < length xs
    → length (data_bytes (take (i + 1) xs)) ≡ length (data_bytes (take i xs)) + byte_length (get_or xs i 0)
unfolding data_bytes
data-next xs i h =
    rw (joined-next fewest xs 0 i h, length-append (joined fewest (take i xs)) (fewest (get_or xs i 0)), few-length (get_or xs i 0)) refl

pub data-small : (xs : List ℕ) → Below 256 (data_bytes xs)
unfolding data_bytes joined
data-small [] = below-nil 256 (omega arith)
data-small (x ∷ xs) = below-append 256 (fewest x) (joined fewest xs) (few-small x) (data-small xs)

-- ---- written and read
pub data-written : (xs rest : List ℕ) → Below number_limit xs → data_in (map byte_length xs) (data_bytes xs ++ rest) ≡ given xs
unfolding data_in data_bytes joined
data-written [] rest h = refl
data-written (x ∷ xs) rest h =
    let t : take (byte_length x) ((fewest x ++ joined fewest xs) ++ rest) ≡ fewest x =
    rw (append_assoc (fewest x) (joined fewest xs) rest) (take_at (fewest x) (joined fewest xs ++ rest) (byte_length x) (few-length x)) in
    let d : drop (byte_length x) ((fewest x ++ joined fewest xs) ++ rest) ≡ joined fewest xs ++ rest =
    rw (append_assoc (fewest x) (joined fewest xs) rest) (drop_at (fewest x) (joined fewest xs ++ rest) (byte_length x) (few-length x)) in
    rw (t, d, few-number x (h 0), eq-eqb (byte_length x) (byte_length x) refl, data-written xs rest (λ i. h (suc i)))

-- ---- read and written back: the numbers have the lengths of their fields, and are as many
pub data-lengths : (ls bytes xs : List ℕ) → data_in ls bytes ≡ given xs → map byte_length xs ≡ ls
unfolding data_in
data-lengths [] bytes xs e = let is : [] ≡ xs = cc in rw (← is)
data-lengths (l ∷ ls) bytes xs e =
    let (t, e₁) = need-given (eqb (byte_length (number_of (take l bytes))) l) broken _ xs e in
    let (ys, ey, e₂) = bind-given (data_in ls (drop l bytes)) _ xs e₁ in
    let is : number_of (take l bytes) ∷ ys ≡ xs = cc in
    sym (ap (map byte_length) is) ∙ ap₂ (λ (n : ℕ) (r : List ℕ). n ∷ r) (eqb-true _ l t) (data-lengths ls (drop l bytes) ys ey)

pub data-many : (ls bytes xs : List ℕ) → data_in ls bytes ≡ given xs → length xs ≡ length ls
data-many ls bytes xs e = sym (length-map xs byte_length) ∙ ap length (data-lengths ls bytes xs e)

-- what a list says that was read from data of lengths ls
pub record DataIs (ls bytes xs : List ℕ) : Type 0 where
  pub lengths : map byte_length xs ≡ ls
  pub is : take (sum ls) bytes ≡ data_bytes xs
  pub small : Below number_limit xs

-- a first number more
number_more : (l : ℕ) (ls bytes xs : List ℕ) → Below 256 bytes → l ≤ length bytes → byte_length (number_of (take l bytes)) ≡ l → DataIs ls (drop l bytes) xs
    → DataIs (l ∷ ls) bytes (number_of (take l bytes) ∷ xs)
unfolding data_bytes joined sum fewest
number_more l ls bytes xs h fits e f =
    let x = number_of (take l bytes) in
    let n : length (take l bytes) ≡ l = length-take-le l bytes fits in
    let b = below-take 256 l bytes h in
    let back : bytes_of l x ≡ take l bytes = ap (λ (k : ℕ). bytes_of k x) (sym n) ∙ bytes-number (take l bytes) b in
    let lt : x < 256 ^ l = subst (λ (k : ℕ). x < 256 ^ k) n (number_small (take l bytes) b) in
    record {
      lengths = ap₂ (λ (a : ℕ) (r : List ℕ). a ∷ r) e f.lengths;
      is = take-add l (sum ls) bytes ∙ ap₂ ◌++◌ (sym back ∙ ap (λ (k : ℕ). bytes_of k x) (sym e)) f.is;
      small = below-cons number_limit x xs (four l x (subst (λ (k : ℕ). k ≤ 4) e (held x).most) lt) f.small;
    }
  where
    four : (k x : ℕ) → k ≤ 4 → x < 256 ^ k → x < number_limit
    four zero x m g = omega arith
    four (suc zero) x m g = omega arith
    four (suc (suc zero)) x m g = omega arith
    four (suc (suc (suc zero))) x m g = omega arith
    four (suc (suc (suc (suc zero)))) x m g = g
    four (suc (suc (suc (suc (suc k))))) x m g = absurd (omega arith)

pub data-back : (ls bytes xs : List ℕ) → Below 256 bytes → sum ls ≤ length bytes → data_in ls bytes ≡ given xs → DataIs ls bytes xs
unfolding data_in sum data_bytes joined
data-back [] bytes xs h fits e =
    let is : [] ≡ xs = cc in
    subst (DataIs [] bytes) is (record { lengths = refl; is = refl; small = below-nil number_limit (omega arith) })
data-back (l ∷ ls) bytes xs h fits e =
    let (t, e₁) = need-given (eqb (byte_length (number_of (take l bytes))) l) broken _ xs e in
    let (ys, ey, e₂) = bind-given (data_in ls (drop l bytes)) _ xs e₁ in
    let is : number_of (take l bytes) ∷ ys ≡ xs = cc in
    subst (DataIs (l ∷ ls) bytes) is
    (number_more l ls bytes ys h (omega arith) (eqb-true _ l t)
    (data-back ls (drop l bytes) ys (below-drop 256 l bytes h) (omega (arith, length-drop l bytes)) ey))

-- data that is there is read the same whatever follows it
pub data-lasts : (ls bytes more : List ℕ) → sum ls ≤ length bytes → Lasts (λ (xs : List ℕ). Unit {0}) (data_in ls bytes) (data_in ls (bytes ++ more))
unfolding data_in sum
data-lasts [] bytes more h = lasts-given [] tt
data-lasts (l ∷ ls) bytes more h =
    let first : take l (bytes ++ more) ≡ take l bytes = take-append-le l bytes more (omega arith) in
    let rest : drop l (bytes ++ more) ≡ drop l bytes ++ more = drop-append-le l bytes more (omega arith) in
    rw (first, rest)
    (lasts-rule (eqb (byte_length (number_of (take l bytes))) l) _ _ (λ t.
    lasts-bind (data_in ls (drop l bytes)) (data_in ls (drop l bytes ++ more)) _ _
    (data-lasts ls (drop l bytes) more (omega (arith, length-drop l bytes))) (λ xs e u. lasts-given (number_of (take l bytes) ∷ xs) tt)))

-- ---- by the count of leading zeros: x has m binary digits
module _ (x : ℕ) (h : x < 2 ^ 32) where
  fits : (m k : ℕ) → x < 2 ^ m → m ≤ k → x < 2 ^ k
  fits m k l e = lt_of_lt_of_le l (pow_mono e)

  pub length-of-zero : count_leading_zeros 32 x ≡ 32 → 1 ≡ byte_length x
  unfolding byte_length
  length-of-zero e =
      let t = leading_length 32 x h in
      let s : x < 1 = fits t.0 0 t.2 (omega (arith, t.1)) in
      simp (lt-ltb x (2 ^ 8) (omega arith))

  by_digits : (m : ℕ) → count_leading_zeros 32 x + m ≡ 32 → x < 2 ^ m → 2 ^ m ≤ 2 * x + 1 → (count_leading_zeros 32 x ≡ 32 → ⊥)
      → 4 - count_leading_zeros 32 x / 8 ≡ byte_length x
  unfolding byte_length
  by_digits m e lo hi some =
      by_order 8 m
      (λ a. let p : 2 ^ 8 ≤ x = omega (arith, pow_mono {i = 9} {j = m} a) in
      by_order 16 m
      (λ b. let q : 2 ^ 16 ≤ x = omega (arith, pow_mono {i = 17} {j = m} b) in
      by_order 24 m
      (λ c. let r : 2 ^ 24 ≤ x = omega (arith, pow_mono {i = 25} {j = m} c) in
      simp (le-ltb x (2 ^ 8) p, le-ltb x (2 ^ 16) q, le-ltb x (2 ^ 24) r) (omega arith))
      (λ c. let r : x < 2 ^ 24 = fits m 24 lo c in simp (le-ltb x (2 ^ 8) p, le-ltb x (2 ^ 16) q, lt-ltb x (2 ^ 24) r) (omega arith)))
      (λ b. let q : x < 2 ^ 16 = fits m 16 lo b in simp (le-ltb x (2 ^ 8) p, lt-ltb x (2 ^ 16) q) (omega arith)))
      (λ a. let p : x < 2 ^ 8 = fits m 8 lo a in simp (lt-ltb x (2 ^ 8) p) (omega arith))

  pub length-of-some : (count_leading_zeros 32 x ≡ 32 → ⊥) → 4 - count_leading_zeros 32 x / 8 ≡ byte_length x
  length-of-some some = let t = leading_length 32 x h in by_digits t.0 t.1 t.2 t.3 some
