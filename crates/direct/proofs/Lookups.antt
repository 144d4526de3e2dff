-- A number of code 8 looked up directly: the sums lead to its stretch, the stretch to its last bit, and the bits before that to its first byte. Assumes
-- nothing.
use Prim.Native.Nat.{ℕ, zero, suc, ◌+◌, ◌-◌, ◌*◌, ◌≤◌, ◌<◌}
use mathlib.Core.Path.{◌≡◌, refl, sym, ap, ◌∙◌, subst}
use mathlib.Core.Bool.{true, false}
use mathlib.Core.List.{List, [], ◌∷◌, ◌++◌}
use native.Mathlib.Nat.{add-zero}
use native.Mathlib.Omega.{arith}
use lib.Dec.{eqb}
use lib.ListN.{length, get_or, take, drop, replicate, length-replicate, get_or-append, get_or-replicate, take-append-drop}
use lib.Seq.{take_all, drop_at, drop-drop, drop-cons, get_or-drop, get_or_at}
use borrow.Author.Tests.{lt-ltb, le-ltb, eq-eqb, ne_eqb}
use Rattle.meaning.specs.Answer.{given}
use Rattle.meaning.specs.Bytes.{word_at}
use Rattle.meaning.specs.DataBytes.{byte_length, fewest, data_bytes}
use Rattle.meaning.specs.Direct.{sum_count, data_at, last_bits, parts_fit, flags, sum_at}
use Rattle.meaning.specs.Direct.{stretch_from, stretch_of, ended_before, zeros_before, ending_at, stretch_bits, look_direct}
use Rattle.meaning.specs.Limits.{cut_short, broken}
use Rattle.meaning.specs.Lists.{sum, joined}
use Rattle.meaning.specs.Rank.{ones_before, one_at}
use Rattle.meaning.proofs.Answers.{Faulty, a-cut, a-break, bind-faulty, need-faulty}
use Rattle.meaning.proofs.Ranks.{one-at, one-within}
use Rattle.meaning.proofs.Tests.{by_order}
use Rattle.words.proofs.DataBytes.{held, data-append, data-cons}
use Rattle.direct.proofs.Lengths.{last-length, flags-length, flags-below, flags-sum, flags-from, begins, begins-next, ones-inside}
use Rattle.direct.proofs.Holding.{body_below, body-flags, number-faulty, number-there, Holds}
use Rattle.direct.proofs.Written.{SumsTrue, true-sums}

-- ---- whatever a lookup is refused by is a fault
one-faulty : (k : ℕ) (bits : List ℕ) → Faulty (one_at broken k bits)
unfolding one_at
one-faulty k [] = a-break
one-faulty k (zero ∷ bits) = bind-faulty (one_at broken k bits) _ (one-faulty k bits) (λ i. tt)
one-faulty zero (suc b ∷ bits) = tt
one-faulty (suc k) (suc b ∷ bits) = bind-faulty (one_at broken k bits) _ (one-faulty k bits) (λ i. tt)

pub look-faulty : (body : List ℕ) (place : ℕ) → Faulty (look_direct body place)
unfolding look_direct ending_at
look-faulty body place =
    let s = stretch_of body place in
    let k = place - ended_before body s in
    need-faulty (parts_fit body) cut_short _ a-cut
    (bind-faulty (one_at broken k (stretch_bits body s)) _ (one-faulty k (stretch_bits body s)) (λ i. number-faulty body _ _))

-- ---- the stretch that the sums lead to
record Found (body : List ℕ) (place s : ℕ) : Type 0 where
  pub most : s ≤ sum_count (word_at body 0)
  pub passed : ended_before body s ≤ place
  pub above : s < sum_count (word_at body 0) → place < sum_at body s

found_from : (body : List ℕ) (place left s : ℕ) → s + left ≡ sum_count (word_at body 0) → ended_before body s ≤ place
    → Found body place (stretch_from left body place s)
unfolding stretch_from ended_before
found_from body place zero s many passed = record { most = omega arith; passed = passed; above = λ less. absurd (omega arith) }
found_from body place (suc left) s many passed =
    by_order place (sum_at body s)
    (λ here. rw (lt-ltb place (sum_at body s) here) (record { most = omega arith; passed = passed; above = λ less. here }))
    (λ later. rw (le-ltb place (sum_at body s) later) (found_from body place left (suc s) (omega arith) later))

found : (body : List ℕ) (place : ℕ) → Found body place (stretch_of body place)
unfolding stretch_of ended_before
found body place = found_from body place (sum_count (word_at body 0)) 0 (omega arith) (omega arith)

-- a true sum says how many ones stand before the next stretch
ended_is : (body : List ℕ) (k : ℕ) → SumsTrue body k → (s : ℕ) → s ≤ k → ended_before body s ≡ ones_before (flags body) (512 * s)
unfolding ended_before ones_before sum
ended_is body k true-so zero h = refl
ended_is body k true-so (suc s) h = true-so s (omega arith)

-- ---- zeros before a bit: z of them, after a one or at the very beginning
zeros-before : (k : ℕ) (bits : List ℕ) (a z : ℕ) → z < k → ((j : ℕ) → j < z → get_or bits (a + j) 0 ≡ 0) → ((j : ℕ) → a ≡ suc j → get_or bits j 0 ≡ 1)
    → zeros_before k bits (a + z) ≡ z
unfolding zeros_before
zeros-before zero bits a z h zeros one = absurd (omega arith)
zeros-before (suc k) bits zero zero h zeros one = refl
zeros-before (suc k) bits (suc a) zero h zeros one =
    let set : eqb (get_or bits a 0) 0 ≡ false = ne_eqb (get_or bits a 0) 0 (λ z. let o = one a refl in omega arith) in
    rw (add-zero (suc a), set)
zeros-before (suc k) bits a (suc z) h zeros one =
    let e : a + suc z ≡ suc (a + z) = omega arith in
    let clear : eqb (get_or bits (a + z) 0) 0 ≡ true = eq-eqb (get_or bits (a + z) 0) 0 (zeros z (omega arith)) in
    rw (e, clear) (ap suc (zeros-before k bits a z (omega arith) (λ j less. zeros j (omega arith)) one))

-- ---- a number's bits, one by one
module _ (x : ℕ) (rest : List ℕ) where
  last_set : get_or (last_bits x ++ rest) (byte_length x - 1) 0 ≡ 1
  unfolding last_bits
  last_set =
      let n = byte_length x - 1 in
      get_or-append (last_bits x) rest 0 n (omega (arith, last-length x, (held x).least))
      ∙ get_or_at (replicate n 0) 1 [] 0 n (length-replicate n 0)

  last-clear : (j : ℕ) → j < byte_length x - 1 → get_or (last_bits x ++ rest) j 0 ≡ 0
  unfolding last_bits
  last-clear j h =
      let n = byte_length x - 1 in
      get_or-append (last_bits x) rest 0 j (omega (arith, last-length x))
      ∙ get_or-append (replicate n 0) (1 ∷ []) 0 j (omega (arith, length-replicate {A = ℕ} n 0)) ∙ get_or-replicate n j 0 0 h

-- ---- the bits and the data of the number at a place
module _ (xs : List ℕ) (place : ℕ) (inside : place < length xs) where
  abbrev number : ℕ
  number = get_or xs place 0

  abbrev size : ℕ
  size = byte_length (get_or xs place 0)

  -- its last data byte
  abbrev last : ℕ
  last = begins xs place + (byte_length (get_or xs place 0) - 1)

  bit-of : (j : ℕ) → get_or (joined last_bits xs) (begins xs place + j) 0 ≡ get_or (last_bits (get_or xs place 0) ++ joined last_bits (drop (suc place) xs)) j 0
  bit-of j = sym (get_or-drop (begins xs place) (joined last_bits xs) j 0) ∙ ap (λ (l : List ℕ). get_or l j 0) (flags-from xs place inside)

  bit-last : get_or (joined last_bits xs) last 0 ≡ 1
  bit-last = bit-of (size - 1) ∙ last_set number (joined last_bits (drop (suc place) xs))

  bit-clear : (j : ℕ) → j < size - 1 → get_or (joined last_bits xs) (begins xs place + j) 0 ≡ 0
  bit-clear j h = bit-of j ∙ last-clear number (joined last_bits (drop (suc place) xs)) j h

  bit_found : one_at broken place (joined last_bits xs) ≡ given last
  bit_found =
      ap (λ (k : ℕ). one_at broken k (joined last_bits xs)) (sym (ones-inside xs place inside (size - 1) (omega (arith, (held number).least))))
      ∙ one-at broken (joined last_bits xs) last (flags-below xs) bit-last

  data-from : drop (begins xs place) (data_bytes xs) ≡ fewest number ++ data_bytes (drop (suc place) xs)
  data-from =
      ap (λ (l : List ℕ). drop (begins xs place) (data_bytes l)) (sym (take-append-drop place xs))
      ∙ ap (drop (begins xs place)) (data-append (take place xs) (drop place xs))
      ∙ drop_at (data_bytes (take place xs)) (data_bytes (drop place xs)) (begins xs place) (sym (flags-length (take place xs)))
      ∙ ap data_bytes (drop-cons xs place 0 inside) ∙ data-cons number (drop (suc place) xs)

-- the bit before a number's is that of the number before, a one
bit-before : (xs : List ℕ) (place : ℕ) → place < length xs → (j : ℕ) → begins xs place ≡ suc j → get_or (joined last_bits xs) j 0 ≡ 1
unfolding joined
bit-before xs zero inside j e = absurd (omega arith)
bit-before xs (suc place) inside j e =
    let more : place + 1 ≡ suc place = omega arith in
    let next = rw more at (begins-next xs place (omega arith)) in
    let is : j ≡ last xs place (omega arith) = omega (arith, (held (get_or xs place 0)).least) in
    rw is (bit-last xs place (omega arith))

-- ---- where the body holds the list, the lookup gives its numbers
module _ (body xs : List ℕ) (h : Holds body 0 xs) (place : ℕ) (inside : place < length xs) where
  ending : ending_at body (last xs place inside) ≡ given (get_or xs place 0)
  unfolding ending_at
  ending =
      let d = word_at body 0 in
      let x = get_or xs place 0 in
      let a = begins xs place in
      let n = byte_length x - 1 in
      let z : zeros_before 4 (flags body) (a + n) ≡ n =
      rw h.bits (zeros-before 4 (joined last_bits xs) a n (omega (arith, (held x).most)) (bit-clear xs place inside) (bit-before xs place inside)) in
      let first : a + n - n ≡ a = omega arith in
      let many : suc n ≡ byte_length x = omega (arith, (held x).least) in
      let bytes : drop (data_at d + a) body ≡ fewest x ++ data_bytes (drop (suc place) xs) =
      sym (drop-drop a (data_at d) body) ∙ ap (λ (k : ℕ). drop a (drop k body)) (sym (add-zero (data_at d))) ∙ ap (drop a) h.bytes
      ∙ data-from xs place inside in
      rw (z, first, many) (number-there body a x (data_bytes (drop (suc place) xs)) bytes (h.small place))

  pub look-holds : look_direct body place ≡ given (get_or xs place 0)
  unfolding look_direct stretch_bits sum_count ones_before
  look-holds =
      let d = word_at body 0 in
      let s = stretch_of body place in
      let f = found body place in
      let true-so = true-sums (sum_count d) body h.closed.sums in
      let many = body-flags body h.closed.fit in
      let before = ended_is body (sum_count d) true-so s f.most in
      let here : one_at broken place (flags body) ≡ given (last xs place inside) = rw h.bits (bit_found xs place inside) in
      let (j, g, at) = one-within broken place (flags body) (last xs place inside) (512 * s) 512 (body_below body) here (omega (arith, f.passed))
      (reached s f.most f.above) (omega (arith, f.most)) in
      rw (h.closed.fit, before, g, ← at) ending
    where
      -- a sum above the place, or all the bits
      reached : (s : ℕ) → s ≤ sum_count (word_at body 0) → (s < sum_count (word_at body 0) → place < sum_at body s)
          → place < ones_before (flags body) (512 * s + 512)
      reached s most above =
          by_order s (sum_count (word_at body 0))
          (λ less. let e : 512 * s + 512 ≡ 512 * suc s = omega arith in
          rw e (subst (λ (k : ℕ). place < k) (true-sums (sum_count (word_at body 0)) body h.closed.sums s less) (above less)))
          (λ all. let is : ones_before (flags body) (512 * s + 512) ≡ length xs =
          ap sum (take_all (512 * s + 512) (flags body) (omega (arith, body-flags body h.closed.fit)) ∙ h.bits) ∙ flags-sum xs in
          omega arith)
