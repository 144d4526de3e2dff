-- The three stages, and bodies by a plan: written, strictly read, looked up.
use Rattle.std.specs.Prelude.{ℕ, zero, suc, ◌+◌, ◌-◌, min, Bool, cond, List, [], ◌∷◌, ◌++◌, map, leb, ltb, eqb, length, take, drop, replicate}
use Rattle.meaning.specs.Answer.{Answer, given, refused, bind, need}
use Rattle.meaning.specs.Limits.{number_limit, cut_short, broken}
use Rattle.meaning.specs.Lists.{all, sum, differ}
use Rattle.meaning.specs.Bytes.{word, word_at}
use Rattle.meaning.specs.Codes.{code_of, read_code, look_code}
use Rattle.meaning.specs.Plan.{Plan, bad, code, reference, differences, runs}

-- ---- reference: the least number (0 for an empty list), then the list less it
unfoldable pub least_of : ℕ → List ℕ → ℕ
least_of m [] = m
least_of m (x ∷ xs) = least_of (min m x) xs

unfoldable pub least : List ℕ → ℕ
least [] = 0
least (x ∷ xs) = least_of x xs

-- ---- differences: the first number, then each less the one before
unfoldable pub less_before : ℕ → List ℕ → List ℕ
less_before before [] = []
less_before before (x ∷ xs) = (x - before) ∷ less_before x xs

unfoldable pub sums_from : ℕ → List ℕ → List ℕ
sums_from before [] = []
sums_from before (x ∷ xs) = (before + x) ∷ sums_from (before + x) xs

-- ---- runs: maximal, so that neighbours differ; their values, and their lengths
-- of a list that goes on with xs after a run of v
unfoldable pub values_after : ℕ → List ℕ → List ℕ
values_after v [] = v ∷ []
values_after v (x ∷ xs) = cond (eqb x v) [] (v ∷ []) ++ values_after x xs

-- of a list that goes on with xs after k numbers v
unfoldable pub lengths_after : ℕ → ℕ → List ℕ → List ℕ
lengths_after v k [] = k ∷ []
lengths_after v k (x ∷ xs) = cond (eqb x v) [] (k ∷ []) ++ lengths_after x (cond (eqb x v) (k + 1) 1) xs

unfoldable pub run_values : List ℕ → List ℕ
run_values [] = []
run_values (x ∷ xs) = values_after x xs

unfoldable pub run_lengths : List ℕ → List ℕ
run_lengths [] = []
run_lengths (x ∷ xs) = lengths_after x 1 xs

unfoldable pub unroll : List ℕ → List ℕ → List ℕ
unroll [] ls = []
unroll (v ∷ vs) [] = []
unroll (v ∷ vs) (l ∷ ls) = replicate l v ++ unroll vs ls

-- ---- writing a list by a plan
unfoldable pub write : Plan → List ℕ → List ℕ
write bad xs = []
write (code c) xs = (code_of c).write xs
write (reference p) xs = word (least xs) ++ write p (map (λ x. x - least xs) xs)
write (differences p) xs = write p (less_before 0 xs)
write (runs p q) xs =
    word (length (run_values xs)) ++ (word (length (write p (run_values xs))) ++ (write p (run_values xs) ++ write q (run_lengths xs)))

-- ---- the strict reading of n numbers
-- a sum above 2^32 - 1 breaks a rule
unfoldable pub small : List ℕ → Bool
small xs = all (λ x. ltb x number_limit) xs

-- the reference m is the least number
unfoldable pub raised : ℕ → List ℕ → Answer (List ℕ)
raised m xs =
    need (small (map (λ x. m + x) xs)) broken
    (need (eqb (least (map (λ x. m + x) xs)) m) broken (given (map (λ x. m + x) xs)))

unfoldable pub summed : List ℕ → Answer (List ℕ)
summed xs = need (small (sums_from 0 xs)) broken (given (sums_from 0 xs))

-- lengths at least 1, neighbours differ, lengths sum to the count
unfoldable pub unrolled : ℕ → List ℕ → List ℕ → Answer (List ℕ)
unrolled n vs ls =
    need (all (leb 1) ls) broken (need (eqb (sum ls) n) broken (need (differ vs) broken (given (unroll vs ls))))

-- a run stage's header: run count (4 bytes), length of the values body (4 bytes). It fits, then its count is at most n, then the values body fits
unfoldable pub run_header : ℕ → List ℕ → Answer (Unit {0})
run_header n body =
    need (leb 8 (length body)) cut_short
    (need (leb (word_at body 0) n) broken
    (need (leb (word_at body 4) (length body - 8)) cut_short (given tt)))

abbrev pub values_body : List ℕ → List ℕ
values_body body = take (word_at body 4) (drop 8 body)

abbrev pub lengths_body : List ℕ → List ℕ
lengths_body body = drop (8 + word_at body 4) body

unfoldable pub read : Plan → List ℕ → ℕ → Answer (List ℕ)
read bad body n = refused broken
read (code c) body n = read_code (code_of c) body n
read (reference p) body n = need (leb 4 (length body)) cut_short (bind (read p (drop 4 body) n) (raised (word_at body 0)))
read (differences p) body n = bind (read p body n) summed
read (runs p q) body n =
    bind (run_header n body) (λ h.
    bind (read p (values_body body) (word_at body 0)) (λ vs.
    bind (read q (lengths_body body) (word_at body 0)) (unrolled n vs)))

-- ---- the number at a place of n
unfoldable pub within : ℕ → Answer ℕ
within x = need (ltb x number_limit) broken (given x)

-- the numbers at the first k places, each in turn
unfoldable pub numbers_to : (ℕ → Answer ℕ) → ℕ → Answer (List ℕ)
numbers_to at zero = given []
numbers_to at (suc k) = bind (numbers_to at k) (λ xs. bind (at k) (λ x. given (xs ++ (x ∷ []))))

-- the run that holds a place of n: `left` runs may still come, the next is run j, and `before` numbers stand before it. A run ends where its length
-- takes it; no length is zero, and no run ends above n
unfoldable pub seek : (ℕ → Answer ℕ) → ℕ → ℕ → ℕ → ℕ → ℕ → Answer ℕ
seek length_at n place zero j before = refused broken
seek length_at n place (suc left) j before =
    bind (length_at j) (λ long.
    need (leb 1 long) broken
    (need (leb (before + long) n) broken
    (cond (ltb place (before + long)) (given j) (seek length_at n place left (j + 1) (before + long)))))

unfoldable mutual
  pub look : Plan → List ℕ → ℕ → ℕ → Answer ℕ
  look bad body n place = refused broken
  look (code c) body n place = look_code (code_of c) body n place
  look (reference p) body n place = need (leb 4 (length body)) cut_short (bind (look p (drop 4 body) n place) (λ x. within (word_at body 0 + x)))
  look (differences p) body n place = bind (numbers_through p body n place) (λ xs. within (sum xs))
  look (runs p q) body n place =
      bind (run_header n body) (λ h.
      bind (seek (λ i. look q (lengths_body body) (word_at body 0) i) n place (word_at body 0) 0 0) (λ j.
      look p (values_body body) (word_at body 0) j))

  -- the numbers at the places through this one, taken once: units, headers and lengths in their order, and no sum is tested before all are taken (one
  -- that is too large makes the sum of all too large). No plan passes with differences below differences: there each place is by itself
  pub numbers_through : Plan → List ℕ → ℕ → ℕ → Answer (List ℕ)
  numbers_through bad body n place = refused broken
  numbers_through (code c) body n place = numbers_to (look_code (code_of c) body n) (place + 1)
  numbers_through (reference p) body n place =
      need (leb 4 (length body)) cut_short
      (bind (numbers_through p (drop 4 body) n place) (λ xs. given (map (λ x. word_at body 0 + x) xs)))
  numbers_through (differences p) body n place = numbers_to (λ i. bind (numbers_through p body n i) (λ xs. within (sum xs))) (place + 1)
  -- the lengths through the run that holds the place, then the values through it
  numbers_through (runs p q) body n place =
      bind (run_header n body) (λ h.
      bind (seek (λ i. look q (lengths_body body) (word_at body 0) i) n place (word_at body 0) 0 0) (λ j.
      bind (numbers_to (λ i. look q (lengths_body body) (word_at body 0) i) (j + 1)) (λ ls.
      bind (numbers_through p (values_body body) (word_at body 0) j) (λ vs.
      given (take (place + 1) (unroll vs ls))))))
