-- Whatever a body is refused by is 9 or 13, in reading and in a lookup, under every plan. Assumes only the laws of the codes.
use Prim.Native.Nat.{ℕ, zero, suc, ◌+◌, ◌-◌}
use mathlib.Core.Bool.{Bool}
use mathlib.Core.List.{List, [], map}
use lib.Dec.{leb, ltb, eqb}
use lib.ListN.{length, drop}
use Rattle.meaning.specs.Answer.{Answer, bind}
use Rattle.meaning.specs.Bytes.{word_at}
use Rattle.meaning.specs.Codes.{Code, Way, by_units, directly, code_of, read_code, look_by, look_code}
use Rattle.meaning.specs.Limits.{number_limit}
use Rattle.meaning.specs.Lists.{all, sum, differ}
use Rattle.meaning.specs.Plan.{Plan, bad, code, reference, differences, runs, plan_of}
use Rattle.meaning.specs.Sheet.{Column, of_kind, read_column}
use Rattle.meaning.specs.Stages.{small, least, sums_from, raised, summed, unrolled, run_header, values_body, lengths_body, read, within, numbers_to, seek}
use Rattle.meaning.specs.Stages.{look, numbers_through}
use Rattle.meaning.specs.Units.{read_from, read_units, look_from, look_units}
use Rattle.meaning.proofs.Answers.{a-cut, a-break, Faulty, bind-faulty, cond-faulty, need-faulty}
use Rattle.meaning.proofs.Lawful.{Lawful, Looked, start-faulty, unit-faulty}

-- ---- units in turn
module _ {P : Type 0} (unit : ℕ → P → Answer (P × List ℕ)) (h : (left : ℕ) (p : P) → Faulty (unit left p)) where
  read-from-faulty : (joins : List ℕ → List ℕ → Bool) (done : P → Bool) (units n : ℕ) (before : List ℕ) (p : P)
      → Faulty (read_from unit joins done units n before p)
  unfolding read_from
  read-from-faulty joins done zero zero before p = need-faulty (done p) _ _ a-break tt
  read-from-faulty joins done zero (suc n) before p = a-break
  read-from-faulty joins done (suc units) zero before p = need-faulty (done p) _ _ a-break tt
  read-from-faulty joins done (suc units) (suc n) before p =
      bind-faulty (unit (suc n) p) _ (h (suc n) p) (λ u.
      need-faulty (joins before u.1) _ _ a-break
      (bind-faulty (read_from unit joins done units (suc n - length u.1) u.1 u.0) _
      (read-from-faulty joins done units (suc n - length u.1) u.1 u.0) (λ xs. tt)))

  look-from-faulty : (units left place : ℕ) (p : P) → Faulty (look_from unit units left place p)
  unfolding look_from
  look-from-faulty zero left place p = a-break
  look-from-faulty (suc units) left place p =
      bind-faulty (unit left p) _ (h left p) (λ u.
      cond-faulty (ltb place (length u.1)) _ _ tt (look-from-faulty units (left - length u.1) (place - length u.1) u.0))

module _ (c : Code) (f : Lawful c) (body : List ℕ) (n : ℕ) where
  read-code-faulty : Faulty (read_code c body n)
  unfolding read_code read_units
  read-code-faulty =
      bind-faulty (c.start body n) _ (start-faulty c f body n) (λ p.
      read-from-faulty (c.unit body) (unit-faulty c f body) c.joins (c.done body) n n [] p)

  look-by-faulty : (place : ℕ) (w : Way) → Looked c w → Faulty (look_by c w body n place)
  unfolding look_units
  look-by-faulty place by_units l =
      bind-faulty (c.start body n) _ (start-faulty c f body n) (λ p. look-from-faulty (c.unit body) (unit-faulty c f body) n n place p)
  look-by-faulty place (directly look) l = l.faulty body place

  look-code-faulty : (place : ℕ) → Faulty (look_code c body n place)
  unfolding look_code
  look-code-faulty place = look-by-faulty place c.way f.looked

-- ---- stages
raised-faulty : (m : ℕ) (xs : List ℕ) → Faulty (raised m xs)
unfolding raised
raised-faulty m xs =
    need-faulty (small (map (λ (x : ℕ). m + x) xs)) _ _ a-break (need-faulty (eqb (least (map (λ (x : ℕ). m + x) xs)) m) _ _ a-break tt)

summed-faulty : (xs : List ℕ) → Faulty (summed xs)
unfolding summed
summed-faulty xs = need-faulty (small (sums_from 0 xs)) _ _ a-break tt

unrolled-faulty : (n : ℕ) (vs ls : List ℕ) → Faulty (unrolled n vs ls)
unfolding unrolled
unrolled-faulty n vs ls =
    need-faulty (all (leb 1) ls) _ _ a-break (need-faulty (eqb (sum ls) n) _ _ a-break (need-faulty (differ vs) _ _ a-break tt))

header-faulty : (n : ℕ) (body : List ℕ) → Faulty (run_header n body)
unfolding run_header
header-faulty n body =
    need-faulty (leb 8 (length body)) _ _ a-cut
    (need-faulty (leb (word_at body 0) n) _ _ a-break (need-faulty (leb (word_at body 4) (length body - 8)) _ _ a-cut tt))

-- ---- lookups
within-faulty : (x : ℕ) → Faulty (within x)
unfolding within
within-faulty x = need-faulty (ltb x number_limit) _ _ a-break tt

module _ (at : ℕ → Answer ℕ) (h : (i : ℕ) → Faulty (at i)) where
  numbers-faulty : (k : ℕ) → Faulty (numbers_to at k)
  unfolding numbers_to
  numbers-faulty zero = tt
  numbers-faulty (suc k) = bind-faulty (numbers_to at k) _ (numbers-faulty k) (λ xs. bind-faulty (at k) _ (h k) (λ x. tt))

  seek-faulty : (n place k j s : ℕ) → Faulty (seek at n place k j s)
  unfolding seek
  seek-faulty n place zero j s = a-break
  seek-faulty n place (suc k) j s =
      bind-faulty (at j) _ (h j) (λ l.
      need-faulty (leb 1 l) _ _ a-break
      (need-faulty (leb (s + l) n) _ _ a-break (cond-faulty (ltb place (s + l)) _ _ tt (seek-faulty n place k (j + 1) (s + l)))))

-- ---- plans
module _ (laws : (c : ℕ) → Lawful (code_of c)) where
  pub read-faulty : (p : Plan) (body : List ℕ) (n : ℕ) → Faulty (read p body n)
  unfolding read
  read-faulty bad body n = a-break
  read-faulty (code c) body n = read-code-faulty (code_of c) (laws c) body n
  read-faulty (reference p) body n =
      need-faulty (leb 4 (length body)) _ _ a-cut
      (bind-faulty (read p (drop 4 body) n) _ (read-faulty p (drop 4 body) n) (λ xs. raised-faulty (word_at body 0) xs))
  read-faulty (differences p) body n = bind-faulty (read p body n) _ (read-faulty p body n) (λ xs. summed-faulty xs)
  read-faulty (runs p q) body n =
      bind-faulty (run_header n body) _ (header-faulty n body) (λ h.
      bind-faulty (read p (values_body body) (word_at body 0)) _ (read-faulty p (values_body body) (word_at body 0)) (λ vs.
      bind-faulty (read q (lengths_body body) (word_at body 0)) _ (read-faulty q (lengths_body body) (word_at body 0)) (λ ls. unrolled-faulty n vs ls)))

  mutual
    unfolding look numbers_through

    pub look-faulty : (p : Plan) (body : List ℕ) (n place : ℕ) → Faulty (look p body n place)
    look-faulty bad body n place = a-break
    look-faulty (code c) body n place = look-code-faulty (code_of c) (laws c) body n place
    look-faulty (reference p) body n place =
        need-faulty (leb 4 (length body)) _ _ a-cut
        (bind-faulty (look p (drop 4 body) n place) _ (look-faulty p (drop 4 body) n place) (λ x. within-faulty (word_at body 0 + x)))
    look-faulty (differences p) body n place =
        bind-faulty (numbers_through p body n place) _ (through-faulty p body n place) (λ xs. within-faulty (sum xs))
    look-faulty (runs p q) body n place =
        bind-faulty (run_header n body) _ (header-faulty n body) (λ h.
        bind-faulty (seek (λ i. look q (lengths_body body) (word_at body 0) i) n place (word_at body 0) 0 0) _
        (seek-faulty _ (λ i. look-faulty q (lengths_body body) (word_at body 0) i) n place (word_at body 0) 0 0)
        (λ j. look-faulty p (values_body body) (word_at body 0) j))

    pub through-faulty : (p : Plan) (body : List ℕ) (n place : ℕ) → Faulty (numbers_through p body n place)
    through-faulty bad body n place = a-break
    through-faulty (code c) body n place =
        numbers-faulty (look_code (code_of c) body n) (λ i. look-code-faulty (code_of c) (laws c) body n i) (place + 1)
    through-faulty (reference p) body n place =
        need-faulty (leb 4 (length body)) _ _ a-cut
        (bind-faulty (numbers_through p (drop 4 body) n place) _ (through-faulty p (drop 4 body) n place) (λ xs. tt))
    through-faulty (differences p) body n place =
        numbers-faulty (λ i. bind (numbers_through p body n i) (λ xs. within (sum xs)))
        (λ i. bind-faulty (numbers_through p body n i) _ (through-faulty p body n i) (λ xs. within-faulty (sum xs))) (place + 1)
    through-faulty (runs p q) body n place =
        bind-faulty (run_header n body) _ (header-faulty n body) (λ h.
        bind-faulty (seek (λ i. look q (lengths_body body) (word_at body 0) i) n place (word_at body 0) 0 0) _
        (seek-faulty _ (λ i. look-faulty q (lengths_body body) (word_at body 0) i) n place (word_at body 0) 0 0) (λ j.
        bind-faulty (numbers_to (λ i. look q (lengths_body body) (word_at body 0) i) (j + 1)) _
        (numbers-faulty _ (λ i. look-faulty q (lengths_body body) (word_at body 0) i) (j + 1)) (λ ls.
        bind-faulty (numbers_through p (values_body body) (word_at body 0) j) _ (through-faulty p (values_body body) (word_at body 0) j) (λ vs. tt))))

  -- ---- a column
  pub column-faulty : (c : Column) → Faulty (read_column c)
  unfolding read_column
  column-faulty c =
      let p = plan_of c.plan in
      bind-faulty (read p c.body c.count) _ (read-faulty p c.body c.count) (λ xs.
      need-faulty (of_kind c.edition c.kind xs) _ _ a-break tt)
