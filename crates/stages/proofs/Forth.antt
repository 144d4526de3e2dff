-- Law (a): a plan that passes for a kind reads back every list of that kind, in either edition. Assumes only the laws of the codes.
use Prim.Native.Nat.{ℕ, ◌-◌, ◌≤◌, ◌<◌}
use mathlib.Core.Path.{◌≡◌, sym, ap, ◌∙◌}
use mathlib.Core.Bool.{true}
use mathlib.Core.List.{List, ◌++◌}
use native.Mathlib.Omega.{arith}
use lib.Dec.{eqb}
use lib.ListN.{length}
use borrow.Author.Tests.{le-leb}
use Rattle.meaning.specs.Answer.{given}
use Rattle.meaning.specs.Bytes.{word, word_at}
use Rattle.meaning.specs.Codes.{code_of}
use Rattle.meaning.specs.Limits.{number_limit, most_numbers, any, rising}
use Rattle.meaning.specs.Lists.{rises}
use Rattle.meaning.specs.Places.{Below}
use Rattle.meaning.specs.Plan.{Plan, bad, code, reference, differences, runs, plan_of, passes, worst_plan}
use Rattle.meaning.specs.Sheet.{of_kind}
use Rattle.meaning.specs.Stages.{least, less_before, run_values, run_lengths, write, unrolled, run_header, read}
use Rattle.meaning.proofs.Lawful.{Lawful}
use Rattle.meaning.proofs.Tests.{both_true}
use Rattle.stages.proofs.Differences.{gaps-below, summed-gaps}
use Rattle.stages.proofs.Lists.{Serves, kind-serves}
use Rattle.stages.proofs.Most.{less-length, gaps-length, worst-grows, plan-worst, most}
use Rattle.stages.proofs.Reference.{least-below, less-below, less-rises, raised-least}
use Rattle.stages.proofs.Runs.{runs-many, runs-few, runs-rise, run-values-below, run-lengths-below, unrolled-runs}
use Rattle.stages.proofs.Scans.{less_by}
use Rattle.words.proofs.Words.{word-long, word_first, word_after}
use Rattle.stages.proofs.Words.{Split, words-split}

-- ---- stage by stage: what the inner plan reads back, the stage does
-- a reading by a plan of the list that a plan wrote
abbrev Reads : Plan → List ℕ → Type 0
Reads p xs = read p (write p xs) (length xs) ≡ given xs

reads_as : (p : Plan) (body : List ℕ) (ys : List ℕ) (n : ℕ) → length ys ≡ n → read p body (length ys) ≡ given ys → read p body n ≡ given ys
reads_as p body ys n e r = ap (read p body) (sym e) ∙ r

forth-reference : (p : Plan) (xs : List ℕ) → Below number_limit xs → Reads p (less_by (least xs) xs) → Reads (reference p) xs
unfolding read write
forth-reference p xs h i =
    let m = least xs in
    let ys = less_by m xs in
    let r = reads_as p (write p ys) ys (length xs) (less-length m xs) i in
    rw (
      le-leb 4 (length (word m ++ write p ys)) (omega (arith, word-long m (write p ys))),
      word_after m (write p ys),
      word_first m (write p ys) (least-below number_limit xs h),
      r,
    )
    (raised-least xs h)

forth-differences : (p : Plan) (xs : List ℕ) → rises xs ≡ true → Below number_limit xs → Reads p (less_before 0 xs) → Reads (differences p) xs
unfolding read write
forth-differences p xs s h i = rw (reads_as p (write p (less_before 0 xs)) (less_before 0 xs) (length xs) (gaps-length xs) i) (summed-gaps xs s h)

read-runs : (p q : Plan) (body : List ℕ) (n k : ℕ) (first second vs ls : List ℕ) → Split k first second body → k ≤ n → read p first k ≡ given vs
    → read q second k ≡ given ls
    → read (runs p q) body n ≡ unrolled n vs ls
unfolding read run_header
read-runs p q body n k first second vs ls s h ep eq =
    rw (
      le-leb 8 (length body) (omega (arith, s.fits)),
      le-leb (word_at body 0) n (omega (arith, s.count)),
      le-leb (word_at body 4) (length body - 8) (omega (arith, s.size, s.fits)),
      s.front,
      s.back,
      s.count,
      ep,
      eq,
    )

forth-runs : (p q : Plan) (xs : List ℕ) → length xs < number_limit → length (write p (run_values xs)) < number_limit → Reads p (run_values xs)
    → Reads q (run_lengths xs) → Reads (runs p q) xs
unfolding write
forth-runs p q xs l b i j =
    let vs = run_values xs in
    let ls = run_lengths xs in
    let few = runs-few xs in
    read-runs p q _ (length xs) (length vs) (write p vs) (write q ls) vs ls
    (words-split (length vs) (write p vs) (write q ls) (omega arith) b) few i (reads_as q (write q ls) ls (length vs) (runs-many xs) j)
    ∙ unrolled-runs xs

-- of kind any, nothing is needed of a list
any-serves : (xs : List ℕ) → Serves any xs
any-serves xs t = cc

module _ (laws : (c : ℕ) → Lawful (code_of c)) where
  forth-code : (c : ℕ) (xs : List ℕ) → length xs ≤ most_numbers → Below number_limit xs → Reads (code c) xs
  unfolding read write
  forth-code c xs l h = (laws c).forth xs l h

  -- the sizes are such that a body's length is a number
  pub forth : (p : Plan) (kind : ℕ) (xs : List ℕ) → passes kind p ≡ true → Serves kind xs → Below number_limit xs → length xs ≤ most_numbers
      → worst_plan p (length xs) < number_limit → read p (write p xs) (length xs) ≡ given xs
  unfolding passes worst_plan
  forth bad kind xs s o h l w = cc
  forth (code c) kind xs s o h l w = forth-code c xs l h
  forth (reference p) kind xs s o h l w =
      let m = least xs in
      let n = less-length m xs in
      forth-reference p xs h
      (forth p kind (less_by m xs) s (λ t. less-rises m xs (o t)) (less-below number_limit m xs h) (omega arith)
      (omega (arith, ap (worst_plan p) n)))
  forth (differences p) kind xs s o h l w =
      let (k, t) = both_true (eqb kind rising) (passes any p) s in
      let n = gaps-length xs in
      forth-differences p xs (o k) h
      (forth p any (less_before 0 xs) t (any-serves (less_before 0 xs)) (gaps-below number_limit 0 xs h) (omega arith) (omega (arith, ap (worst_plan p) n)))
  forth (runs p q) kind xs s o h l w =
      let (a, b) = both_true (passes kind p) (passes any q) s in
      let few = runs-few xs in
      let many = runs-many xs in
      let hv = run-values-below number_limit xs h in
      let hl = run-lengths-below number_limit xs (omega arith) in
      let wp = worst-grows laws p (length (run_values xs)) (length xs) few in
      let wq = worst-grows laws q (length (run_lengths xs)) (length xs) (omega arith) in
      forth-runs p q xs (omega arith) (omega (arith, most laws p (run_values xs) hv (omega arith)))
      (forth p kind (run_values xs) a (λ t. runs-rise xs (o t)) hv (omega arith) (omega arith))
      (forth q any (run_lengths xs) b (any-serves (run_lengths xs)) hl (omega arith) (omega arith))

  -- a plan of 15 bytes is never stuck
  pub forth-plan : (bytes : List ℕ) (edition kind : ℕ) (xs : List ℕ) → passes kind (plan_of bytes) ≡ true → of_kind edition kind xs ≡ true
      → Below number_limit xs → length xs ≤ most_numbers
      → read (plan_of bytes) (write (plan_of bytes) xs) (length xs) ≡ given xs
  forth-plan bytes edition kind xs s o h l =
      forth (plan_of bytes) kind xs s (kind-serves edition kind xs o) h l (omega (arith, plan-worst laws bytes (length xs)))
