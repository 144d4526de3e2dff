-- Law (d): what a plan writes is no longer than its worst size, and it is bytes. Assumes only the laws of the codes.
use Prim.Native.Nat.{ℕ, zero, suc, ◌+◌, ◌*◌, ◌≤◌, ◌<◌}
use mathlib.Core.Path.{◌≡◌, ap}
use mathlib.Core.Bool.{Bool, true, false, cond, ◌&&◌}
use mathlib.Core.List.{List, ◌++◌}
use native.Mathlib.Omega.{arith}
use lib.Dec.{leb, eqb}
use lib.ListN.{length, get_or, length-append}
use Rattle.meaning.specs.Codes.{is_code, code_of}
use Rattle.meaning.specs.Bytes.{word}
use Rattle.meaning.specs.Limits.{number_limit, most_stages}
use Rattle.meaning.specs.Places.{Below}
use Rattle.meaning.specs.Plan.{Plan, bad, code, reference, differences, runs, plan_size, plan_at, plan_of, worst_plan}
use Rattle.meaning.specs.Stages.{least, less_before, run_values, run_lengths, write}
use Rattle.meaning.proofs.Bounds.{below-nil, below-append}
use Rattle.meaning.proofs.Lawful.{Lawful}
use Rattle.stages.specs.Room.{cap}
use Rattle.stages.proofs.Differences.{gaps-below}
use Rattle.stages.proofs.Reference.{less-below}
use Rattle.stages.proofs.Runs.{runs-many, runs-few, run-values-below, run-lengths-below}
use Rattle.stages.proofs.Scans.{less_by, less-scan, gaps-scan, scan-length}
use Rattle.words.proofs.Words.{word_small, word-long}

-- ---- sizes of lists that the stages make
pub less-length : (m : ℕ) (xs : List ℕ) → length (less_by m xs) ≡ length xs
less-length m xs = scan-length less_by _ _ less-scan m xs

pub gaps-length : (xs : List ℕ) → length (less_before 0 xs) ≡ length xs
gaps-length xs = scan-length less_before _ _ gaps-scan 0 xs

pub cap-least : (stages n : ℕ) → 9 * n + 4 ≤ cap stages n
unfolding cap
cap-least zero n = omega arith
cap-least (suc stages) n = omega (arith, cap-least stages n)

module _ (laws : (c : ℕ) → Lawful (code_of c)) where
  -- ---- worst sizes grow with the count
  pub worst-grows : (p : Plan) (k n : ℕ) → k ≤ n → worst_plan p k ≤ worst_plan p n
  unfolding worst_plan
  worst-grows bad k n h = omega arith
  worst-grows (code c) k n h = (laws c).grows k n h
  worst-grows (reference p) k n h = omega (arith, worst-grows p k n h)
  worst-grows (differences p) k n h = worst-grows p k n h
  worst-grows (runs p q) k n h = omega (arith, worst-grows p k n h, worst-grows q k n h)

  worst-by : (n m k : ℕ) (p q : Plan) → worst_plan p n ≤ m → worst_plan q n ≤ m → 9 * n + 4 ≤ m → (a b c d : Bool)
      → worst_plan (cond a (code k) (cond b (reference p) (cond c (differences p) (cond d (runs p q) bad)))) n ≤ 8 + (m + m)
  unfolding worst_plan
  worst-by n m k p q h i l true b c d = omega (arith, (laws k).nine n)
  worst-by n m k p q h i l false true c d = omega arith
  worst-by n m k p q h i l false false true d = omega arith
  worst-by n m k p q h i l false false false true = omega arith
  worst-by n m k p q h i l false false false false = omega arith

  worst-code : (n k : ℕ) (a : Bool) → worst_plan (cond a (code k) bad) n ≤ 9 * n + 4
  unfolding worst_plan
  worst-code n k true = (laws k).nine n
  worst-code n k false = omega arith

  pub worst-cap : (stages : ℕ) (bytes : List ℕ) (at n : ℕ) → worst_plan (plan_at stages bytes at) n ≤ cap stages n
  unfolding plan_at cap
  worst-cap zero bytes at n = worst-code n (get_or bytes at 0) (is_code (get_or bytes at 0))
  worst-cap (suc stages) bytes at n =
      let b = get_or bytes at 0 in
      let p = plan_at stages bytes (at + 1) in
      worst-by n (cap stages n) b p (plan_at stages bytes (at + 1 + plan_size p)) (worst-cap stages bytes (at + 1) n)
      (worst-cap stages bytes (at + 1 + plan_size p) n) (cap-least stages n)
      (is_code b) (leb 1 (suc stages) && eqb b 16) (leb 1 (suc stages) && eqb b 17) (leb 1 (suc stages) && eqb b 18)

  -- 15 plan bytes: a length of a body is then a number
  pub plan-worst : (bytes : List ℕ) (n : ℕ) → worst_plan (plan_of bytes) n ≤ 72 * n + 88
  unfolding plan_of cap
  plan-worst bytes n = omega (arith, worst-cap most_stages bytes 0 n)

  -- ---- what is written
  pub most : (p : Plan) (xs : List ℕ) → Below number_limit xs → length xs < number_limit → length (write p xs) ≤ worst_plan p (length xs)
  unfolding write worst_plan
  most bad xs h l = omega arith
  most (code c) xs h l = (laws c).most xs h
  most (reference p) xs h l =
      let ys = less_by (least xs) xs in
      let n = less-length (least xs) xs in
      let i = most p ys (less-below number_limit (least xs) xs h) (omega arith) in
      omega (arith, word-long (least xs) (write p ys), ap (worst_plan p) n)
  most (differences p) xs h l =
      let n = gaps-length xs in
      let i = most p (less_before 0 xs) (gaps-below number_limit 0 xs h) (omega arith) in
      omega (arith, ap (worst_plan p) n)
  most (runs p q) xs h l =
      let vs = run_values xs in
      let ls = run_lengths xs in
      let few = runs-few xs in
      let many = runs-many xs in
      let i = most p vs (run-values-below number_limit xs h) (omega arith) in
      let j = most q ls (run-lengths-below number_limit xs l) (omega arith) in
      let body = write p vs ++ write q ls in
      omega (
        arith,
        word-long (length vs) (word (length (write p vs)) ++ body),
        word-long (length (write p vs)) body,
        length-append (write p vs) (write q ls),
        worst-grows p (length vs) (length xs) few,
        worst-grows q (length ls) (length xs) (omega arith),
      )

  pub bytes : (p : Plan) (xs : List ℕ) → Below number_limit xs → length xs < number_limit → Below 256 (write p xs)
  unfolding write
  bytes bad xs h l = below-nil 256 (omega arith)
  bytes (code c) xs h l = (laws c).bytes xs h
  bytes (reference p) xs h l =
      let ys = less_by (least xs) xs in
      below-append 256 (word (least xs)) (write p ys) (word_small (least xs))
      (bytes p ys (less-below number_limit (least xs) xs h) (omega (arith, less-length (least xs) xs)))
  bytes (differences p) xs h l = bytes p (less_before 0 xs) (gaps-below number_limit 0 xs h) (omega (arith, gaps-length xs))
  bytes (runs p q) xs h l =
      let vs = run_values xs in
      let ls = run_lengths xs in
      let few = runs-few xs in
      let many = runs-many xs in
      below-append 256 (word (length vs)) _ (word_small (length vs))
      (below-append 256 (word (length (write p vs))) _ (word_small (length (write p vs)))
      (below-append 256 (write p vs) (write q ls) (bytes p vs (run-values-below number_limit xs h) (omega arith))
      (bytes q ls (run-lengths-below number_limit xs l) (omega arith))))
