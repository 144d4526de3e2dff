-- A plan that passed without its fill: it lies within its 15 bytes. Assumes nothing.
use Prim.Native.Nat.{ℕ, zero, suc, ◌+◌, ◌≤◌}
use mathlib.Core.Path.{◌≡◌}
use mathlib.Core.Bool.{Bool, true, false, ◌&&◌, cond}
use mathlib.Core.List.{List}
use native.Mathlib.Omega.{arith}
use lib.Dec.{leb, eqb}
use lib.ListN.{length, get_or}
use borrow.Author.Tests.{eqb-true}
use Rattle.meaning.specs.Codes.{is_code}
use Rattle.meaning.specs.Limits.{plan_bytes, most_stages}
use Rattle.meaning.specs.Plan.{Plan, bad, code, reference, differences, runs, plan_size, plan_by, plan_at, well_formed}
use Rattle.meaning.proofs.Tests.{both_true}

-- the most bytes of a plan with at most so many stages one within the other
most : ℕ → ℕ
most zero = 1
most (suc stages) = 1 + (most stages + most stages)

-- whatever stands first
size-by : (k : ℕ) (c d e f : Bool) (p q : Plan) (m : ℕ) → 1 + (plan_size p + plan_size q) ≤ m
    → plan_size (cond c (code k) (cond d (reference p) (cond e (differences p) (cond f (runs p q) bad)))) ≤ m
unfolding plan_size
size-by k true d e f p q m h = omega arith
size-by k false true e f p q m h = omega arith
size-by k false false true f p q m h = omega arith
size-by k false false false true p q m h = h
size-by k false false false false p q m h = omega arith

size-next : (stages b : ℕ) (p q : Plan) (m : ℕ) → 1 + (plan_size p + plan_size q) ≤ m → plan_size (plan_by stages b p q) ≤ m
size-next stages b = size-by b (is_code b) (leb 1 stages && eqb b 16) (leb 1 stages && eqb b 17) (leb 1 stages && eqb b 18)

size-most : (stages : ℕ) (bytes : List ℕ) (at : ℕ) → plan_size (plan_at stages bytes at) ≤ most stages
unfolding plan_at plan_size most
size-most zero bytes at = size-next 0 (get_or bytes at 0) bad bad 1 (omega arith)
size-most (suc stages) bytes at =
    let p = plan_at stages bytes (at + 1) in
    let q = plan_at stages bytes (at + 1 + plan_size p) in
    size-next (suc stages) (get_or bytes at 0) p q (most (suc stages))
    (omega (arith, size-most stages bytes (at + 1), size-most stages bytes (at + 1 + plan_size p)))

pub plan-within : (plan : List ℕ) → well_formed plan ≡ true → (plan_size (plan_at most_stages plan 0) ≤ length plan) × (length plan ≡ plan_bytes)
unfolding well_formed most
plan-within plan e =
    let (l, rest) = both_true (eqb (length plan) plan_bytes) _ e in
    let long = eqb-true (length plan) plan_bytes l in
    (omega (arith, size-most most_stages plan 0), long)
