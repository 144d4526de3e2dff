-- Answers of the source that say the same are the same. Assumes nothing.
use Prim.Native.Nat.{ℕ}
use mathlib.Core.Path.{◌≡◌, refl, sym, ap, ◌∙◌}
use mathlib.Core.Bool.{cond}
use native.Mathlib.Omega.{arith}
use Rattle.std.specs.Prelude.{eqb, Result, Ok, Err}
use Rattle.meaning.specs.Answer.{Verdict, passed, blamed}
use Rattle.meaning.specs.Says.{refusal_number, says, says_by, bit_told, verdict_says, counted_says}
use Rattle.meaning.specs.declared.Bit.{Bit}
use Rattle.meaning.specs.declared.Fault.{Fault}
use Rattle.meaning.specs.declared.Refusal.{Refusal}
use Rattle.meaning.specs.declared.Refusal.TheVariants as refusal
use Rattle.meaning.specs.declared.Tally.{Tally}

-- a refusal by its number
named : ℕ → Refusal
named n =
    cond (eqb n 1) refusal.NoSheet
    (cond (eqb n 2) refusal.BadTable
    (cond (eqb n 3) refusal.Malformed
    (cond (eqb n 4) refusal.Unfit
    (cond (eqb n 5) refusal.NoColumn
    (cond (eqb n 6) refusal.NoPlace
    (cond (eqb n 7) refusal.NoRoom
    (cond (eqb n 8) refusal.ShortWork
    (cond (eqb n 9) refusal.CutShort
    (cond (eqb n 10) refusal.Falls
    (cond (eqb n 11) refusal.BadOrders
    (cond (eqb n 12) refusal.BadBoard refusal.Broken)))))))))))

named-number : (e : Refusal) → named (refusal_number e) ≡ e
unfolding named
named-number refusal.NoSheet = refl
named-number refusal.BadTable = refl
named-number refusal.Malformed = refl
named-number refusal.Unfit = refl
named-number refusal.NoColumn = refl
named-number refusal.NoPlace = refl
named-number refusal.NoRoom = refl
named-number refusal.ShortWork = refl
named-number refusal.CutShort = refl
named-number refusal.Falls = refl
named-number refusal.BadOrders = refl
named-number refusal.BadBoard = refl
named-number refusal.Broken = refl

-- no two refusals have one number
pub number-same : (e f : Refusal) → refusal_number e ≡ refusal_number f → e ≡ f
number-same e f h = sym (named-number e) ∙ (ap named h ∙ named-number f)

pub says-same : {A : Type 0} (r r' : Result A Refusal) → says r ≡ says r' → r ≡ r'
says-same (Ok x) (Ok y) h = let e : x ≡ y = cc in rw e
says-same (Ok x) (Err e) h = cc
says-same (Err e) (Ok x) h = cc
says-same (Err e) (Err f) h = let n : refusal_number e ≡ refusal_number f = cc in rw (number-same e f n)

bit-at : ℕ → Bit
bit-at i = record { index = i }

pub bit-same : (r r' : Result Bit Refusal) → says_by bit_told r ≡ says_by bit_told r' → r ≡ r'
unfolding bit-at
bit-same (Ok b) (Ok c) h = let e : b.index ≡ c.index = cc in let p : b ≡ c = ap bit-at e in rw p
bit-same (Ok b) (Err e) h = cc
bit-same (Err e) (Ok b) h = cc
bit-same (Err e) (Err f) h = let n : refusal_number e ≡ refusal_number f = cc in rw (number-same e f n)

fault : Refusal → ℕ → Fault
fault e k = record { refusal = e; column = k }

fault-same : (e f : Fault) → blamed (refusal_number e.refusal) e.column ≡ blamed (refusal_number f.refusal) f.column → e ≡ f
unfolding fault
fault-same e f h =
    let p : refusal_number e.refusal ≡ refusal_number f.refusal = cc in
    let q : e.column ≡ f.column = cc in
    ap (λ (z : Refusal). fault z e.column) (number-same e.refusal f.refusal p) ∙ ap (λ (k : ℕ). fault f.refusal k) q

pub verdict-same : (r r' : Result (Unit {0}) Fault) → verdict_says r ≡ verdict_says r' → r ≡ r'
verdict-same (Ok x) (Ok y) h = refl
verdict-same (Ok x) (Err f) h = cc
verdict-same (Err e) (Ok x) h = cc
verdict-same (Err e) (Err f) h = rw (fault-same e f h)

not-passed : (e k : ℕ) → blamed e k ≡ passed → ⊥
not-passed e k h = cc

pub counted-same : (r r' : Result Tally Fault) → counted_says r ≡ counted_says r' → r ≡ r'
counted-same (Ok t) (Ok u) h = let e : t ≡ u = ap (λ (x : Verdict × Tally). x.1) h in rw e
counted-same (Ok t) (Err f) h = absurd (not-passed (refusal_number f.refusal) f.column (sym (ap (λ (x : Verdict × Tally). x.0) h)))
counted-same (Err e) (Ok t) h = absurd (not-passed (refusal_number e.refusal) e.column (ap (λ (x : Verdict × Tally). x.0) h))
counted-same (Err e) (Err f) h = rw (fault-same e f (ap (λ (x : Verdict × Tally). x.0) h))

-- and none is numbered 0, which says that there is no refusal
pub some-number : (e : Refusal) → refusal_number e ≡ 0 → ⊥
some-number refusal.NoSheet h = omega arith
some-number refusal.BadTable h = omega arith
some-number refusal.Malformed h = omega arith
some-number refusal.Unfit h = omega arith
some-number refusal.NoColumn h = omega arith
some-number refusal.NoPlace h = omega arith
some-number refusal.NoRoom h = omega arith
some-number refusal.ShortWork h = omega arith
some-number refusal.CutShort h = omega arith
some-number refusal.Falls h = omega arith
some-number refusal.BadOrders h = omega arith
some-number refusal.BadBoard h = omega arith
some-number refusal.Broken h = omega arith
