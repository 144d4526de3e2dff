-- The steps of reading by a plan, over plain lists and numbers: each takes what the callees ensure to what the function ensures. Assumes nothing.
use Rattle.meaning.specs.Says.{refusal_number}
use Rattle.meaning.specs.declared.Refusal.{Refusal}
use Rattle.meaning.specs.declared.Refusal.TheVariants.{CutShort, Broken}
use Rattle.std.specs.Prelude.{Result, Ok, Err}
use Prim.Native.Nat.{ℕ, ◌+◌, ◌-◌, ◌*◌, ◌≤◌, ◌<◌}
use mathlib.Core.Path.{◌≡◌, refl, sym, ap, ◌∙◌, subst}
use mathlib.Core.List.{List}
use native.Mathlib.Omega.{arith}
use lib.ListN.{length, take, drop}
use borrow.Author.Tests.{le-leb, lt-leb}
use Rattle.meaning.specs.Answer.{Answer, bind}
use Rattle.meaning.specs.Bytes.{word_at}
use Rattle.meaning.specs.Codes.{code_of, read_code}
use Rattle.meaning.specs.Places.{Below, part, Got}
use Rattle.meaning.specs.Plan.{Plan, bad, code, reference, differences, runs, plan_at, plan_size}
use Rattle.meaning.specs.Stages.{raised, summed, unrolled, read}
use Rattle.meaning.proofs.Lawful.{Lawful}
use Rattle.meaning.proofs.Stores.{part_same}
use Rattle.stages.proofs.Back.{back}
use Rattle.stages.proofs.Gots.{got-refused, got-given, got-not, got-stop, got-then}
use Rattle.stages.proofs.Headers.{Headed, Headless}
use Rattle.stages.proofs.Parts.{shorter, to_the_end}

got-as : (a b : Answer (List ℕ)) (from : ℕ) (w w' : List ℕ) (r : Result ℕ Refusal) → a ≡ b → Got b from w w' r → Got a from w w' r
got-as a b from w w' r e s = rw e s

-- a plan reads as many numbers as were asked for
pub whole_is : ((c : ℕ) → Lawful (code_of c)) → (p : Plan) (body : List ℕ) (n from : ℕ) (w w₁ : List ℕ) (q : Result ℕ Refusal) (k : ℕ)
    → Below 256 body → Got (read p body n) from w w₁ q → q ≡ Ok k → k ≡ n
whole_is laws p body n from w w₁ q k b s e =
    let g = got-given (read p body n) from w w₁ q s k e in
    sym g.1 ∙ (back laws p body n (part w₁ from k) b g.0).1

-- ---- stages
module _ (p : Plan) (body : List ℕ) (n from : ℕ) where
  pub step-bad : (w : List ℕ) → p ≡ bad → Got (read p body n) from w w (Err Broken)
  unfolding read
  step-bad w e = got-refused _ from w w Broken (rw e) refl

  pub step-code : (c : ℕ) (w w' : List ℕ) (r : Result ℕ Refusal) → p ≡ code c → Got (read_code (code_of c) body n) from w w' r → Got (read p body n) from w w' r
  unfolding read
  step-code c w w' r e s = got-as _ _ from w w' r (rw e) s

  pub step-as : (q : Plan) (w w' : List ℕ) (r : Result ℕ Refusal) → p ≡ q → Got (read q body n) from w w' r → Got (read p body n) from w w' r
  step-as q w w' r e s = got-as _ _ from w w' r (ap (λ (x : Plan). read x body n) e) s

  module _ (q : Plan) (e : p ≡ reference q) where
    pub step-reference-short : (w : List ℕ) → length body < 4 → Got (read p body n) from w w (Err CutShort)
    unfolding read
    step-reference-short w h = got-refused _ from w w CutShort (rw (e, lt-leb 4 (length body) h)) refl

    reference-is : 4 ≤ length body → read p body n ≡ bind (read q (take (length body - 4) (drop 4 body)) n) (raised (word_at body 0))
    unfolding read
    reference-is h = rw (e, le-leb 4 (length body) h, to_the_end body 4)

    module _ (w w₁ : List ℕ) (o : Result ℕ Refusal) (h : 4 ≤ length body) (s : Got (read q (take (length body - 4) (drop 4 body)) n) from w w₁ o) where
      pub step-reference-stop : (z : Refusal) → o ≡ Err z → Got (read p body n) from w w₁ (Err z)
      step-reference-stop z f = got-as _ _ from w w₁ (Err z) (reference-is h) (got-stop _ from w w₁ o s (raised (word_at body 0)) z f)

      pub step-reference : (k m : ℕ) (w₂ : List ℕ) (r : Result ℕ Refusal) → o ≡ Ok k → k ≡ n → m ≡ word_at body 0
          → Got (raised m (part w₁ from n)) from w₁ w₂ r → Got (read p body n) from w w₂ r
      step-reference k m w₂ r f many em t =
          got-as _ _ from w w₂ r (reference-is h)
          (got-then _ from w w₁ o s (raised (word_at body 0)) k f w₂ r (got-as _ _ from w₁ w₂ r (rw (many, ← em)) t))

  module _ (q : Plan) (e : p ≡ differences q) (w w₁ : List ℕ) (o : Result ℕ Refusal) (s : Got (read q body n) from w w₁ o) where
    differences-is : read p body n ≡ bind (read q body n) summed
    unfolding read
    differences-is = rw e

    pub step-differences-stop : (z : Refusal) → o ≡ Err z → Got (read p body n) from w w₁ (Err z)
    step-differences-stop z f = got-as _ _ from w w₁ (Err z) differences-is (got-stop _ from w w₁ o s summed z f)

    pub step-differences : (k : ℕ) (w₂ : List ℕ) (r : Result ℕ Refusal) → o ≡ Ok k → k ≡ n
        → Got (summed (part w₁ from n)) from w₁ w₂ r → Got (read p body n) from w w₂ r
    step-differences k w₂ r f many t =
        got-as _ _ from w w₂ r differences-is (got-then _ from w w₁ o s summed k f w₂ r (got-as _ _ from w₁ w₂ r (rw many) t))

-- ---- runs
module _ (p q : Plan) (body : List ℕ) (n from : ℕ) where
  pub runs_none : {z : Refusal} (w : List ℕ) → Headless n body (refusal_number z) → Got (read (runs p q) body n) from w w (Err z)
  unfolding read
  runs_none {z} w h = got-refused _ from w w z (rw h.none) refl

  module _ {k split : ℕ} (h : Headed n body k split) where
    runs-is : read (runs p q) body n
        ≡ bind (read p (take (split - 8) (drop 8 body)) k) (λ vs. bind (read q (take (length body - split) (drop split body)) k) (unrolled n vs))
    unfolding read
    runs-is =
        let d : split - 8 ≡ word_at body 4 = omega (arith, h.ends) in
        rw h.fits (sym (rw (to_the_end body split, d, h.ends, h.many)))

    module _ (w w₁ : List ℕ) (o : Result ℕ Refusal) (s : Got (read p (take (split - 8) (drop 8 body)) k) (from + n) w w₁ o) where
      kept₁ : take from w₁ ≡ take from w
      kept₁ = shorter from (from + n) w₁ w (omega arith) s.kept

      pub runs-stop : (z : Refusal) → o ≡ Err z → Got (read (runs p q) body n) from w w₁ (Err z)
      runs-stop z f =
          let after : List ℕ → Answer (List ℕ) = λ vs. bind (read q (take (length body - split) (drop split body)) k) (unrolled n vs) in
          got-refused _ from w w₁ z (runs-is ∙ ap (λ (a : Answer (List ℕ)). bind a after) (got-not _ (from + n) w w₁ o s z f)) kept₁

      module _ (k₁ : ℕ) (f : o ≡ Ok k₁) (many : k₁ ≡ k) (w₂ : List ℕ) (o₂ : Result ℕ Refusal)
          (t : Got (read q (take (length body - split) (drop split body)) k) (from + 2 * n) w₁ w₂ o₂) where
        first : read (runs p q) body n ≡ bind (read q (take (length body - split) (drop split body)) k) (unrolled n (part w₁ (from + n) k))
        first = runs-is ∙ rw ((got-given _ (from + n) w w₁ o s k₁ f).0, many)

        kept₂ : take from w₂ ≡ take from w
        kept₂ = shorter from (from + 2 * n) w₂ w₁ (omega arith) t.kept ∙ kept₁

        pub runs-stop-2 : (z : Refusal) → o₂ ≡ Err z → Got (read (runs p q) body n) from w w₂ (Err z)
        runs-stop-2 z g =
            let after = unrolled n (part w₁ (from + n) k) in
            got-refused _ from w w₂ z (first ∙ ap (λ (a : Answer (List ℕ)). bind a after) (got-not _ (from + 2 * n) w₁ w₂ o₂ t z g)) kept₂

        pub runs_then : (k₂ : ℕ) → o₂ ≡ Ok k₂ → k₂ ≡ k → (w₃ : List ℕ) (r : Result ℕ Refusal)
            → Got (unrolled n (part w₂ (from + n) k) (part w₂ (from + 2 * n) k)) from w₂ w₃ r → Got (read (runs p q) body n) from w w₃ r
        runs_then k₂ g many₂ w₃ r u =
            got-as _ _ from w w₃ r
            (first ∙ rw ((got-given _ (from + 2 * n) w₁ w₂ o₂ t k₂ g).0, many₂, part_same w₁ w₂ (from + n) k (from + 2 * n) (omega arith) (sym t.kept)))
            (record { told = u.told; here = u.here; kept = u.kept ∙ kept₂ })

-- the second inner plan, by way of where the first ends
pub got-second : (l : ℕ) (bytes : List ℕ) (x m : ℕ) (p : Plan) (body : List ℕ) (n from : ℕ) (w w' : List ℕ) (r : Result ℕ Refusal) → m ≡ x + plan_size
    (plan_at l bytes x)
    → Got (read (runs p (plan_at l bytes m)) body n) from w w' r → Got (read (runs p (plan_at l bytes (x + plan_size (plan_at l bytes x)))) body n) from w w' r
got-second l bytes x m p body n from w w' r e s = subst (λ (k : ℕ). Got (read (runs p (plan_at l bytes k)) body n) from w w' r) e s
