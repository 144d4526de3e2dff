-- A lookup by a plan, stage by stage, with the body's parts as the code lends them. Assumes nothing.
use Prim.Native.Nat.{ℕ, ◌+◌, ◌-◌, ◌≤◌, ◌<◌}
use mathlib.Core.Path.{◌≡◌, refl, sym, ap, ◌∙◌}
use mathlib.Core.List.{List}
use native.Mathlib.Omega.{arith}
use lib.ListN.{length, take, drop}
use borrow.Author.Tests.{le-leb, lt-leb}
use Rattle.meaning.specs.Answer.{Answer, given, refused, bind, number}
use Rattle.meaning.specs.Bytes.{word_at}
use Rattle.meaning.specs.Codes.{code_of, look_code}
use Rattle.meaning.specs.Limits.{cut_short, broken}
use Rattle.meaning.specs.Plan.{Plan, bad, code, reference, runs}
use Rattle.meaning.specs.Stages.{unroll, values_body, lengths_body, run_header, numbers_to, seek, look, numbers_through}
use Rattle.meaning.proofs.Answers.{made-number}
use Rattle.stages.specs.Header.{header_in}
use Rattle.stages.proofs.Headers.{Headed, Headless}
use Rattle.stages.proofs.Parts.{to_the_end}
use Rattle.stages.proofs.Through.{lengths-found}
use Rattle.plan_look.specs.Turns.{raised_at, runs_at, run_in}

module _ (p : Plan) (body : List ℕ) (n : ℕ) where
  pub bad-at : p ≡ bad → (i : ℕ) → look p body n i ≡ refused broken
  unfolding look
  bad-at e i = rw e

  pub code_at : (c : ℕ) → p ≡ code c → (i : ℕ) → look p body n i ≡ look_code (code_of c) body n i
  unfolding look
  code_at c e i = rw e

  module _ (q : Plan) (e : p ≡ reference q) where
    pub reference-short : length body < 4 → (i : ℕ) → look p body n i ≡ refused cut_short
    unfolding look
    reference-short h i = rw (e, lt-leb 4 (length body) h)

    pub reference-at : (m : ℕ) → 4 ≤ length body → m ≡ word_at body 0 → (i : ℕ)
        → look p body n i ≡ raised_at m (look q (take (length body - 4) (drop 4 body)) n) i
    unfolding look
    reference-at m h em i = rw (e, le-leb 4 (length body) h, to_the_end body 4, em)

-- ---- runs
module _ (p q : Plan) (body : List ℕ) (n : ℕ) where
  pub runs-refused : {z : ℕ} → Headless n body z → (i : ℕ) → look (runs p q) body n i ≡ refused z
  unfolding look
  runs-refused h i = rw h.none

  pub runs-at : {k e : ℕ} → Headed n body k e → (i : ℕ)
      → look (runs p q) body n i ≡ runs_at n k (look q (take (length body - e) (drop e body)) k) (look p (take (e - 8) (drop 8 body)) k) i
  unfolding look
  runs-at {k} {e} h i =
      let d : e - 8 ≡ word_at body 4 = omega (arith, h.ends) in
      rw h.fits (sym (rw (to_the_end body e, d, h.ends, h.many)))

-- at the run that holds the place, where the header fits and there is one
module _ (p q : Plan) (body : List ℕ) (n place : ℕ) where
  abbrev values_in : ℕ → List ℕ
  values_in e = take (e - 8) (drop 8 body)

  pub look-run : look (runs p q) body n place ≡ bind (run_in q body n place) (λ r. look p (values_in r.0.1) r.0.0 r.1)
  unfolding look run_in header_in
  look-run = go (run_header n body)
    where
      by-seek : (m : Answer ℕ) → bind m (λ j. look p (values_body body) (word_at body 0) j)
          ≡ bind (bind m (λ j. given ((word_at body 0, 8 + word_at body 4), j))) (λ (r : (ℕ × ℕ) × ℕ). look p (values_in r.0.1) r.0.0 r.1)
      by-seek (refused z) = refl
      by-seek (given j) =
          let d : word_at body 4 ≡ 8 + word_at body 4 - 8 = omega arith in
          ap (λ (x : ℕ). look p (take x (drop 8 body)) (word_at body 0) j) d

      go : (h : Answer (Unit {0})) → bind h (λ x. bind (seek (look q (lengths_body body) (word_at body 0)) n place (word_at body 0) 0 0) (λ j.
          look p (values_body body) (word_at body 0) j))
          ≡ bind (bind (bind h (λ x. given (word_at body 0, 8 + word_at body 4))) (λ (x : ℕ × ℕ).
          bind (seek (look q (drop x.1 body) x.0) n place x.0 0 0) (λ j. given (x, j)))) (λ (r : (ℕ × ℕ) × ℕ). look p (values_in r.0.1) r.0.0 r.1)
      go (refused z) = refl
      go (given x) = by-seek (seek (look q (lengths_body body) (word_at body 0)) n place (word_at body 0) 0 0)

  pub through-run : number (numbers_through (runs p q) body n place)
      ≡ number (bind (run_in q body n place) (λ r. numbers_through p (values_in r.0.1) r.0.0 r.1))
  unfolding numbers_through run_in header_in
  through-run = go (run_header n body)
    where
      at : ℕ → Answer ℕ
      at = look q (lengths_body body) (word_at body 0)

      by-seek : (m : Answer ℕ) → seek at n place (word_at body 0) 0 0 ≡ m
          → number (bind m (λ j. bind (numbers_to at (j + 1)) (λ ls. bind (numbers_through p (values_body body) (word_at body 0) j) (λ vs.
          given (take (place + 1) (unroll vs ls))))))
          ≡ number (bind (bind m (λ j. given ((word_at body 0, 8 + word_at body 4), j)))
          (λ (r : (ℕ × ℕ) × ℕ). numbers_through p (values_in r.0.1) r.0.0 r.1))
      by-seek (refused z) s = refl
      by-seek (given j) s =
          let d : word_at body 4 ≡ 8 + word_at body 4 - 8 = omega arith in
          let (ls, t) = lengths-found at n (word_at body 0) place j s in
          rw t (made-number (numbers_through p (values_body body) (word_at body 0) j) _
          ∙ ap (λ (x : ℕ). number (numbers_through p (take x (drop 8 body)) (word_at body 0) j)) d)

      go : (h : Answer (Unit {0})) → number (bind h (λ x. bind (seek at n place (word_at body 0) 0 0) (λ j.
          bind (numbers_to at (j + 1)) (λ ls. bind (numbers_through p (values_body body) (word_at body 0) j) (λ vs.
          given (take (place + 1) (unroll vs ls)))))))
          ≡ number (bind (bind (bind h (λ x. given (word_at body 0, 8 + word_at body 4))) (λ (x : ℕ × ℕ).
          bind (seek (look q (drop x.1 body) x.0) n place x.0 0 0) (λ j. given (x, j)))) (λ (r : (ℕ × ℕ) × ℕ). numbers_through p (values_in r.0.1) r.0.0 r.1))
      go (refused z) = refl
      go (given x) = by-seek (seek at n place (word_at body 0) 0 0) refl
