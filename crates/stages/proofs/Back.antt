-- Law (b): what a plan reads as a list is what it writes from it, byte for byte. Assumes only the laws of the codes.
use Prim.Native.Nat.{ℕ, ◌+◌}
use mathlib.Core.Path.{◌≡◌, refl, sym, ap, ap₂, ◌∙◌, subst}
use mathlib.Core.Bool.{true}
use mathlib.Core.List.{List, ◌++◌}
use native.Mathlib.Omega.{arith}
use lib.Dec.{leb}
use lib.ListN.{length, drop, length-drop}
use lib.Seq.{length-take-le}
use borrow.Author.Tests.{leb-true}
use Rattle.meaning.specs.Answer.{given}
use Rattle.meaning.specs.Bytes.{word, word_at}
use Rattle.meaning.specs.Codes.{code_of}
use Rattle.meaning.specs.Limits.{number_limit, cut_short}
use Rattle.meaning.specs.Places.{Below}
use Rattle.meaning.specs.Plan.{Plan, bad, code, reference, differences, runs}
use Rattle.meaning.specs.Stages.{less_before, sums_from, run_values, run_lengths, write, raised, summed, unrolled, run_header, values_body, lengths_body, read}
use Rattle.meaning.proofs.Answers.{bind-given, need-given, not-given}
use Rattle.meaning.proofs.Bounds.{below-take, below-drop}
use Rattle.meaning.proofs.Lawful.{Lawful}
use Rattle.stages.proofs.Differences.{gaps-sums, Summed, summed-is}
use Rattle.stages.proofs.Headers.{header-fits}
use Rattle.stages.proofs.Reference.{less-raise, Raised, raised_is}
use Rattle.stages.proofs.RunsBack.{runs-unroll, unroll-length, unroll-below, Unrolled, unrolled-is}
use Rattle.stages.proofs.Scans.{less_by, raised_by, raise-scan, sums-scan, scan-length}
use Rattle.words.proofs.Words.{word-whole}
use Rattle.stages.proofs.Words.{words-whole}

-- ---- a reading taken apart, stage by stage
pub record ReferenceRead (p : Plan) (body : List ℕ) (n : ℕ) (xs : List ℕ) : Type 0 where
  pub ys : List ℕ
  pub fits : leb 4 (length body) ≡ true
  pub inner : read p (drop 4 body) n ≡ given ys
  pub raised : Raised (word_at body 0) ys xs

pub reference-read : (p : Plan) (body : List ℕ) (n : ℕ) (xs : List ℕ) → read (reference p) body n ≡ given xs → ReferenceRead p body n xs
unfolding read
reference-read p body n xs e =
    let (f, e₁) = need-given (leb 4 (length body)) cut_short _ xs e in
    let (ys, r, e₂) = bind-given (read p (drop 4 body) n) (raised (word_at body 0)) xs e₁ in
    record { ys = ys; fits = f; inner = r; raised = raised_is (word_at body 0) ys xs e₂ }

pub record DifferencesRead (p : Plan) (body : List ℕ) (n : ℕ) (xs : List ℕ) : Type 0 where
  pub gs : List ℕ
  pub inner : read p body n ≡ given gs
  pub summed : Summed gs xs

pub differences-read : (p : Plan) (body : List ℕ) (n : ℕ) (xs : List ℕ) → read (differences p) body n ≡ given xs → DifferencesRead p body n xs
unfolding read
differences-read p body n xs e =
    let (gs, r, e₁) = bind-given (read p body n) summed xs e in
    record { gs = gs; inner = r; summed = summed-is gs xs e₁ }

pub record RunsRead (p q : Plan) (body : List ℕ) (n : ℕ) (xs : List ℕ) : Type 0 where
  pub vs : List ℕ
  pub ls : List ℕ
  pub header : run_header n body ≡ given tt
  pub values : read p (values_body body) (word_at body 0) ≡ given vs
  pub lengths : read q (lengths_body body) (word_at body 0) ≡ given ls
  pub unrolled : unrolled n vs ls ≡ given xs

pub runs-read : (p q : Plan) (body : List ℕ) (n : ℕ) (xs : List ℕ) → read (runs p q) body n ≡ given xs → RunsRead p q body n xs
unfolding read
runs-read p q body n xs e =
    let (u, h, e₁) = bind-given (run_header n body) _ xs e in
    let (vs, rv, e₂) = bind-given (read p (values_body body) (word_at body 0)) _ xs e₁ in
    let (ls, rl, e₃) = bind-given (read q (lengths_body body) (word_at body 0)) (unrolled n vs) xs e₂ in
    record { vs = vs; ls = ls; header = h; values = rv; lengths = rl; unrolled = e₃ }

-- ---- stage by stage: what the inner plan wrote, the stage did
abbrev Wrote : Plan → List ℕ → ℕ → List ℕ → Type 0
Wrote p body n xs = (write p xs ≡ body) × (length xs ≡ n) × Below number_limit xs

back-reference : (p : Plan) (body : List ℕ) (n : ℕ) (xs : List ℕ) → Below 256 body → (s : ReferenceRead p body n xs)
    → Wrote p (drop 4 body) n s.ys → Wrote (reference p) body n xs
unfolding write
back-reference p body n xs b s i =
    let m = word_at body 0 in
    let r = s.raised in
    let inner : less_by m xs ≡ s.ys = ap (less_by m) (sym r.is) ∙ less-raise m s.ys in (
      ap (λ (k : ℕ). word k ++ write p (less_by k xs)) r.lowest
          ∙ ap (λ (l : List ℕ). word m ++ write p l) inner
          ∙ ap (λ (l : List ℕ). word m ++ l) i.0
          ∙ word-whole body b (leb-true 4 (length body) s.fits),
      ap length (sym r.is) ∙ scan-length raised_by _ _ raise-scan m s.ys ∙ i.1,
      r.below,
    )

back-differences : (p : Plan) (body : List ℕ) (n : ℕ) (xs : List ℕ) → (s : DifferencesRead p body n xs) → Wrote p body n s.gs
    → Wrote (differences p) body n xs
unfolding write
back-differences p body n xs s i =
    let r = s.summed in (
      ap (λ (l : List ℕ). write p (less_before 0 l)) (sym r.is) ∙ ap (write p) (gaps-sums 0 s.gs) ∙ i.0,
      ap length (sym r.is) ∙ scan-length sums_from _ _ sums-scan 0 s.gs ∙ i.1,
      r.below,
    )

-- the same list of values and of lengths stand in both headers and bodies
back-runs : (p q : Plan) (body : List ℕ) (n : ℕ) (xs vs ls : List ℕ) → Below 256 body → run_header n body ≡ given tt → Unrolled n vs ls xs
    → Wrote p (values_body body) (word_at body 0) vs → Wrote q (lengths_body body) (word_at body 0) ls → Wrote (runs p q) body n xs
unfolding write
back-runs p q body n xs vs ls b e u i j =
    let (ev, el) = runs-unroll vs ls u.maximal in
    let len = word_at body 4 in
    let fits = header-fits n body e in
    let long : length (write p vs) ≡ len = ap length i.0 ∙ length-take-le len (drop 8 body) (omega (arith, fits, length-drop 8 body)) in (
      ap₂ (λ (v l : List ℕ). word (length v) ++ (word (length (write p v)) ++ (write p v ++ write q l))) (ap run_values (sym u.is) ∙ ev)
          (ap run_lengths (sym u.is) ∙ el)
          ∙ ap₂ (λ (k m : ℕ). word k ++ (word m ++ (write p vs ++ write q ls))) i.1 long
          ∙ ap₂ (λ (v l : List ℕ). word (word_at body 0) ++ (word len ++ (v ++ l))) i.0 j.0
          ∙ words-whole body len b fits.0 refl,
      ap length (sym u.is) ∙ unroll-length vs ls u.maximal.paired ∙ u.total,
      subst (Below number_limit) u.is (unroll-below number_limit vs ls i.2),
    )

module _ (laws : (c : ℕ) → Lawful (code_of c)) where
  back-code : (c : ℕ) (body : List ℕ) (n : ℕ) (xs : List ℕ) → Below 256 body → read (code c) body n ≡ given xs → Wrote (code c) body n xs
  unfolding read write
  back-code c body n xs b e = let r = (laws c).back body n xs b e in (r.bytes, r.many, r.small)

  pub back : (p : Plan) (body : List ℕ) (n : ℕ) (xs : List ℕ) → Below 256 body → read p body n ≡ given xs
      → (write p xs ≡ body) × (length xs ≡ n) × Below number_limit xs
  unfolding read
  back bad body n xs b e = absurd (not-given _ _ e)
  back (code c) body n xs b e = back-code c body n xs b e
  back (reference p) body n xs b e =
      let s = reference-read p body n xs e in
      back-reference p body n xs b s (back p (drop 4 body) n s.ys (below-drop 256 4 body b) s.inner)
  back (differences p) body n xs b e =
      let s = differences-read p body n xs e in
      back-differences p body n xs s (back p body n s.gs b s.inner)
  back (runs p q) body n xs b e =
      let s = runs-read p q body n xs e in
      let i = back p (values_body body) (word_at body 0) s.vs (below-take 256 (word_at body 4) (drop 8 body) (below-drop 256 8 body b)) s.values in
      let j = back q (lengths_body body) (word_at body 0) s.ls (below-drop 256 (8 + word_at body 4) body b) s.lengths in
      back-runs p q body n xs s.vs s.ls b s.header (unrolled-is n s.vs s.ls xs (i.1 ∙ sym j.1) s.unrolled) i j
