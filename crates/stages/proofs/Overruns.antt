-- A reading that is not cut short is broken by bytes added: so a body cut anywhere is cut short. Assumes only the laws of the codes.
use Prim.Native.Nat.{ℕ, suc, ◌+◌, ◌-◌, ◌≤◌, ◌<◌}
use mathlib.Core.Path.{◌≡◌, refl, sym, ap, ◌∙◌}
use mathlib.Core.List.{List, ◌∷◌, ◌++◌}
use mathlib.Core.Logic.{inl, inr}
use native.Mathlib.Omega.{arith}
use lib.Dec.{leb}
use lib.ListN.{length, get_or, take, drop, length-append, length-drop}
use lib.Seq.{take-append-le, drop-append-le, split_at}
use borrow.Author.Tests.{le-leb, lt-leb, leb-true}
use Rattle.meaning.specs.Answer.{Answer, given, refused, bind, need}
use Rattle.meaning.specs.Bytes.{word_at}
use Rattle.meaning.specs.Codes.{code_of}
use Rattle.meaning.specs.Limits.{cut_short, broken}
use Rattle.meaning.specs.Plan.{Plan, bad, code, reference, differences, runs, plan_of}
use Rattle.meaning.specs.Sheet.{Column, of_kind, read_column}
use Rattle.meaning.specs.Stages.{raised, summed, unrolled, run_header, values_body, lengths_body, read}
use Rattle.meaning.proofs.Answers.{not-given, Faulty}
use Rattle.meaning.proofs.Lasting.{Lasts, lasts-given, lasts-there, lasts-long, lasts-rule, Overrun}
use Rattle.meaning.proofs.Lasting.Lasts.{cut, wrong, same}
use Rattle.meaning.proofs.Lawful.{Lawful, code-overrun}
use Rattle.meaning.proofs.Tests.{by_order}
use Rattle.words.proofs.Words.{word-stays}
use Rattle.stages.specs.Bodies.{with_body}
use Rattle.stages.proofs.Faults.{read-faulty}

-- ---- by the parts of a definition
module _ {A B : Type 0} where
  -- bytes added to the first of two steps
  first-overrun : (m n : Answer A) (k : A → Answer B) → Overrun m n → Overrun (bind m k) (bind n k)
  first-overrun m n k (inl e) = inl (rw e)
  first-overrun m n k (inr e) = inr (rw e)

  -- bytes added to the second
  rest-overrun : (m : Answer A) (j k : A → Answer B) → Faulty m → ((a : A) → Overrun (j a) (k a)) → Overrun (bind m j) (bind m k)
  rest-overrun (given a) j k f h = h a
  rest-overrun (refused e) j k (inl s) h = inl (ap (λ (z : ℕ). refused z) s)
  rest-overrun (refused e) j k (inr s) h = inr (ap (λ (z : ℕ). refused z) s)

  -- and to both, where the first stays
  lasts-overrun : {Such : A → Type 0} (m n : Answer A) (j k : A → Answer B) → Lasts Such m n → ((a : A) → Such a → Overrun (j a) (k a))
      → Overrun (bind m j) (bind n k)
  lasts-overrun m n j k (cut e) h = inl (rw e)
  lasts-overrun m n j k (wrong e f) h = inr (rw f)
  lasts-overrun m n j k (same a e f s) h = rw (e, f) (h a s)

-- ---- stage by stage
reference-overrun : (p : Plan) (body : List ℕ) (b : ℕ) (more : List ℕ) (n : ℕ) → Overrun (read p (drop 4 body) n) (read p (drop 4 body ++ (b ∷ more)) n)
    → Overrun (read (reference p) body n) (read (reference p) (body ++ (b ∷ more)) n)
unfolding read
reference-overrun p body b more n i =
    by_order (length body) 4
    (λ h. inl (rw (lt-leb 4 (length body) h)))
    (λ h. rw (
      le-leb 4 (length body) h,
      le-leb 4 (length (body ++ (b ∷ more))) (omega (arith, length-append body (b ∷ more))),
      drop-append-le 4 body (b ∷ more) h,
      word-stays body (b ∷ more) 0 h,
    )
    (first-overrun (read p (drop 4 body) n) (read p (drop 4 body ++ (b ∷ more)) n) (raised (word_at body 0)) i))

-- a header and the values body that it tells of stay
header-lasts : (n : ℕ) (body more : List ℕ)
    → Lasts (λ (u : Unit {0}). 8 + word_at body 4 ≤ length body) (run_header n body) (run_header n (body ++ more))
unfolding run_header
header-lasts n body more =
    lasts-long 8 body more _ _
    (λ long. rw (word-stays body more 0 (omega arith), word-stays body more 4 long)
    (lasts-rule (leb (word_at body 0) n) _ _ (λ r.
    lasts-there (leb (word_at body 4) (length body - 8)) (leb (word_at body 4) (length (body ++ more) - 8)) _ _
    (λ s. le-leb (word_at body 4) (length (body ++ more) - 8) (omega (arith, leb-true (word_at body 4) (length body - 8) s, length-append body more)))
    (λ s. lasts-given tt (omega (arith, leb-true (word_at body 4) (length body - 8) s))))))

values-stay : (body more : List ℕ) → 8 + word_at body 4 ≤ length body → values_body (body ++ more) ≡ values_body body
values-stay body more h =
    rw (word-stays body more 4 (omega arith), drop-append-le 8 body more (omega arith))
    (take-append-le (word_at body 4) (drop 8 body) more (omega (arith, length-drop 8 body)))

lengths-append : (body more : List ℕ) → 8 + word_at body 4 ≤ length body → lengths_body (body ++ more) ≡ lengths_body body ++ more
lengths-append body more h = rw (word-stays body more 4 (omega arith)) (drop-append-le (8 + word_at body 4) body more h)

runs-overrun : (p q : Plan) (body : List ℕ) (b : ℕ) (more : List ℕ) (n : ℕ) → Faulty (read p (values_body body) (word_at body 0))
    → Overrun (read q (lengths_body body) (word_at body 0)) (read q (lengths_body body ++ (b ∷ more)) (word_at body 0))
    → Overrun (read (runs p q) body n) (read (runs p q) (body ++ (b ∷ more)) n)
unfolding read
runs-overrun p q body b more n f i =
    lasts-overrun (run_header n body) (run_header n (body ++ (b ∷ more))) _ _ (header-lasts n body (b ∷ more)) (λ u h.
    rw (word-stays body (b ∷ more) 0 (omega arith), values-stay body (b ∷ more) h, lengths-append body (b ∷ more) h)
    (rest-overrun (read p (values_body body) (word_at body 0)) _ _ f (λ vs.
    first-overrun (read q (lengths_body body) (word_at body 0)) (read q (lengths_body body ++ (b ∷ more)) (word_at body 0)) (unrolled n vs) i)))

module _ (laws : (c : ℕ) → Lawful (code_of c)) where
  pub plan-overrun : (p : Plan) (body : List ℕ) (b : ℕ) (more : List ℕ) (n : ℕ) → Overrun (read p body n) (read p (body ++ (b ∷ more)) n)
  unfolding read
  plan-overrun bad body b more n = inr refl
  plan-overrun (code c) body b more n = code-overrun (code_of c) (laws c) body b more n
  plan-overrun (reference p) body b more n = reference-overrun p body b more n (plan-overrun p (drop 4 body) b more n)
  plan-overrun (differences p) body b more n =
      first-overrun (read p body n) (read p (body ++ (b ∷ more)) n) summed (plan-overrun p body b more n)
  plan-overrun (runs p q) body b more n =
      runs-overrun p q body b more n (read-faulty laws p (values_body body) (word_at body 0)) (plan-overrun q (lengths_body body) b more (word_at body 0))

  -- ---- a column
  pub column-overrun : (c : Column) (b : ℕ) (more : List ℕ) → Overrun (read_column c) (read_column (with_body c (c.body ++ (b ∷ more))))
  unfolding read_column
  column-overrun c b more =
      let p = plan_of c.plan in
      first-overrun (read p c.body c.count) (read p (c.body ++ (b ∷ more)) c.count)
      (λ xs. need (of_kind c.edition c.kind xs) broken (given xs)) (plan-overrun p c.body b more c.count)

  -- what is not cut short is broken by bytes behind it
  over-broken : (c : Column) (b : ℕ) (more : List ℕ) → (read_column c ≡ refused cut_short → ⊥)
      → read_column (with_body c (c.body ++ (b ∷ more))) ≡ refused broken
  over-broken c b more h = go (column-overrun c b more)
    where
      go : Overrun (read_column c) (read_column (with_body c (c.body ++ (b ∷ more)))) → read_column (with_body c (c.body ++ (b ∷ more))) ≡ refused broken
      go (inl e) = absurd (h e)
      go (inr e) = e

  pub broken-behind : (c : Column) (xs : List ℕ) (b : ℕ) (more : List ℕ) → read_column c ≡ given xs
      → read_column (with_body c (c.body ++ (b ∷ more))) ≡ refused broken
  broken-behind c xs b more e = over-broken c b more (λ s. not-given cut_short xs (sym s ∙ e))

  pub stays-broken : (c : Column) (b : ℕ) (more : List ℕ) → read_column c ≡ refused broken → read_column (with_body c (c.body ++ (b ∷ more))) ≡ refused broken
  stays-broken c b more e = over-broken c b more (λ s. apart (sym s ∙ e))
    where
      apart : ◌≡◌ {A = Answer (List ℕ)} (refused cut_short) (refused broken) → ⊥
      apart q = cc

  -- a body that reads, cut before its end
  pub cut-before : (c : Column) (xs : List ℕ) (k : ℕ) → read_column c ≡ given xs → k < length c.body
      → read_column (with_body c (take k c.body)) ≡ refused cut_short
  unfolding read_column
  cut-before c xs k e h = go (column-overrun (with_body c (take k c.body)) (get_or c.body k 0) (drop (suc k) c.body))
    where
      whole : read_column (with_body c (take k c.body ++ (get_or c.body k 0 ∷ drop (suc k) c.body))) ≡ given xs
      whole = ap (λ (l : List ℕ). read_column (with_body c l)) (sym (split_at c.body k 0 h)) ∙ e

      go : Overrun (read_column (with_body c (take k c.body)))
          (read_column (with_body c (take k c.body ++ (get_or c.body k 0 ∷ drop (suc k) c.body))))
          → read_column (with_body c (take k c.body)) ≡ refused cut_short
      go (inl s) = s
      go (inr s) = absurd (not-given broken xs (sym s ∙ whole))
