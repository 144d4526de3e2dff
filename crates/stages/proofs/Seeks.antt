-- The run that holds a place, sought run by run. Assumes nothing.
use Prim.Native.Nat.{ℕ, zero, suc, ◌+◌, ◌-◌, ◌≤◌, ◌<◌}
use mathlib.Core.Path.{◌≡◌, sym, ap, ◌∙◌}
use mathlib.Core.Bool.{Bool, true, false, cond, ◌&&◌}
use mathlib.Core.List.{List, [], ◌∷◌, ◌++◌}
use native.Mathlib.Nat.{add-zero, sub-zero}
use native.Mathlib.Omega.{arith}
use lib.Dec.{leb, ltb}
use lib.ListN.{length, get_or, replicate, length-replicate, get_or-append, get_or-replicate}
use lib.Seq.{get_or-append-add}
use borrow.Author.Tests.{le-leb, lt-ltb, le-ltb, leb-true}
use Rattle.meaning.specs.Answer.{Answer, given, refused, bind, need}
use Rattle.meaning.specs.Limits.{broken}
use Rattle.meaning.specs.Lists.{all, sum}
use Rattle.meaning.specs.Stages.{unroll, seek}
use Rattle.meaning.proofs.Answers.{not-given}
use Rattle.meaning.proofs.Tests.{by_order, both_true}
use Rattle.stages.specs.Runs.{run_fits}
use Rattle.stages.proofs.Unrolls.{fits-so, so-fits}

-- ---- run j, of k that are left, before which s numbers stand
module _ (at : ℕ → Answer ℕ) (n place k j s : ℕ) where
  pub seek-none : k ≡ 0 → seek at n place k j s ≡ refused broken
  unfolding seek
  seek-none e = rw e

  module _ (some : 1 ≤ k) where
    one_left : k ≡ suc (k - 1)
    one_left = omega arith

    pub seek-stops : (z : ℕ) → at j ≡ refused z → seek at n place k j s ≡ refused z
    unfolding seek
    seek-stops z h = ap (λ (i : ℕ). seek at n place i j s) one_left ∙ rw h

    module _ (l : ℕ) (here : at j ≡ given l) where
      pub seek-breaks : run_fits n s l ≡ false → seek at n place k j s ≡ refused broken
      unfolding seek run_fits
      seek-breaks f = ap (λ (i : ℕ). seek at n place i j s) one_left ∙ rw here (go (leb 1 l) (leb (s + l) n) f)
        where
          go : (a b : Bool) → a && b ≡ false
              → need a broken (need b broken (cond (ltb place (s + l)) (given j) (seek at n place (k - 1) (j + 1) (s + l)))) ≡ refused broken
          go true true f = cc
          go true false f = cc
          go false b f = cc

      module _ (fit : run_fits n s l ≡ true) where
        pub seek-here : place < s + l → seek at n place k j s ≡ given j
        unfolding seek
        seek-here h =
            let (a, b) = fits-so n s l fit in
            ap (λ (i : ℕ). seek at n place i j s) one_left ∙ rw (here, le-leb 1 l a, le-leb (s + l) n b, lt-ltb place (s + l) h)

        pub seek-later : s + l ≤ place → seek at n place k j s ≡ seek at n place (k - 1) (j + 1) (s + l)
        unfolding seek
        seek-later h =
            let (a, b) = fits-so n s l fit in
            ap (λ (i : ℕ). seek at n place i j s) one_left ∙ rw (here, le-leb 1 l a, le-leb (s + l) n b, le-ltb place (s + l) h)

-- ---- runs of known lengths
next-at : (at : ℕ → Answer ℕ) (j t x : ℕ) → at (j + suc t) ≡ given x → at (j + 1 + t) ≡ given x
next-at at j t x e = let d : j + 1 + t ≡ j + suc t = omega arith in ap at d ∙ e

-- they are passed where they end before the place
pub seek-past : (at : ℕ → Answer ℕ) (n place : ℕ) (ls : List ℕ) (k j s : ℕ) → length ls ≤ k → all (leb 1) ls ≡ true → s + sum ls ≤ n → s + sum ls ≤ place
    → ((t : ℕ) → t < length ls → at (j + t) ≡ given (get_or ls t 0)) → seek at n place k j s ≡ seek at n place (k - length ls) (j + length ls) (s + sum ls)
unfolding all sum
seek-past at n place [] k j s h a f o g = rw (sub-zero, add-zero, add-zero)
seek-past at n place (l ∷ ls) k j s h a f o g =
    let (b, c) = both_true (leb 1 l) (all (leb 1) ls) a in
    let here : at j ≡ given l = ap at (sym (add-zero j)) ∙ g 0 (omega arith) in
    let left : k - 1 - length ls ≡ k - suc (length ls) = omega arith in
    let next : j + 1 + length ls ≡ j + suc (length ls) = omega arith in
    let done : s + l + sum ls ≡ s + (l + sum ls) = omega arith in
    seek-later at n place k j s (omega arith) l here (so-fits n s l (leb-true 1 l b) (omega arith)) (omega arith)
    ∙ seek-past at n place ls (k - 1) (j + 1) (s + l) (omega arith) c (omega arith) (omega arith)
    (λ t m. next-at at j t (get_or ls t 0) (g (suc t) (omega arith)))
    ∙ rw (left, next, done)

-- one of them holds the place where they end after it, and its value is the number there
pub record Finds (at : ℕ → Answer ℕ) (n place : ℕ) (vs ls : List ℕ) (j s : ℕ) : Type 0 where
  pub run : ℕ
  pub found : (k : ℕ) → length ls ≤ k → seek at n place k j s ≡ given (j + run)
  pub inside : run < length ls
  pub value : get_or vs run 0 ≡ get_or (unroll vs ls) (place - s) 0

module _ (at : ℕ → Answer ℕ) (n place v l : ℕ) (vs ls : List ℕ) (j s : ℕ) (here : at j ≡ given l) (fit : run_fits n s l ≡ true) (after : s ≤ place) where
  finds-here : place < s + l → Finds at n place (v ∷ vs) (l ∷ ls) j s
  unfolding unroll
  finds-here h =
      record {
        run = 0;
        found = λ k m. seek-here at n place k j s (omega arith) l here fit h ∙ ap (λ (x : ℕ). given x) (sym (add-zero j));
        inside = omega arith;
        value = sym (get_or-append (replicate l v) (unroll vs ls) 0 (place - s) (omega (arith, length-replicate l v))
            ∙ get_or-replicate l (place - s) v 0 (omega arith));
      }

  finds-later : s + l ≤ place → Finds at n place vs ls (j + 1) (s + l) → Finds at n place (v ∷ vs) (l ∷ ls) j s
  unfolding unroll
  finds-later h f =
      let d : j + 1 + f.run ≡ j + suc f.run = omega arith in
      let w : place - s ≡ length (replicate l v) + (place - (s + l)) = omega (arith, length-replicate l v) in
      record {
        run = suc f.run;
        found = λ k m. seek-later at n place k j s (omega arith) l here fit h ∙ f.found (k - 1) (omega arith) ∙ ap (λ (x : ℕ). given x) d;
        inside = omega (arith, f.inside);
        value = f.value ∙ sym (ap (λ (i : ℕ). get_or (replicate l v ++ unroll vs ls) i 0) w
            ∙ get_or-append-add (replicate l v) (unroll vs ls) (place - (s + l)) 0);
      }

pub finds : (at : ℕ → Answer ℕ) (n place : ℕ) (vs ls : List ℕ) (j s : ℕ) → length vs ≡ length ls → all (leb 1) ls ≡ true → s + sum ls ≤ n → s ≤ place
    → place < s + sum ls
    → ((t : ℕ) → t < length ls → at (j + t) ≡ given (get_or ls t 0)) → Finds at n place vs ls j s
unfolding all sum
finds at n place [] [] j s p a f o i h = absurd (omega arith)
finds at n place [] (l ∷ ls) j s p a f o i h = absurd (omega arith)
finds at n place (v ∷ vs) [] j s p a f o i h = absurd (omega arith)
finds at n place (v ∷ vs) (l ∷ ls) j s p a f o i h =
    let (b, c) = both_true (leb 1 l) (all (leb 1) ls) a in
    let here : at j ≡ given l = ap at (sym (add-zero j)) ∙ h 0 (omega arith) in
    let fit = so-fits n s l (leb-true 1 l b) (omega arith) in
    by_order place (s + l)
    (finds-here at n place v l vs ls j s here fit o)
    (λ k. finds-later at n place v l vs ls j s here fit o k
    (finds at n place vs ls (j + 1) (s + l) (omega arith) c (omega arith) k (omega arith) (λ t m. next-at at j t (get_or ls t 0) (h (suc t) (omega arith)))))

-- ---- the run found is one of those sought
pub seek-below : (at : ℕ → Answer ℕ) (n place k j s r : ℕ) → seek at n place k j s ≡ given r → r < j + k
unfolding seek
seek-below at n place zero j s r e = absurd (not-given broken r e)
seek-below at n place (suc k) j s r e = go (λ l h. seek-below at n place k (j + 1) (s + l) r h) (at j) e
  where
    found : ((l : ℕ) → seek at n place k (j + 1) (s + l) ≡ given r → r < j + 1 + k) → (l : ℕ) (a b c : Bool)
        → need a broken (need b broken (cond c (given j) (seek at n place k (j + 1) (s + l)))) ≡ given r → r < j + suc k
    found ih l true true true e = let h : j ≡ r = cc in omega arith
    found ih l true true false e = omega (arith, ih l e)
    found ih l true false c e = absurd (not-given broken r e)
    found ih l false b c e = absurd (not-given broken r e)

    go : ((l : ℕ) → seek at n place k (j + 1) (s + l) ≡ given r → r < j + 1 + k) → (a : Answer ℕ)
        → bind a (λ l. need (leb 1 l) broken (need (leb (s + l) n) broken (cond (ltb place (s + l)) (given j) (seek at n place k (j + 1) (s + l))))) ≡ given r
        → r < j + suc k
    go ih (given l) e = found ih l (leb 1 l) (leb (s + l) n) (ltb place (s + l)) e
    go ih (refused z) e = absurd (not-given z r e)
