-- Law (c): where reading by a plan gives a list, a lookup at every place gives the number there. Assumes only the laws of the codes.
use Prim.Native.Nat.{ℕ, zero, suc, ◌+◌, ◌<◌}
use mathlib.Core.Path.{◌≡◌, refl, sym, ap, ap₂, ◌∙◌}
use mathlib.Core.List.{List, [], ◌∷◌}
use native.Mathlib.Nat.{zero-add, sub-zero}
use native.Mathlib.Numerals.{add-one}
use native.Mathlib.Omega.{arith}
use lib.ListN.{length, get_or, take, drop}
use borrow.Author.Tests.{lt-ltb}
use Rattle.meaning.specs.Answer.{given}
use Rattle.meaning.specs.Bytes.{word_at}
use Rattle.meaning.specs.Codes.{code_of}
use Rattle.meaning.specs.Limits.{number_limit}
use Rattle.meaning.specs.Lists.{sum}
use Rattle.meaning.specs.Places.{Below}
use Rattle.meaning.specs.Plan.{Plan, bad, code, reference, differences, runs}
use Rattle.meaning.specs.Stages.{sums_from, run_header, values_body, lengths_body, read, within, seek, look}
use Rattle.meaning.proofs.Answers.{not-given}
use Rattle.meaning.proofs.Bounds.{below-take, below-drop}
use Rattle.meaning.proofs.Lawful.{Lawful, look-code}
use Rattle.stages.proofs.Back.{ReferenceRead, reference-read, DifferencesRead, differences-read, runs-read, back}
use Rattle.stages.proofs.RunsBack.{Unrolled, unrolled-is, unroll-length}
use Rattle.stages.proofs.Scans.{raised_by, raised_at, raise-scan, sums-scan, scan-length}
use Rattle.stages.proofs.Seeks.{finds}
use Rattle.stages.proofs.Through.{through-all}

pub within-given : (x : ℕ) → x < number_limit → within x ≡ given x
unfolding within
within-given x h = rw (lt-ltb x number_limit h)

-- ---- sums of the first numbers
pub sum-taken : (p i : ℕ) (gs : List ℕ) → i < length gs → get_or (sums_from p gs) i 0 ≡ p + sum (take (suc i) gs)
unfolding sums_from sum
sum-taken p i [] h = absurd (omega arith)
sum-taken p zero (g ∷ gs) h = omega arith
sum-taken p (suc i) (g ∷ gs) h = omega (arith, sum-taken (p + g) i gs (omega arith))

-- ---- stage by stage
look-reference : (p : Plan) (body : List ℕ) (n : ℕ) (xs : List ℕ) (s : ReferenceRead p body n xs) (place : ℕ) → place < length xs
    → look p (drop 4 body) n place ≡ given (get_or s.ys place 0) → look (reference p) body n place ≡ given (get_or xs place 0)
unfolding look
look-reference p body n xs s place h i =
    let m = word_at body 0 in
    let r = s.raised in
    let x : m + get_or s.ys place 0 ≡ get_or xs place 0
    = raised_at m s.ys place (omega (arith, ap length r.is, scan-length raised_by _ _ raise-scan m s.ys))
    ∙ ap (λ (l : List ℕ). get_or l place 0) r.is in
    rw (s.fits, i) (within-given (m + get_or s.ys place 0) (omega (arith, r.below place)) ∙ ap (λ (k : ℕ). given k) x)

look-differences : (p : Plan) (body : List ℕ) (n : ℕ) (xs : List ℕ) (s : DifferencesRead p body n xs) (place : ℕ) → place < length xs
    → ((i : ℕ) → i < length s.gs → look p body n i ≡ given (get_or s.gs i 0)) → look (differences p) body n place ≡ given (get_or xs place 0)
unfolding look
look-differences p body n xs s place h i =
    let gs = s.gs in
    let r = s.summed in
    let k : place < length gs = omega (arith, ap length r.is, scan-length sums_from _ _ sums-scan 0 gs) in
    let x : sum (take (place + 1) gs) ≡ get_or xs place 0 =
    rw add-one (sym (ap (λ (l : List ℕ). get_or l place 0) (sym r.is) ∙ sum-taken 0 place gs k ∙ zero-add (sum (take (suc place) gs)))) in
    rw (through-all p body n place gs k (λ t m. i t (omega arith)))
    (within-given (sum (take (place + 1) gs)) (omega (arith, r.below place)) ∙ ap (λ (k : ℕ). given k) x)

look-runs : (p q : Plan) (body : List ℕ) (n place k : ℕ) (xs vs ls : List ℕ) → run_header n body ≡ given tt → word_at body 0 ≡ k → Unrolled n vs ls xs
    → length ls ≡ k → place < length xs
    → ((i : ℕ) → i < length vs → look p (values_body body) k i ≡ given (get_or vs i 0))
    → ((i : ℕ) → i < length ls → look q (lengths_body body) k i ≡ given (get_or ls i 0))
    → look (runs p q) body n place ≡ given (get_or xs place 0)
unfolding look
look-runs p q body n place k xs vs ls e ek u many h i j =
    let paired = u.maximal.paired in
    let long : length xs ≡ sum ls = ap length (sym u.is) ∙ unroll-length vs ls paired in
    let f = finds (look q (lengths_body body) k) n place vs ls 0 0 paired u.maximal.some (omega (arith, u.total)) (omega arith) (omega arith)
    (λ t m. ap (look q (lengths_body body) k) (zero-add t) ∙ j t m) in
    let found : seek (look q (lengths_body body) k) n place k 0 0 ≡ given f.run =
    ap (λ (m : ℕ). seek (look q (lengths_body body) k) n place m 0 0) (sym many) ∙ f.found (length ls) (omega arith)
    ∙ ap (λ (m : ℕ). given m) (zero-add f.run) in
    rw (e, ek, found)
    (i f.run (omega (arith, f.inside)) ∙ ap (λ (x : ℕ). given x) (f.value ∙ ap₂ (λ (l : List ℕ) (m : ℕ). get_or l m 0) u.is (sub-zero place)))

module _ (laws : (c : ℕ) → Lawful (code_of c)) where
  look-plain : (c : ℕ) (body : List ℕ) (n : ℕ) (xs : List ℕ) → Below 256 body → read (code c) body n ≡ given xs → (place : ℕ) → place < length xs
      → look (code c) body n place ≡ given (get_or xs place 0)
  unfolding read look
  look-plain c body n xs b e place h = look-code (code_of c) body n xs b e place h (laws c)

  pub looks : (p : Plan) (body : List ℕ) (n : ℕ) (xs : List ℕ) → Below 256 body → read p body n ≡ given xs → (place : ℕ) → place < length xs
      → look p body n place ≡ given (get_or xs place 0)
  unfolding read
  looks bad body n xs b e place h = absurd (not-given _ _ e)
  looks (code c) body n xs b e place h = look-plain c body n xs b e place h
  looks (reference p) body n xs b e place h =
      let s = reference-read p body n xs e in
      look-reference p body n xs s place h
      (looks p (drop 4 body) n s.ys (below-drop 256 4 body b) s.inner place
      (omega (arith, ap length s.raised.is, scan-length raised_by _ _ raise-scan (word_at body 0) s.ys)))
  looks (differences p) body n xs b e place h =
      let s = differences-read p body n xs e in
      look-differences p body n xs s place h (λ i k. looks p body n s.gs b s.inner i k)
  looks (runs p q) body n xs b e place h =
      let s = runs-read p q body n xs e in
      let bv = below-take 256 (word_at body 4) (drop 8 body) (below-drop 256 8 body b) in
      let bl = below-drop 256 (8 + word_at body 4) body b in
      let mv = (back laws p (values_body body) (word_at body 0) s.vs bv s.values).1 in
      let ml = (back laws q (lengths_body body) (word_at body 0) s.ls bl s.lengths).1 in
      look-runs p q body n place (word_at body 0) xs s.vs s.ls s.header refl (unrolled-is n s.vs s.ls xs (mv ∙ sym ml) s.unrolled) ml h
      (λ i k. looks p (values_body body) (word_at body 0) s.vs bv s.values i k)
      (λ i k. looks q (lengths_body body) (word_at body 0) s.ls bl s.lengths i k)
