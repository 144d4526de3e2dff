-- The numbers through a place, taken once, against the numbers at these places one by one: the same refusals, the same numbers. Assumes nothing.
use Prim.Native.Nat.{ℕ, zero, suc, ◌+◌, ◌-◌, ◌≤◌, ◌<◌}
use mathlib.Core.Path.{◌≡◌, refl, sym, ap, ap₂, ◌∙◌, subst}
use mathlib.Core.Bool.{Bool, true, false, cond}
use mathlib.Core.List.{List, [], ◌∷◌, ◌++◌}
use mathlib.Core.Logic.{◌⊎◌, inl, inr}
use native.Mathlib.Nat.{zero-add, add-zero, sub-zero}
use native.Mathlib.Numerals.{add-one}
use native.Mathlib.Omega.{arith}
use lib.Dec.{leb, ltb, eqb}
use lib.ListN.{length, get_or, take, drop, replicate, length-append, length-replicate, get_or-append}
use lib.Seq.{length-take-le, take_all, take-suc, take-take, take-append-add, get_or-take, get_or_at, ext_get_or}
use borrow.Author.Tests.{lt-ltb, le-ltb, ltb-true, ltb-false, leb-true, le-leb}
use Rattle.meaning.specs.Answer.{Answer, given, refused, bind, need, number}
use Rattle.meaning.specs.Bytes.{word_at}
use Rattle.meaning.specs.Codes.{code_of, look_code}
use Rattle.meaning.specs.Limits.{number_limit, cut_short, broken}
use Rattle.meaning.specs.Lists.{all, sum}
use Rattle.meaning.specs.Plan.{Plan, bad, code, reference, differences, runs}
use Rattle.meaning.specs.Stages.{unroll, run_header, values_body, lengths_body, within, numbers_to, seek, look, numbers_through}
use Rattle.meaning.proofs.Answers.{not-given, bind-given, need-given, Faulty}
use Rattle.meaning.proofs.Tests.{by_order, by-test, both_true, true-both}
use Rattle.leaves.proofs.Joined.{sum-append}
use Rattle.stages.specs.Runs.{run_fits}
use Rattle.stages.proofs.RunsBack.{unroll-length}
use Rattle.stages.proofs.Scans.{raised_by, raised_at, raise-scan, scan-length}
use Rattle.stages.proofs.Seeks.{seek-here, seek-later, finds}
use Rattle.stages.proofs.Unrolls.{fits-so, so-fits}

pub within-over : (x : ℕ) → number_limit ≤ x → within x ≡ refused broken
unfolding within
within-over x h = rw (le-ltb x number_limit h)

-- a refusal of one thing is that of another
refused-too : {A B : Type 0} (z e : ℕ) → ◌≡◌ {A = Answer A} (refused z) (refused e) → ◌≡◌ {A = Answer B} (refused z) (refused e)
refused-too z e h = cc

-- what goes on to give, and is refused, was refused before
bind-refused : {A B : Type 0} (m : Answer A) (f : A → B) (e : ℕ) → bind m (λ a. given (f a)) ≡ refused e → m ≡ refused e
bind-refused (given a) f e h = absurd (not-given e (f a) (sym h))
bind-refused (refused z) f e h = refused-too z e h

-- ---- the first numbers, each in turn
abbrev Each : (ℕ → Answer ℕ) → ℕ → List ℕ → Type 0
Each at k xs = (length xs ≡ k) × ((i : ℕ) → i < k → at i ≡ given (get_or xs i 0))

each_next : (at : ℕ → Answer ℕ) (k x : ℕ) (ys xs : List ℕ) → ys ++ (x ∷ []) ≡ xs → Each at k ys → at k ≡ given x → Each at (suc k) xs
each_next at k x ys xs is each here = (
  omega (arith, each.0, ap length is, length-append ys (x ∷ [])),
  λ i h. by_order i k
      (λ l. each.1 i l
      ∙ ap (λ (y : ℕ). given y) (sym (get_or-append ys (x ∷ []) 0 i (omega (arith, each.0))) ∙ ap (λ (l : List ℕ). get_or l i 0) is))
      (λ l. let last : i ≡ k = omega arith in
      ap at last ∙ here ∙ ap (λ (y : ℕ). given y) (sym (get_or_at ys x [] 0 k each.0) ∙ ap₂ (λ (l : List ℕ) (m : ℕ). get_or l m 0) is (sym last))),
)

pub numbers-given : (at : ℕ → Answer ℕ) (k : ℕ) (xs : List ℕ) → numbers_to at k ≡ given xs → Each at k xs
unfolding numbers_to
numbers-given at zero xs e = let z : [] ≡ xs = cc in (ap length (sym z), λ i h. absurd (omega arith))
numbers-given at (suc k) xs e =
    let (ys, before, e₁) = bind-given (numbers_to at k) (λ ys. bind (at k) (λ x. given (ys ++ (x ∷ [])))) xs e in
    let (x, here, e₂) = bind-given (at k) (λ x. given (ys ++ (x ∷ []))) xs e₁ in
    let is : ys ++ (x ∷ []) ≡ xs = cc in
    each_next at k x ys xs is (numbers-given at k ys before) here

-- those of a list
numbers-taken : (at : ℕ → Answer ℕ) (gs : List ℕ) → ((i : ℕ) → i < length gs → at i ≡ given (get_or gs i 0)) → (k : ℕ) → k ≤ length gs
    → numbers_to at k ≡ given (take k gs)
unfolding numbers_to
numbers-taken at gs h zero l = refl
numbers-taken at gs h (suc k) l =
    rw (numbers-taken at gs h k (omega arith), h k (omega arith)) (ap (λ (l : List ℕ). given l) (sym (take-suc gs k 0 l)))

-- all places before this one give a number
abbrev Before : (ℕ → Answer ℕ) → ℕ → Type 0
Before at i = (k : ℕ) → k < i → (x : ℕ) × (at k ≡ given x)

numbers-some : (at : ℕ → Answer ℕ) (k : ℕ) → Before at k → (xs : List ℕ) × (numbers_to at k ≡ given xs)
unfolding numbers_to
numbers-some at zero h = ([], refl)
numbers-some at (suc k) h =
    let (xs, before) = numbers-some at k (λ i l. h i (omega arith)) in
    let (x, here) = h k (omega arith) in (
      xs ++ (x ∷ []),
      ap (λ (a : Answer (List ℕ)). bind a (λ ys. bind (at k) (λ y. given (ys ++ (y ∷ []))))) before
          ∙ ap (λ (a : Answer ℕ). bind a (λ y. given (xs ++ (y ∷ [])))) here,
    )

-- ---- what holds of the numbers through place i. If they are refused, so is place i, where all before it are given
abbrev Refuses : (ℕ → Answer ℕ) → ℕ → Answer (List ℕ) → Type 0
Refuses at i through = Before at i → (e : ℕ) → through ≡ refused e → at i ≡ refused e

-- a place gives its number, or its sum or one below it is too large: then the sum of the numbers through it is too
pub data At (a : Answer ℕ) (xs : List ℕ) (k : ℕ) : Type 0 where
  as-given : a ≡ given (get_or xs k 0) → At a xs k
  too_large : a ≡ refused broken → number_limit ≤ sum (take (suc k) xs) → At a xs k

-- if they are given, so is each, or a sum is too large
abbrev Gives : (ℕ → Answer ℕ) → ℕ → Answer (List ℕ) → Type 0
Gives at i through = (xs : List ℕ) → through ≡ given xs → (length xs ≡ i + 1) × ((k : ℕ) → k ≤ i → At (at k) xs k)

-- ---- places one by one
numbers-refuses : (at : ℕ → Answer ℕ) (i : ℕ) → Refuses at i (numbers_to at (i + 1))
unfolding numbers_to
numbers-refuses at i before e h =
    let (xs, all-before) = numbers-some at i before in
    bind-refused (at i) (λ x. xs ++ (x ∷ [])) e
    (ap (λ (a : Answer (List ℕ)). bind a (λ ys. bind (at i) (λ y. given (ys ++ (y ∷ []))))) (sym all-before)
    ∙ ap (numbers_to at) (sym (add-one i)) ∙ h)

numbers-gives : (at : ℕ → Answer ℕ) (i : ℕ) → Gives at i (numbers_to at (i + 1))
numbers-gives at i xs h =
    let each = numbers-given at (i + 1) xs h in
    (each.0, λ k l. as-given (each.1 k (omega arith)))

-- ---- reference: every number is raised by m, where the body holds m
abbrev raised_place : Bool → ℕ → (ℕ → Answer ℕ) → ℕ → Answer ℕ
raised_place t m at k = need t cut_short (bind (at k) (λ x. within (m + x)))

abbrev raised_through : Bool → ℕ → Answer (List ℕ) → Answer (List ℕ)
raised_through t m through = need t cut_short (bind through (λ xs. given (raised_by m xs)))

reference-refuses : (t : Bool) (m : ℕ) (at : ℕ → Answer ℕ) (i : ℕ) (through : Answer (List ℕ)) → Refuses at i through
    → Refuses (raised_place t m at) i (raised_through t m through)
reference-refuses false m at i through inner before e h = refused-too cut_short e h
reference-refuses true m at i through inner before e h =
    let here = inner (λ k l. let (x, q) = before k l in let (y, r, s) = bind-given (at k) (λ x. within (m + x)) x q in (y, r)) e
    (bind-refused through (raised_by m) e h) in
    rw here

last-most : (k : ℕ) (xs : List ℕ) → k < length xs → get_or xs k 0 ≤ sum (take (suc k) xs)
unfolding sum
last-most k [] h = absurd (omega arith)
last-most zero (x ∷ xs) h = omega arith
last-most (suc k) (x ∷ xs) h = omega (arith, last-most k xs (omega arith))

raised-most : (m k : ℕ) (xs : List ℕ) → sum (take k xs) ≤ sum (take k (raised_by m xs))
unfolding sum
raised-most m zero xs = omega arith
raised-most m (suc k) [] = omega arith
raised-most m (suc k) (x ∷ xs) = omega (arith, raised-most m k xs)

-- the number at a place, raised
raised-gives : (m k : ℕ) (a : Answer ℕ) (xs : List ℕ) → k < length xs → At a xs k → At (bind a (λ x. within (m + x))) (raised_by m xs) k
unfolding within
raised-gives m k a xs h (as-given here) =
    let x = get_or xs k 0 in
    by_order (m + x) number_limit
    (λ l. as-given (rw (here, lt-ltb (m + x) number_limit l) (ap (λ (y : ℕ). given y) (raised_at m xs k h))))
    (λ l. too_large (rw here (within-over (m + x) l))
    (omega (arith, raised_at m xs k h, last-most k (raised_by m xs) (omega (arith, scan-length raised_by _ _ raise-scan m xs)))))
raised-gives m k a xs h (too_large here over) = too_large (rw here) (omega (arith, raised-most m (suc k) xs))

reference-gives : (t : Bool) (m : ℕ) (at : ℕ → Answer ℕ) (i : ℕ) (through : Answer (List ℕ)) → Gives at i through
    → Gives (raised_place t m at) i (raised_through t m through)
reference-gives false m at i through inner ys h = absurd (not-given cut_short ys h)
reference-gives true m at i through inner ys h =
    let (xs, e, r) = bind-given through (λ xs. given (raised_by m xs)) ys h in
    let is : raised_by m xs ≡ ys = cc in
    let (long, each) = inner xs e in (
      sym (ap length is) ∙ scan-length raised_by _ _ raise-scan m xs ∙ long,
      λ k l. subst (λ (zs : List ℕ). At (raised_place true m at k) zs k) is (raised-gives m k (at k) xs (omega (arith, long)) (each k l)),
    )

-- ---- runs: a run that was sought and found is the next one, of length l, or one of those behind it
abbrev Goes : (ℕ → Answer ℕ) → ℕ → ℕ → ℕ → ℕ → ℕ → ℕ → ℕ → Type 0
Goes at n place k j s r l = ((place < s + l) × (j ≡ r)) ⊎ ((s + l ≤ place) × (seek at n place k (j + 1) (s + l) ≡ given r))

record Step (at : ℕ → Answer ℕ) (n place k j s r : ℕ) : Type 0 where
  long : ℕ
  here : at j ≡ given long
  fits : run_fits n s long ≡ true
  goes : Goes at n place k j s r long

found-or : (place end j r : ℕ) (later : Answer ℕ) → cond (ltb place end) (given j) later ≡ given r
    → ((place < end) × (j ≡ r)) ⊎ ((end ≤ place) × (later ≡ given r))
found-or place end j r later e =
    by-test (ltb place end)
    (λ t. let q : ◌≡◌ {A = Answer ℕ} (given j) (given r) = rw t at e in inl (ltb-true place end t, (cc)))
    (λ t. inr (ltb-false place end t, rw t at e))

seek-step : (at : ℕ → Answer ℕ) (n place k j s r : ℕ) → seek at n place (suc k) j s ≡ given r → Step at n place k j s r
unfolding seek
seek-step at n place k j s r e =
    let (l, here, e₁) = bind-given (at j) _ r e in
    let (a, e₂) = need-given (leb 1 l) broken _ r e₁ in
    let (b, e₃) = need-given (leb (s + l) n) broken _ r e₂ in
    record {
      long = l;
      here = here;
      fits = so-fits n s l (leb-true 1 l a) (leb-true (s + l) n b);
      goes = found-or place (s + l) j r (seek at n place k (j + 1) (s + l)) e₃;
    }

not-sought : (at : ℕ → Answer ℕ) (n place j s r : ℕ) → seek at n place zero j s ≡ given r → ⊥
unfolding seek
not-sought at n place j s r e = not-given broken r e

-- a run before the one found is found from an earlier place
abbrev Earlier : (ℕ → Answer ℕ) → ℕ → ℕ → ℕ → ℕ → ℕ → ℕ → Type 0
Earlier at n place k j s t = (i : ℕ) × (s ≤ i) × (i < place) × (seek at n i k j s ≡ given t)

seek-earlier : (at : ℕ → Answer ℕ) (n place k j s r : ℕ) → seek at n place k j s ≡ given r → (t : ℕ) → j ≤ t → t < r → Earlier at n place k j s t
seek-earlier at n place zero j s r e t a b = absurd (not-sought at n place j s r e)
seek-earlier at n place (suc k) j s r e t a b =
    let g = seek-step at n place k j s r e in
    go g.long g.here g.fits g.goes (λ q. seek-earlier at n place k (j + 1) (s + g.long) r q t)
  where
    go : (l : ℕ) → at j ≡ given l → run_fits n s l ≡ true → Goes at n place k j s r l
        → (seek at n place k (j + 1) (s + l) ≡ given r → j + 1 ≤ t → t < r → Earlier at n place k (j + 1) (s + l) t) → Earlier at n place (suc k) j s t
    go l here fits (inl found) ih = absurd (omega arith)
    go l here fits (inr later) ih =
        let one : 1 ≤ l = (fits-so n s l fits).0 in
        let less : suc k - 1 ≡ k = omega arith in
        by_order j t
        (λ h. let (i, after, before, q) = ih later.1 (omega arith) b in (
          i,
          omega (arith, after),
          before,
          seek-later at n i (suc k) j s (omega arith) l here fits after
              ∙ ap (λ (m : ℕ). seek at n i m (j + 1) (s + l)) less ∙ q,
        ))
        (λ h. let same : j ≡ t = omega arith in
        (s, omega arith, omega arith, seek-here at n s (suc k) j s (omega arith) l here fits (omega arith) ∙ ap (λ (m : ℕ). given m) same))

-- the lengths through the run found
record Lengths (at : ℕ → Answer ℕ) (n place k j s r : ℕ) : Type 0 where
  ls : List ℕ
  are : (t : ℕ) → t < length ls → at (j + t) ≡ given (get_or ls t 0)
  many : j + length ls ≡ r + 1
  few : length ls ≤ k
  some : all (leb 1) ls ≡ true
  inside : s + sum ls ≤ n
  past : place < s + sum ls

lengths-next : (at : ℕ → Answer ℕ) (j l : ℕ) (ls : List ℕ) → at j ≡ given l → ((t : ℕ) → t < length ls → at (j + 1 + t) ≡ given (get_or ls t 0))
    → (t : ℕ) → t < suc (length ls) → at (j + t) ≡ given (get_or (l ∷ ls) t 0)
lengths-next at j l ls here rest zero h = ap at (add-zero j) ∙ here
lengths-next at j l ls here rest (suc t) h = let e : j + suc t ≡ j + 1 + t = omega arith in ap at e ∙ rest t (omega arith)

seek-lengths : (at : ℕ → Answer ℕ) (n place k j s r : ℕ) → seek at n place k j s ≡ given r → Lengths at n place k j s r
unfolding all sum
seek-lengths at n place zero j s r e = absurd (not-sought at n place j s r e)
seek-lengths at n place (suc k) j s r e =
    let g = seek-step at n place k j s r e in
    go g.long g.here (fits-so n s g.long g.fits) g.goes (λ q. seek-lengths at n place k (j + 1) (s + g.long) r q)
  where
    go : (l : ℕ) → at j ≡ given l → (1 ≤ l) × (s + l ≤ n) → Goes at n place k j s r l
        → (seek at n place k (j + 1) (s + l) ≡ given r → Lengths at n place k (j + 1) (s + l) r) → Lengths at n place (suc k) j s r
    go l here fits (inl found) ih =
        record {
          ls = l ∷ [];
          are = lengths-next at j l [] here (λ t h. absurd (omega arith));
          many = omega arith;
          few = omega arith;
          some = true-both (leb 1 l) true (le-leb 1 l fits.0) refl;
          inside = omega arith;
          past = omega arith;
        }
    go l here fits (inr later) ih =
        let m = ih later.1 in
        record {
          ls = l ∷ m.ls;
          are = lengths-next at j l m.ls here m.are;
          many = omega (arith, m.many);
          few = omega (arith, m.few);
          some = true-both (leb 1 l) (all (leb 1) m.ls) (le-leb 1 l fits.0) m.some;
          inside = omega (arith, m.inside);
          past = omega (arith, m.past);
        }

-- the runs before the one found end before the place
seek-before : (at : ℕ → Answer ℕ) (n place : ℕ) (ls : List ℕ) (run k j s : ℕ) → run < length ls → s ≤ place
    → ((t : ℕ) → t < length ls → at (j + t) ≡ given (get_or ls t 0)) → seek at n place k j s ≡ given (j + run) → s + sum (take run ls) ≤ place
unfolding sum
seek-before at n place [] run k j s h o are e = absurd (omega arith)
seek-before at n place (l ∷ ls) zero k j s h o are e = omega arith
seek-before at n place (l ∷ ls) (suc run) zero j s h o are e = absurd (not-sought at n place j s (j + suc run) e)
seek-before at n place (l ∷ ls) (suc run) (suc k) j s h o are e =
    let g = seek-step at n place k j s (j + suc run) e in
    let first : at j ≡ given l = ap at (sym (add-zero j)) ∙ are 0 (omega arith) in
    let same : g.long ≡ l = cc in
    go g.long same g.goes (λ o q. seek-before at n place ls run k (j + 1) (s + l) (omega arith) o
    (λ t m. let d : j + 1 + t ≡ j + suc t = omega arith in ap at d ∙ are (suc t) (omega arith)) q)
  where
    go : (m : ℕ) → m ≡ l → Goes at n place k j s (j + suc run) m
        → (s + l ≤ place → seek at n place k (j + 1) (s + l) ≡ given (j + 1 + run) → s + l + sum (take run ls) ≤ place) → s + (l + sum (take run ls)) ≤ place
    go m same (inl found) ih = absurd (omega (arith, found.1))
    go m same (inr later) ih =
        let d : j + suc run ≡ j + 1 + run = omega arith in
        let q : seek at n place k (j + 1) (s + l) ≡ given (j + 1 + run)
        = ap (λ (x : ℕ). seek at n place k (j + 1) (s + x)) (sym same) ∙ later.1 ∙ ap (λ (x : ℕ). given x) d in
        omega (arith, ih (omega (arith, later.0)) q)

-- ---- the values through a run sum to no more than the numbers through a place of it: each run holds one place at least
run-most : (v l k : ℕ) (ys : List ℕ) → 1 ≤ l → v ≤ sum (take (suc k) (replicate l v ++ ys))
unfolding sum
run-most v zero k ys h = absurd (omega arith)
run-most v (suc l) k ys h = omega arith

run-behind : (v l m t : ℕ) (ys : List ℕ) → 1 ≤ l → t ≡ l + m → v + sum (take m ys) ≤ sum (take t (replicate l v ++ ys))
unfolding sum
run-behind v zero m t ys h e = absurd (omega arith)
run-behind v (suc l) m t ys h e =
    let d : t ≡ length (replicate (suc l) v) + m = omega (arith, length-replicate l v) in
    let whole : sum (take t (replicate (suc l) v ++ ys)) ≡ sum (replicate (suc l) v) + sum (take m ys)
    = ap (λ (x : ℕ). sum (take x (replicate (suc l) v ++ ys))) d ∙ ap sum (take-append-add (replicate (suc l) v) ys m)
    ∙ sum-append (replicate (suc l) v) (take m ys) in
    omega (arith, whole)

runs-most : (vs ls : List ℕ) (run k : ℕ) → length vs ≡ length ls → all (leb 1) ls ≡ true → run < length ls → sum (take run ls) ≤ k
    → sum (take (suc run) vs) ≤ sum (take (suc k) (unroll vs ls))
unfolding unroll sum all
runs-most [] ls run k p a h b = absurd (omega arith)
runs-most (v ∷ vs) [] run k p a h b = absurd (omega arith)
runs-most (v ∷ vs) (l ∷ ls) zero k p a h b =
    omega (arith, run-most v l k (unroll vs ls) (leb-true 1 l (both_true (leb 1 l) (all (leb 1) ls) a).0))
runs-most (v ∷ vs) (l ∷ ls) (suc run) k p a h b =
    let (one, rest) = both_true (leb 1 l) (all (leb 1) ls) a in
    omega (
      arith,
      runs-most vs ls run (k - l) (omega arith) rest (omega arith) (omega arith),
      run-behind v l (suc (k - l)) (suc k) (unroll vs ls) (leb-true 1 l one) (omega arith),
    )

-- ---- runs: values and lengths, m runs of n numbers
abbrev unrolled_at : Answer (Unit {0}) → (ℕ → Answer ℕ) → (ℕ → Answer ℕ) → ℕ → ℕ → ℕ → Answer ℕ
unrolled_at header at value n m place = bind header (λ h. bind (seek at n place m 0 0) value)

abbrev unrolled_through : Answer (Unit {0}) → (ℕ → Answer ℕ) → (ℕ → Answer (List ℕ)) → ℕ → ℕ → ℕ → Answer (List ℕ)
unrolled_through header at values n m place =
    bind header (λ h.
    bind (seek at n place m 0 0) (λ j.
    bind (numbers_to at (j + 1)) (λ ls.
    bind (values j) (λ vs. given (take (place + 1) (unroll vs ls))))))

-- the lengths through the run that holds the place are given
module _ (at : ℕ → Answer ℕ) (n m i j : ℕ) (e : seek at n i m 0 0 ≡ given j) where
  lengths-given : (s : Lengths at n i m 0 0 j) × (numbers_to at (j + 1) ≡ given s.ls)
  lengths-given =
      let s = seek-lengths at n i m 0 0 j e in
      let all_of : take (j + 1) s.ls ≡ s.ls = take_all (j + 1) s.ls (omega (arith, s.many)) in
      (s, numbers-taken at s.ls (λ t h. ap at (sym (zero-add t)) ∙ s.are t h) (j + 1) (omega (arith, s.many)) ∙ ap (λ (l : List ℕ). given l) all_of)

  pub lengths-found : (ls : List ℕ) × (numbers_to at (j + 1) ≡ given ls)
  lengths-found = let (s, q) = lengths-given in (s.ls, q)

module _ (at value : ℕ → Answer ℕ) (values : ℕ → Answer (List ℕ)) (n m i : ℕ) where
  runs-refuses : (header : Answer (Unit {0})) → ((j : ℕ) → Refuses value j (values j))
      → Refuses (unrolled_at header at value n m) i (unrolled_through header at values n m i)
  runs-refuses (refused z) inner before e h = refused-too z e h
  runs-refuses (given u) inner before e h = go (seek at n i m 0 0) refl h
    where
      found : (j : ℕ) → seek at n i m 0 0 ≡ given j → Before value j
      found j q k l =
          let (i', after, earlier, q') = seek-earlier at n i m 0 0 j q k (omega arith) l in
          let (x, r) = before i' earlier in
          (x, ap (λ (a : Answer ℕ). bind a value) (sym q') ∙ r)

      go : (a : Answer ℕ) → seek at n i m 0 0 ≡ a
          → bind a (λ j. bind (numbers_to at (j + 1)) (λ ls. bind (values j) (λ vs. given (take (i + 1) (unroll vs ls))))) ≡ refused e
          → bind (seek at n i m 0 0) value ≡ refused e
      go (refused z) q r = ap (λ (a : Answer ℕ). bind a value) q ∙ refused-too z e r
      go (given j) q r =
          let (s, given-all) = lengths-given at n m i j q in
          let r' = ap (λ (a : Answer (List ℕ)). bind a (λ ls. bind (values j) (λ vs. given (take (i + 1) (unroll vs ls))))) (sym given-all) ∙ r in
          ap (λ (a : Answer ℕ). bind a value) q
          ∙ inner j (found j q) e (bind-refused (values j) (λ vs. take (i + 1) (unroll vs s.ls)) e r')

  -- the place k of those through i, by the values vs and the lengths through the run that holds i
  runs-place : (j : ℕ) (s : Lengths at n i m 0 0 j) (vs : List ℕ) → length vs ≡ j + 1 → ((t : ℕ) → t ≤ j → At (value t) vs t) → (k : ℕ) → k ≤ i
      → At (bind (seek at n k m 0 0) value) (take (i + 1) (unroll vs s.ls)) k
  runs-place j s vs long each k h =
      let ls = s.ls in
      let are : (t : ℕ) → t < length ls → at (0 + t) ≡ given (get_or ls t 0) = s.are in
      let f = finds at n k vs ls 0 0 (omega (arith, s.many)) s.some s.inside (omega arith) (omega (arith, s.past)) are in
      let found : seek at n k m 0 0 ≡ given (0 + f.run) = f.found m s.few in
      let before = seek-before at n k ls f.run m 0 0 f.inside (omega arith) are found in
      let most = runs-most vs ls f.run k (omega (arith, s.many)) s.some f.inside (omega (arith, before)) in
      let same : take (suc k) (take (i + 1) (unroll vs ls)) ≡ take (suc k) (unroll vs ls) = take-take (suc k) (i + 1) (unroll vs ls) (omega arith) in
      let same_number : get_or vs f.run 0 ≡ get_or (take (i + 1) (unroll vs ls)) k 0
      = f.value ∙ ap (λ (x : ℕ). get_or (unroll vs ls) x 0) (sub-zero k) ∙ sym (get_or-take (i + 1) (unroll vs ls) k 0 (omega arith)) in
      go f.run (ap (λ (a : Answer ℕ). bind a value) found ∙ ap value (zero-add f.run)) same_number (omega (arith, most, ap sum same))
      (each f.run (omega (arith, f.inside, s.many)))
    where
      go : {a : Answer ℕ} {xs : List ℕ} (run : ℕ) → a ≡ value run → get_or vs run 0 ≡ get_or xs k 0 → sum (take (suc run) vs) ≤ sum (take (suc k) xs)
          → At (value run) vs run → At a xs k
      go run is same most (as-given here) = as-given (is ∙ here ∙ ap (λ (x : ℕ). given x) same)
      go run is same most (too_large here over) = too_large (is ∙ here) (omega arith)

  runs-gives : (header : Answer (Unit {0})) → ((j : ℕ) → Gives value j (values j))
      → Gives (unrolled_at header at value n m) i (unrolled_through header at values n m i)
  runs-gives (refused z) inner xs h = absurd (not-given z xs h)
  runs-gives (given u) inner xs h =
      let (j, q, h₁) = bind-given (seek at n i m 0 0) _ xs h in
      let (ls, e, h₂) = bind-given (numbers_to at (j + 1)) _ xs h₁ in
      let (vs, v, h₃) = bind-given (values j) (λ vs. given (take (i + 1) (unroll vs ls))) xs h₂ in
      let (s, given-all) = lengths-given at n m i j q in
      let lengths : ls ≡ s.ls = cc in
      let same : take (i + 1) (unroll vs ls) ≡ xs = cc in
      let is : take (i + 1) (unroll vs s.ls) ≡ xs = ap (λ (l : List ℕ). take (i + 1) (unroll vs l)) (sym lengths) ∙ same in
      let (long, each) = inner j vs v in
      let whole = unroll-length vs s.ls (omega (arith, s.many, long)) in (
        sym (ap length is) ∙ length-take-le (i + 1) (unroll vs s.ls) (omega (arith, whole, s.past)),
        λ k l. subst (λ (zs : List ℕ). At (bind (seek at n k m 0 0) value) zs k) is (runs-place j s vs long each k l),
      )

-- ---- by a plan
pub through-refused : (p : Plan) (body : List ℕ) (n i : ℕ) → ((k : ℕ) → k < i → (x : ℕ) × (look p body n k ≡ given x)) → (e : ℕ)
    → numbers_through p body n i ≡ refused e → look p body n i ≡ refused e
unfolding look
through-refused bad body n i before e h = refused-too broken e h
through-refused (code c) body n i before e h = numbers-refuses (look_code (code_of c) body n) i before e h
through-refused (reference p) body n i before e h =
    reference-refuses (leb 4 (length body)) (word_at body 0) (look p (drop 4 body) n) i (numbers_through p (drop 4 body) n i)
    (through-refused p (drop 4 body) n i) before e h
through-refused (differences p) body n i before e h = numbers-refuses (look (differences p) body n) i before e h
through-refused (runs p q) body n i before e h =
    let k = word_at body 0 in
    runs-refuses (look q (lengths_body body) k) (look p (values_body body) k) (numbers_through p (values_body body) k) n k i (run_header n body)
    (λ j. through-refused p (values_body body) k j) before e h

pub through-given : (p : Plan) (body : List ℕ) (n i : ℕ) (xs : List ℕ) → numbers_through p body n i ≡ given xs
    → (length xs ≡ i + 1) × ((k : ℕ) → k ≤ i → At (look p body n k) xs k)
unfolding look
through-given bad body n i xs h = absurd (not-given broken xs h)
through-given (code c) body n i xs h = numbers-gives (look_code (code_of c) body n) i xs h
through-given (reference p) body n i xs h =
    reference-gives (leb 4 (length body)) (word_at body 0) (look p (drop 4 body) n) i (numbers_through p (drop 4 body) n i)
    (through-given p (drop 4 body) n i) xs h
through-given (differences p) body n i xs h = numbers-gives (look (differences p) body n) i xs h
through-given (runs p q) body n i xs h =
    let k = word_at body 0 in
    runs-gives (look q (lengths_body body) k) (look p (values_body body) k) (numbers_through p (values_body body) k) n k i (run_header n body)
    (λ j. through-given p (values_body body) k j) xs h

-- ---- what callers use
-- where each place through i gives its number of a list, these are the numbers through it
pub through-all : (p : Plan) (body : List ℕ) (n i : ℕ) (gs : List ℕ) → i < length gs
    → ((k : ℕ) → k ≤ i → look p body n k ≡ given (get_or gs k 0)) → numbers_through p body n i ≡ given (take (i + 1) gs)
through-all p body n i gs l each = go (numbers_through p body n i) refl
  where
    is : {a : Answer ℕ} (x k : ℕ) (xs : List ℕ) → a ≡ given x → At a xs k → get_or xs k 0 ≡ x
    is x k xs e (as-given here) = cc
    is x k xs e (too_large here over) = absurd (not-given broken x (sym here ∙ e))

    go : (a : Answer (List ℕ)) → numbers_through p body n i ≡ a → numbers_through p body n i ≡ given (take (i + 1) gs)
    go (refused e) q =
        let here = through-refused p body n i (λ k h. (get_or gs k 0, each k (omega arith))) e q in
        absurd (not-given e (get_or gs i 0) (sym here ∙ each i (omega arith)))
    go (given xs) q =
        let (long, at) = through-given p body n i xs q in
        let many : length (take (i + 1) gs) ≡ i + 1 = length-take-le (i + 1) gs (omega arith) in
        q ∙ ap (λ (l : List ℕ). given l) (ext_get_or 0 xs (take (i + 1) gs) (long ∙ sym many)
        (λ k h. is (get_or gs k 0) k xs (each k (omega (arith, long))) (at k (omega (arith, long)))
        ∙ sym (get_or-take (i + 1) gs k 0 (omega (arith, long)))))

take-most : (k : ℕ) (xs : List ℕ) → sum (take k xs) ≤ sum xs
unfolding sum
take-most zero xs = omega arith
take-most (suc k) [] = omega arith
take-most (suc k) (x ∷ xs) = omega (arith, take-most k xs)

-- where the numbers are given and one of the places refuses, it is a sum that is too large, and so is that of all
sum-refused : (p : Plan) (body : List ℕ) (n i k e : ℕ) (xs : List ℕ) → k ≤ i → look p body n k ≡ refused e → numbers_through p body n i ≡ given xs
    → within (sum xs) ≡ refused e
sum-refused p body n i k e xs l h q = go (look p body n k) h ((through-given p body n i xs q).1 k l)
  where
    go : (a : Answer ℕ) → a ≡ refused e → At a xs k → within (sum xs) ≡ refused e
    go a h (as-given here) = absurd (not-given e (get_or xs k 0) (sym h ∙ here))
    go a h (too_large here over) = within-over (sum xs) (omega (arith, take-most (suc k) xs)) ∙ sym here ∙ h

-- the first place that refuses, refuses the same under differences
pub differences-first : (p : Plan) (body : List ℕ) (n i e : ℕ) → ((k : ℕ) → k < i → (x : ℕ) × (look p body n k ≡ given x))
    → look p body n i ≡ refused e → look (differences p) body n i ≡ refused e
unfolding look
differences-first p body n i e before h = go (numbers_through p body n i) refl
  where
    go : (a : Answer (List ℕ)) → numbers_through p body n i ≡ a → bind a (λ xs. within (sum xs)) ≡ refused e
    go (refused z) q = sym (through-refused p body n i before z q) ∙ h
    go (given xs) q = sum-refused p body n i i e xs (omega arith) h q

-- where a place refuses, under differences each from there on refuses as the numbers through it do, or as that place does where these are given
pub differences-later : (p : Plan) (body : List ℕ) (n i k e : ℕ) → k ≤ i → look p body n k ≡ refused e → Faulty (numbers_through p body n i)
    → look (differences p) body n i ≡ refused (cond (eqb (number (numbers_through p body n i)) 0) e (number (numbers_through p body n i)))
unfolding look
differences-later p body n i k e l h faulty = go (numbers_through p body n i) refl faulty
  where
    go : (a : Answer (List ℕ)) → numbers_through p body n i ≡ a → Faulty a
        → bind a (λ xs. within (sum xs)) ≡ refused (cond (eqb (number a) 0) e (number a))
    go (refused z) q (inl cut) = rw cut
    go (refused z) q (inr wrong) = rw wrong
    go (given xs) q f = sum-refused p body n i k e xs l h q
