-- G8IU is lawful: what it writes reads back, what it reads is what it would write, bytes added change no whole unit, and its size is as told. Assumes nothing.
use Prim.Native.Nat.{ℕ, suc, ◌+◌, ◌-◌, ◌≤◌, ◌<◌}
use mathlib.Core.Path.{◌≡◌, refl, sym, ap, ◌∙◌, subst}
use mathlib.Core.Bool.{true, not, ◌||◌, or-true}
use mathlib.Core.List.{List, [], ◌∷◌, ◌++◌, append-nil}
use native.Mathlib.Omega.{arith}
use lib.Dec.{leb, eqb}
use lib.ListN.{length, get_or, take, drop, length-append, length-drop, drop_of_length-le, get_or-append}
use lib.Seq.{drop_at, drop-drop, take-append-le, drop-append-le}
use borrow.Author.Tests.{le-leb, eq-eqb, eqb-true, not-true}
use Rattle.meaning.specs.Answer.{given}
use Rattle.meaning.specs.Codes.{code_g8iu, read_code, to_last}
use Rattle.meaning.specs.Limits.{number_limit}
use Rattle.meaning.specs.Lists.{all, sum}
use Rattle.meaning.specs.Places.{Below}
use Rattle.meaning.specs.Positions.{at_byte}
use Rattle.meaning.specs.DataBytes.{data_bytes}
use Rattle.meaning.specs.G8IU.{fits, block, write_g8iu, block_lengths, block_in, unit_g8iu, joins_g8iu}
use Rattle.meaning.specs.declared.Position.{Position}
use Rattle.meaning.proofs.Bounds.{below-nil, below-append, below_left, below_right}
use Rattle.meaning.proofs.Codes.{byte_inside, first-lasts, left_over}
use Rattle.meaning.proofs.Lasting.{Lasts, lasts-given, lasts-long, lasts-rule, lasts-bind}
use Rattle.meaning.proofs.Lawful.{Lawful, Read}
use Rattle.meaning.proofs.Units.{Whole, read-many, read-written, read-holds}
use Rattle.leaves.proofs.Parts.{part_length}
use Rattle.words.proofs.DataBytes.{data-most, data-lasts}
use Rattle.g8iu.proofs.Blocks.{Stops, cut, stops-full, block-length, write-none, write-next, most, write-small}
use Rattle.g8iu.proofs.Controls.{eight-within}
use Rattle.g8iu.proofs.Spares.{fresh}
use Rattle.g8iu.proofs.Units.{Ends, unit-written, taken, good, Back, unit-back}

-- ---- a list that may follow a block
abbrev Follows : List ℕ → List ℕ → Type 0
Follows before [] = Unit {0}
Follows before (x ∷ xs) = joins_g8iu before (x ∷ xs) ≡ true

follows-none : (xs : List ℕ) → Follows [] xs
unfolding joins_g8iu
follows-none [] = tt
follows-none (x ∷ xs) = refl

-- only the first number counts
joins-first : (before : List ℕ) (x : ℕ) (xs ys : List ℕ) → joins_g8iu before (x ∷ xs) ≡ joins_g8iu before (x ∷ ys)
unfolding joins_g8iu
joins-first [] x xs ys = refl
joins-first (b ∷ before) x xs ys = refl

follows-stops : (y : ℕ) (ys xs : List ℕ) → Follows (y ∷ ys) xs → Stops (y ∷ ys) xs
unfolding joins_g8iu
follows-stops y ys [] h = tt
follows-stops y ys (x ∷ xs) h = not-true (fits (y ∷ ys) x) h

stops-follows : (y : ℕ) (ys xs : List ℕ) → Stops (y ∷ ys) xs → Follows (y ∷ ys) xs
unfolding joins_g8iu
stops-follows y ys [] h = tt
stops-follows y ys (x ∷ xs) h = ap not h

-- ---- whole bodies: the body holds xs from an offset on, and no more, after a block of the numbers `before`
record Holds (body before : List ℕ) (at : ℕ) (xs : List ℕ) : Type 0 where
  pub inside : at ≤ length body
  pub bytes : drop at body ≡ write_g8iu xs
  pub small : Below number_limit xs
  pub follows : Follows before xs

abbrev HoldsAt : List ℕ → List ℕ → Position → List ℕ → Type 0
HoldsAt body before p xs = Holds body before p.head.byte xs

ends : (body before : List ℕ) (at : ℕ) → Holds body before at [] → eqb at (length body) ≡ true
ends body before at h =
    let l = sym (length-drop at body) ∙ ap length (h.bytes ∙ write-none) in
    eq-eqb at (length body) (omega (arith, h.inside))

ended : (body before : List ℕ) (at : ℕ) → eqb at (length body) ≡ true → Holds body before at []
ended body before at e =
    let q = eqb-true at (length body) e in
    record {
      inside = omega arith;
      bytes = drop_of_length-le body {i = at} (omega arith) ∙ sym write-none;
      small = below-nil number_limit (omega arith);
      follows = tt;
    }

-- a block's waste is at most 3, or the list ends there
ends_so : (taken rest : List ℕ) (left : ℕ) → Stops taken rest → length taken + length rest ≡ left → Ends left taken ≡ true
ends_so taken [] left h l = rw (eq-eqb (length taken) left (omega arith)) (or-true (leb (8 - length (data_bytes taken)) 3))
ends_so taken (x ∷ rest) left h l = let full = (stops-full taken x rest h).0 in rw (le-leb (8 - length (data_bytes taken)) 3 (omega arith))

-- a first block of a body that holds a list
heads-cut : (body before : List ℕ) (p : Position) (x : ℕ) (more rest : List ℕ) → length (data_bytes (x ∷ more)) ≤ 8 → Stops (x ∷ more) rest
    → HoldsAt body before p (x ∷ (more ++ rest))
    → (unit_g8iu body (suc (length (more ++ rest))) p ≡ given (at_byte (p.head.byte + 9), x ∷ more)) × (joins_g8iu before (x ∷ more) ≡ true)
    × Holds body (x ∷ more) (p.head.byte + 9) rest
heads-cut body before p x more rest fitted stops h =
    let at = p.head.byte in
    let e : drop at body ≡ block (x ∷ more) ++ write_g8iu rest = h.bytes ∙ write-next x more rest fitted stops in
    let l : length body - at ≡ 9 + length (write_g8iu rest) =
    sym (length-drop at body) ∙ ap length e ∙ length-append (block (x ∷ more)) (write_g8iu rest)
    ∙ ap (λ (n : ℕ). n + length (write_g8iu rest)) (block-length (x ∷ more) fitted) in
    let n : length (more ++ rest) ≡ length more + length rest = length-append more rest in (
      unit-written (suc (length (more ++ rest))) (x ∷ more) (omega arith) (omega arith) (below_left number_limit (x ∷ more) rest h.small) fitted
          (ends_so (x ∷ more) rest (suc (length (more ++ rest))) stops (omega arith)) body p (write_g8iu rest) h.inside e,
      joins-first before x more (more ++ rest) ∙ h.follows,
      record {
        inside = omega (arith, h.inside);
        bytes = sym (drop-drop 9 at body) ∙ ap (drop 9) e ∙ drop_at (block (x ∷ more)) (write_g8iu rest) 9 (block-length (x ∷ more) fitted);
        small = below_right number_limit (x ∷ more) rest h.small;
        follows = stops-follows x more rest stops;
      },
    )

heads : (body before : List ℕ) (p : Position) (x : ℕ) (xs : List ℕ) → HoldsAt body before p (x ∷ xs)
    → (u : Position × List ℕ) × (unit_g8iu body (suc (length xs)) p ≡ given u) × (joins_g8iu before u.1 ≡ true)
    × ((zs : List ℕ) × (u.1 ++ zs ≡ x ∷ xs) × HoldsAt body u.1 u.0 zs)
heads body before p x xs h =
    let c = cut (x ∷ []) xs (omega (arith, data-most (x ∷ []))) in
    let u : Position × List ℕ = (at_byte (p.head.byte + 9), x ∷ c.more) in
    let is = ap (λ (l : List ℕ). x ∷ l) c.is in
    let (e, j, r) = heads-cut body before p x c.more c.rest c.fitted c.stops (subst (HoldsAt body before p) (sym is) h) in
    (u, subst (λ (l : List ℕ). unit_g8iu body (suc (length l)) p ≡ given u) c.is e, j, (c.rest, is, r))

-- a block before a body that holds the rest
headed-at : (body before : List ℕ) (at : ℕ) (ys zs : List ℕ) → 0 < length ys → at + 9 ≤ length body → Back body at ys → joins_g8iu before ys ≡ true
    → Holds body ys (at + 9) zs → Holds body before at (ys ++ zs)
headed-at body before at [] zs some inside k j h = absurd (omega arith)
headed-at body before at (y ∷ ys) zs some inside k j h =
    record {
      inside = omega arith;
      bytes = k.is ∙ ap (λ (l : List ℕ). block (y ∷ ys) ++ l) h.bytes ∙ sym (write-next y ys zs k.fitted (follows-stops y ys zs h.follows));
      small = below-append number_limit (y ∷ ys) zs k.small h.small;
      follows = joins-first before y (ys ++ zs) ys ∙ j;
    }

headed : (body : List ℕ) → Below 256 body → (n : ℕ) (before : List ℕ) (p : Position) (u : Position × List ℕ) (zs : List ℕ)
    → unit_g8iu body (suc n) p ≡ given u → joins_g8iu before u.1 ≡ true → HoldsAt body u.1 u.0 zs → HoldsAt body before p (u.1 ++ zs)
headed body b n before p u zs e j h =
    let t = taken body (suc n) p u e in
    headed-at body before p.head.byte u.1 zs ((good body).some (suc n) p u (omega arith) e) t.inside (unit-back body b (suc n) p u e) j
    (subst (λ (q : Position). HoldsAt body u.1 q zs) t.next h)

whole : (body : List ℕ) → Below 256 body → Whole (unit_g8iu body) joins_g8iu (to_last body) (HoldsAt body)
whole body b =
    record {
      ends = λ before p h. ends body before p.head.byte h;
      heads = heads body;
      ended = λ before p e. ended body before p.head.byte e;
      headed = λ n before p u zs e j l h. headed body b n before p u zs e j h;
    }

-- ---- the laws
forth : (xs : List ℕ) → Below number_limit xs → read_code code_g8iu (write_g8iu xs) (length xs) ≡ given xs
unfolding read_code
forth xs h =
    let body = write_g8iu xs in
    read-written (unit_g8iu body) joins_g8iu (to_last body) (good body) (HoldsAt body) (whole body (write-small xs)) [] (at_byte 0) xs
    (record { inside = omega arith; bytes = refl; small = h; follows = follows-none xs })

back : (body : List ℕ) (n : ℕ) (xs : List ℕ) → Below 256 body → read_code code_g8iu body n ≡ given xs → Read code_g8iu body n xs
unfolding read_code
back body n xs b e =
    let h = read-holds (unit_g8iu body) joins_g8iu (to_last body) (good body) (HoldsAt body) (whole body b) n [] (at_byte 0) xs e in
    record {
      bytes = sym h.bytes;
      many = read-many (unit_g8iu body) joins_g8iu (to_last body) (good body) n [] (at_byte 0) xs e;
      small = h.small;
    }

-- ---- bytes added behind a body: a block that is not cut short is the same, and ends within it
block-lasts : (left : ℕ) (ls bytes : List ℕ) → sum ls ≤ length bytes
    → Lasts (λ (xs : List ℕ). Unit {0}) (block_in left ls bytes) (block_in left ls bytes)
unfolding block_in
block-lasts left ls bytes h =
    lasts-rule (leb 1 (length ls)) _ _ (λ a.
    lasts-rule (leb (length ls) left) _ _ (λ b.
    lasts-rule (leb (8 - sum ls) 3 || eqb (length ls) left) _ _ (λ c.
    lasts-rule (all (eqb 0) (drop (sum ls) bytes)) _ _ (λ d. rw append-nil at (data-lasts ls bytes [] h)))))

units : (body more : List ℕ) (left : ℕ) (p : Position)
    → Lasts (λ u. byte_inside body p ≡ true → byte_inside body u.0 ≡ true) (unit_g8iu body left p) (unit_g8iu (body ++ more) left p)
unfolding unit_g8iu
units body more left p =
    let at = p.head.byte in
    lasts-long (at + 9) body more _ _ (λ within.
    let ls = block_lengths (get_or body at 0) in
    let bytes = take 8 (drop (at + 1) body) in
    let long : length bytes ≡ 8 = part_length body (at + 1) 8 (omega arith) in
    rw (
      get_or-append body more 0 at (omega arith),
      drop-append-le (at + 1) body more (omega arith),
      take-append-le 8 (drop (at + 1) body) more (omega (arith, length-drop (at + 1) body)),
    )
    (lasts-bind (block_in left ls bytes) (block_in left ls bytes) _ _ (block-lasts left ls bytes (omega (arith, eight-within (get_or body at 0))))
    (λ xs e u. lasts-given (at_byte (at + 9), xs) (λ i. le-leb (at + 9) (length body) within))))

pub lawful : Lawful code_g8iu
lawful =
    record {
      good = λ body b. good body;
      inside = byte_inside;
      starts = first-lasts;
      units = units;
      over = left_over;
      fresh = fresh;
      forth = λ xs few h. forth xs h;
      back = back;
      most = λ xs h. most xs;
      bytes = λ xs h. write-small xs;
      grows = λ k n h. omega arith;
      nine = λ n. omega arith;
      looked = tt;
    }
