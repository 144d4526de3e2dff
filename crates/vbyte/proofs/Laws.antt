-- VByte is lawful: what it writes reads back, what it reads is what it would write, bytes added change no whole unit, and its size is as told. Assumes nothing.
use Prim.Native.Nat.{ℕ, zero, suc, ◌+◌, ◌-◌, ◌*◌, ◌≤◌}
use mathlib.Core.Path.{◌≡◌, refl, sym, ap, ◌∙◌, subst}
use mathlib.Core.Bool.{true, not, cond}
use mathlib.Core.List.{List, [], ◌∷◌, ◌++◌}
use native.Mathlib.Omega.{arith}
use lib.Dec.{ltb, leb, eqb}
use lib.ListN.{length, drop, length-append, length-drop, drop_of_length-le}
use lib.Seq.{drop-append_seam, drop-drop}
use borrow.Author.Tests.{eq-eqb, eqb-true, le-leb, leb-true}
use Rattle.meaning.specs.Answer.{Answer, given, bind, need}
use Rattle.meaning.specs.Codes.{code_vbyte, read_code, always, to_last}
use Rattle.meaning.specs.Limits.{broken, number_limit}
use Rattle.meaning.specs.Lists.{joined}
use Rattle.meaning.specs.Places.{Below}
use Rattle.meaning.specs.Positions.{at_byte}
use Rattle.meaning.specs.VByte.{vbyte, later_in, vbyte_in, unit_vbyte}
use Rattle.meaning.specs.declared.Position.{Position}
use Rattle.meaning.proofs.Answers.{bind-given}
use Rattle.meaning.proofs.Bounds.{below-nil, below-cons, below-drop, below-append}
use Rattle.meaning.proofs.Codes.{spare-always, byte_inside, first-lasts, left_over}
use Rattle.meaning.proofs.Lasting.{Lasts, lasts-given, lasts-rule, lasts-bind, drop-longer}
use Rattle.meaning.proofs.Lasting.Lasts.{cut}
use Rattle.meaning.proofs.Lawful.{Lawful, Read}
use Rattle.meaning.proofs.Tests.{by-test}
use Rattle.meaning.proofs.Units.{Good, Whole, read-many, read-written, read-holds}
use Rattle.vbyte.proofs.Sevens.{number-vbyte, number-back, vbyte-small, vbyte-most}
use Rattle.vbyte.proofs.Steps.{led}

-- ---- the unit: one number, which is the body's at that offset
record One (body : List ℕ) (at : ℕ) (u : Position × List ℕ) : Type 0 where
  pub number : ℕ
  pub size : ℕ
  pub is : u ≡ (at_byte (at + size), number ∷ [])
  pub read : vbyte_in (drop at body) ≡ given (number, size)

one : (body : List ℕ) (left : ℕ) (p : Position) (u : Position × List ℕ) → unit_vbyte body left p ≡ given u → One body p.head.byte u
unfolding unit_vbyte
one body left p u e =
    let (t, en, eu) = bind-given (vbyte_in (drop p.head.byte body)) _ u e in
    record { number = t.0; size = t.1; is = cc; read = en }

good : (body : List ℕ) → Good (unit_vbyte body)
good body =
    record {
      some = λ left p u h e. rw (one body left p u e).is (omega arith);
      few = λ left p u h e. rw (one body left p u e).is (omega arith);
    }

-- ---- bytes added behind a number: where it is not cut short it is the same, and takes no more bytes than were there
abbrev Within : List ℕ → ℕ × ℕ → Type 0
Within bs t = t.1 ≤ length bs

last-lasts : (b : ℕ) (bs : List ℕ)
    → Lasts (Within (b ∷ bs)) (need (not (eqb b 0)) broken (given (b, 1))) (need (not (eqb b 0)) broken (given (b, 1)))
last-lasts b bs = lasts-rule (not (eqb b 0)) _ _ (λ h. lasts-given (b, 1) (omega arith))

-- a byte that ends the number by `end`, or one that more follow
more-lasts : (b : ℕ) (bs : List ℕ) (end m n : Answer (ℕ × ℕ)) → Lasts (Within (b ∷ bs)) end end → Lasts (Within bs) m n
    → Lasts (Within (b ∷ bs)) (cond (ltb b 128) end (bind m (led b))) (cond (ltb b 128) end (bind n (led b)))
more-lasts b bs end m n l r =
    by-test (ltb b 128) (λ e. rw e l)
    (λ e. rw e (lasts-bind m n (led b) (led b) r (λ t g h. lasts-given (b - 128 + 128 * t.0, 1 + t.1) (omega arith))))

later-lasts : (k : ℕ) (bs more : List ℕ) → Lasts (Within bs) (later_in k bs) (later_in k (bs ++ more))
unfolding later_in
later-lasts k [] more = cut refl
later-lasts zero (b ∷ bs) more = lasts-rule (leb b 15) _ _ (λ h. last-lasts b bs)
later-lasts (suc k) (b ∷ bs) more = more-lasts b bs _ (later_in k bs) (later_in k (bs ++ more)) (last-lasts b bs) (later-lasts k bs more)

number-lasts : (bs more : List ℕ) → Lasts (Within bs) (vbyte_in bs) (vbyte_in (bs ++ more))
unfolding vbyte_in
number-lasts [] more = cut refl
number-lasts (b ∷ bs) more =
    more-lasts b bs (given (b, 1)) (later_in 3 bs) (later_in 3 (bs ++ more)) (lasts-given (b, 1) (omega arith)) (later-lasts 3 bs more)

units : (body more : List ℕ) (left : ℕ) (p : Position)
    → Lasts (λ u. byte_inside body p ≡ true → byte_inside body u.0 ≡ true) (unit_vbyte body left p) (unit_vbyte (body ++ more) left p)
unfolding unit_vbyte
units body more left p =
    let at = p.head.byte in
    let (added, e) = drop-longer at body more in
    rw e
    (lasts-bind (vbyte_in (drop at body)) (vbyte_in (drop at body ++ added)) _ _ (number-lasts (drop at body) added)
    (λ t g l. lasts-given (at_byte (at + t.1), t.0 ∷ [])
    (λ i. le-leb (at + t.1) (length body) (omega (arith, length-drop at body, leb-true at (length body) i)))))

-- ---- whole bodies: the body holds xs from an offset on, and no more
record Holds (body : List ℕ) (at : ℕ) (xs : List ℕ) : Type 0 where
  pub inside : at ≤ length body
  pub bytes : drop at body ≡ joined vbyte xs
  pub small : Below number_limit xs

abbrev HoldsAt : List ℕ → List ℕ → Position → List ℕ → Type 0
HoldsAt body before p xs = Holds body p.head.byte xs

ends : (body : List ℕ) (at : ℕ) → Holds body at [] → eqb at (length body) ≡ true
unfolding joined
ends body at h = let l = sym (length-drop at body) ∙ ap length h.bytes in eq-eqb at (length body) (omega (arith, h.inside))

ended : (body : List ℕ) (at : ℕ) → eqb at (length body) ≡ true → Holds body at []
unfolding joined
ended body at e =
    let q = eqb-true at (length body) e in
    record { inside = omega arith; bytes = drop_of_length-le body {i = at} (omega arith); small = below-nil number_limit (omega arith) }

heads : (body before : List ℕ) (p : Position) (x : ℕ) (xs : List ℕ) → HoldsAt body before p (x ∷ xs)
    → (u : Position × List ℕ) × (unit_vbyte body (suc (length xs)) p ≡ given u) × (always before u.1 ≡ true)
    × ((zs : List ℕ) × (u.1 ++ zs ≡ x ∷ xs) × HoldsAt body u.1 u.0 zs)
unfolding unit_vbyte joined
heads body before p x xs h =
    let at = p.head.byte in
    let n = length (vbyte x) in
    let l : n + length (joined vbyte xs) ≡ length body - at =
    sym (length-append (vbyte x) (joined vbyte xs)) ∙ sym (ap length h.bytes) ∙ length-drop at body in (
      (at_byte (at + n), x ∷ []),
      rw (h.bytes, number-vbyte x (joined vbyte xs) (h.small 0)),
      refl,
      (
        xs,
        refl,
        record {
          inside = omega (arith, h.inside);
          bytes = sym (drop-drop n at body) ∙ rw h.bytes (drop-append_seam (vbyte x) (joined vbyte xs));
          small = λ i. h.small (suc i);
        },
      ),
    )

headed : (body : List ℕ) → Below 256 body → (n : ℕ) (p : Position) (u : Position × List ℕ) (zs : List ℕ) → unit_vbyte body (suc n) p ≡ given u
    → Holds body u.0.head.byte zs → Holds body p.head.byte (u.1 ++ zs)
unfolding joined vbyte
headed body b n p u zs e h =
    let at = p.head.byte in
    let o = one body (suc n) p u e in
    let x = o.number in
    let k = o.size in
    let back = number-back (drop at body) (x, k) (below-drop 256 at body b) o.read in
    let h' : Holds body (at + k) zs = subst (λ (v : Position × List ℕ). Holds body v.0.head.byte zs) o.is h in
    subst (λ (v : Position × List ℕ). Holds body at (v.1 ++ zs)) (sym o.is)
    (record {
      inside = omega (arith, h'.inside);
      bytes = back.is ∙ ap (λ (l : List ℕ). vbyte x ++ l) (drop-drop k at body ∙ h'.bytes);
      small = below-cons number_limit x zs back.small h'.small;
    })

whole : (body : List ℕ) → Below 256 body → Whole (unit_vbyte body) always (to_last body) (HoldsAt body)
whole body b =
    record {
      ends = λ before p h. ends body p.head.byte h;
      heads = heads body;
      ended = λ before p e. ended body p.head.byte e;
      headed = λ n before p u zs e j l h. headed body b n p u zs e h;
    }

-- ---- the laws
bytes : (xs : List ℕ) → Below number_limit xs → Below 256 (joined vbyte xs)
unfolding joined
bytes [] h = below-nil 256 (omega arith)
bytes (x ∷ xs) h = below-append 256 (vbyte x) (joined vbyte xs) (vbyte-small x (h 0)) (bytes xs (λ j. h (suc j)))

pub most : (xs : List ℕ) → length (joined vbyte xs) ≤ 5 * length xs
unfolding joined
most [] = omega arith
most (x ∷ xs) = simp length-append (omega (arith, vbyte-most x, most xs))

forth : (xs : List ℕ) → Below number_limit xs → read_code code_vbyte (joined vbyte xs) (length xs) ≡ given xs
unfolding read_code
forth xs h =
    let body = joined vbyte xs in
    read-written (unit_vbyte body) always (to_last body) (good body) (HoldsAt body) (whole body (bytes xs h)) [] (at_byte 0) xs
    (record { inside = omega arith; bytes = refl; small = h })

back : (body : List ℕ) (n : ℕ) (xs : List ℕ) → Below 256 body → read_code code_vbyte body n ≡ given xs → Read code_vbyte body n xs
unfolding read_code
back body n xs b e =
    let h = read-holds (unit_vbyte body) always (to_last body) (good body) (HoldsAt body) (whole body b) n [] (at_byte 0) xs e in
    record {
      bytes = sym h.bytes;
      many = read-many (unit_vbyte body) always (to_last body) (good body) n [] (at_byte 0) xs e;
      small = h.small;
    }

pub lawful : Lawful code_vbyte
lawful =
    record {
      good = λ body b. good body;
      inside = byte_inside;
      starts = first-lasts;
      units = units;
      over = left_over;
      fresh = spare-always [];
      forth = λ xs few h. forth xs h;
      back = back;
      most = λ xs h. most xs;
      bytes = bytes;
      grows = λ k n h. omega arith;
      nine = λ n. omega arith;
      looked = tt;
    }
