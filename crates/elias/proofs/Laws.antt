-- Gamma and delta are lawful: what is proved here once is proved of any codewords that are told apart from what follows them. Assumes nothing.
use Prim.Native.Nat.{ℕ, suc, ◌+◌, ◌-◌, ◌*◌, ◌/◌, ◌≤◌, ◌<◌}
use mathlib.Core.Path.{◌≡◌, refl, sym, ap, ◌∙◌, subst}
use mathlib.Core.Bool.{Bool, true, false}
use mathlib.Core.List.{List, [], ◌∷◌, ◌++◌, append_assoc}
use native.Mathlib.Nat.{mul-suc, mul-le-mul_left, mul-le-mul_right}
use native.Mathlib.Omega.{arith}
use borrow.Author.Tests.{lt-ltb, le-leb, ltb-true, leb-true}
use lib.Dec.{leb, ltb, eqb}
use lib.ListN.{length, drop, replicate, length-append, length-replicate}
use lib.Seq.{drop-append_seam, drop-drop}
use Rattle.meaning.specs.Answer.{Answer, given}
use Rattle.meaning.specs.Bits.{bits_high, bits_of, pack}
use Rattle.meaning.specs.Codes.{Code, by_units, code_gamma, code_delta, read_code, always}
use Rattle.meaning.specs.Elias.{gamma_bits, delta_bits, write_gamma, write_delta, gamma_word, delta_word, unit_elias, done_elias}
use Rattle.meaning.specs.Limits.{number_limit}
use Rattle.meaning.specs.Lists.{all, joined}
use Rattle.meaning.specs.Places.{Below}
use Rattle.meaning.specs.Positions.{at_bit}
use Rattle.meaning.specs.declared.Position.{Position}
use Rattle.meaning.proofs.Answers.{bind-given}
use Rattle.meaning.proofs.Bounds.{below-nil, below-cons, below-append, below-drop}
use Rattle.meaning.proofs.Codes.{spare-always}
use Rattle.meaning.proofs.Lasting.{Lasts, lasts-given, lasts-bind, drop-longer}
use Rattle.meaning.proofs.Lawful.{Lawful, Read}
use Rattle.meaning.proofs.Tests.{both_true, true-both}
use Rattle.meaning.proofs.Units.{Good, Whole, read-many, read-written, read-holds}
use Rattle.leaves.proofs.Joined.{joined-append, all-zeros, zeros-all}
use Rattle.elias.proofs.Delta.{word-delta}
use Rattle.elias.proofs.Gamma.{word-gamma}
use Rattle.elias.proofs.Pack.{bits_left, bits_below, pack-length, pack-below, pack-bits, packed, spare}
use Rattle.elias.proofs.Codewords.{Word, Taken}
use Rattle.elias.proofs.Seen.{seen_more}

-- the codewords of a list
abbrev pub words : (ℕ → List ℕ) → List ℕ → List ℕ
words bits xs = joined (λ x. bits (x + 1)) xs

-- the body holds xs from a bit on, and fewer than eight spare bits, which are 0
record Holds (bits : ℕ → List ℕ) (body : List ℕ) (at : ℕ) (xs : List ℕ) : Type 0 where
  pub spared : ℕ
  pub few : spared < 8
  pub are : drop at (bits_of body) ≡ words bits xs ++ replicate spared 0
  pub small : Below number_limit xs

abbrev HoldsAt : (ℕ → List ℕ) → List ℕ → List ℕ → Position → List ℕ → Type 0
HoldsAt bits body before p xs = Holds bits body p.bit.index xs

-- the unit: a codeword
pub record One (word : List ℕ → Answer (ℕ × ℕ)) (body : List ℕ) (at : ℕ) (u : Position × List ℕ) : Type 0 where
  pub value : ℕ
  pub size : ℕ
  pub is : u ≡ (at_bit (at + size), (value - 1) ∷ [])
  pub read : word (drop at (bits_of body)) ≡ given (value, size)

-- ---- bytes added behind a body
-- the bits from a bit on, also past the end, are the same and more
bits-added : (at : ℕ) (body more : List ℕ) → (r : List ℕ) × (drop at (bits_of (body ++ more)) ≡ drop at (bits_of body) ++ r)
unfolding bits_of
bits-added at body more =
    let (r, e) = drop-longer at (bits_of body) (bits_of more) in
    (r, ap (drop at) (joined-append (bits_high 8) body more) ∙ e)

-- a codeword that ends there lies within the body
abbrev inside : List ℕ → Position → Bool
inside body p = leb p.bit.index (8 * length body)

over : (body : List ℕ) (b : ℕ) (more : List ℕ) (p : Position) → inside body p ≡ true → done_elias (body ++ (b ∷ more)) p ≡ false
over body b more p h =
    let at = p.bit.index in
    let here : at ≤ 8 * length body = leb-true at (8 * length body) h in
    sym (seen_more (body ++ (b ∷ more)) p (omega (arith, bits_left at (body ++ (b ∷ more)), length-append body (b ∷ more))))

module _ (m : ℕ) (bits : ℕ → List ℕ) (word : List ℕ → Answer (ℕ × ℕ)) (w : Word m bits word) where
  one : (body : List ℕ) (left : ℕ) (p : Position) (u : Position × List ℕ) → unit_elias word body left p ≡ given u → One word body p.bit.index u
  unfolding unit_elias
  one body left p u e =
      let (t, en, eu) = bind-given (word (drop p.bit.index (bits_of body))) _ u e in
      record { value = t.0; size = t.1; is = cc; read = en }

  pub good : (body : List ℕ) → Good (unit_elias word body)
  good body =
      record {
        some = λ left p u h e. rw (one body left p u e).is (omega arith);
        few = λ left p u h e. rw (one body left p u e).is (omega arith);
      }

  -- ---- whole bodies
  ends : (body : List ℕ) (p : Position) → Holds bits body p.bit.index [] → done_elias body p ≡ true
  unfolding done_elias joined
  ends body p h =
      rw h.are (true-both (ltb (length (replicate h.spared 0)) 8) (all (eqb 0) (replicate h.spared 0))
      (lt-ltb (length (replicate h.spared 0)) 8 (omega (arith, length-replicate {A = ℕ} h.spared 0, h.few))) (all-zeros h.spared))

  ended : (body : List ℕ) (p : Position) → done_elias body p ≡ true → Holds bits body p.bit.index []
  unfolding done_elias joined
  ended body p e =
      let l = drop p.bit.index (bits_of body) in
      let (q, r) = both_true (ltb (length l) 8) (all (eqb 0) l) e in
      record { spared = length l; few = ltb-true (length l) 8 q; are = zeros-all l r; small = below-nil number_limit (omega arith) }

  heads : (body before : List ℕ) (p : Position) (x : ℕ) (xs : List ℕ) → HoldsAt bits body before p (x ∷ xs)
      → (u : Position × List ℕ) × (unit_elias word body (suc (length xs)) p ≡ given u) × (always before u.1 ≡ true)
      × ((zs : List ℕ) × (u.1 ++ zs ≡ x ∷ xs) × HoldsAt bits body u.1 u.0 zs)
  unfolding unit_elias joined
  heads body before p x xs h =
      let at = p.bit.index in
      let g = bits (x + 1) in
      let r = words bits xs ++ replicate h.spared 0 in
      let are : drop at (bits_of body) ≡ g ++ r = h.are ∙ append_assoc g (words bits xs) (replicate h.spared 0) in
      let less : x + 1 - 1 ≡ x = omega arith in (
        (at_bit (at + length g), x ∷ []),
        rw (are, w.forth (x + 1) r (omega arith) (omega (arith, h.small 0)), less),
        refl,
        (
          xs,
          refl,
          record {
            spared = h.spared;
            few = h.few;
            are = sym (drop-drop (length g) at (bits_of body)) ∙ ap (drop (length g)) are ∙ drop-append_seam g r;
            small = λ i. h.small (suc i);
          },
        ),
      )

  headed : (body : List ℕ) (n : ℕ) (p : Position) (u : Position × List ℕ) (zs : List ℕ) → unit_elias word body (suc n) p ≡ given u
      → Holds bits body u.0.bit.index zs → Holds bits body p.bit.index (u.1 ++ zs)
  unfolding joined
  headed body n p u zs e h =
      let at = p.bit.index in
      let o = one body (suc n) p u e in
      let v = o.value in
      let k = o.size in
      let back = w.back (drop at (bits_of body)) (v, k) (below-drop 2 at (bits_of body) (bits_below body)) o.read in
      let h' : Holds bits body (at + k) zs = subst (λ (y : Position × List ℕ). Holds bits body y.0.bit.index zs) o.is h in
      let more : v - 1 + 1 ≡ v = omega (arith, back.some) in
      subst (λ (y : Position × List ℕ). Holds bits body at (y.1 ++ zs)) (sym o.is)
      (record {
        spared = h'.spared;
        few = h'.few;
        are = back.is ∙ ap (λ (l : List ℕ). bits v ++ l) (drop-drop k at (bits_of body) ∙ h'.are)
            ∙ sym (append_assoc (bits v) (words bits zs) (replicate h'.spared 0))
            ∙ ap (λ (x : ℕ). (bits x ++ words bits zs) ++ replicate h'.spared 0) (sym more);
        small = below-cons number_limit (v - 1) zs (omega (arith, back.some, back.few)) h'.small;
      })

  whole : (body : List ℕ) → Whole (unit_elias word body) always (done_elias body) (HoldsAt bits body)
  whole body =
      record {
        ends = λ before p h. ends body p h;
        heads = heads body;
        ended = λ before p e. ended body p e;
        headed = λ n before p u zs e j l h. headed body n p u zs e h;
      }

  -- ---- the laws
  words-bits : (xs : List ℕ) → Below 2 (words bits xs)
  unfolding joined
  words-bits [] = below-nil 2 (omega arith)
  words-bits (x ∷ xs) = below-append 2 (bits (x + 1)) (words bits xs) (w.small (x + 1)) (words-bits xs)

  words-most : (xs : List ℕ) → Below number_limit xs → length (words bits xs) ≤ m * length xs
  unfolding joined
  words-most [] h = omega arith
  words-most (x ∷ xs) h =
      simp (length-append, mul-suc) (omega (arith, w.most (x + 1) (omega arith) (omega (arith, h 0)), words-most xs (λ i. h (suc i))))

  most : (xs : List ℕ) → Below number_limit xs → length (pack (words bits xs)) ≤ (m * length xs + 7) / 8
  most xs h = omega (arith, pack-length (words bits xs), words-most xs h)

  bytes : (xs : List ℕ) → Below 256 (pack (words bits xs))
  bytes xs = pack-below (words bits xs) (words-bits xs)

  -- the code of these codewords
  abbrev code : Code
  code =
      record {
        write = λ xs. pack (words bits xs);
        worst = λ n. (m * n + 7) / 8;
        start = λ body n. given (at_bit 0);
        unit = unit_elias word;
        joins = always;
        done = done_elias;
        way = by_units;
      }

  forth : (xs : List ℕ) → Below number_limit xs → read_code code (pack (words bits xs)) (length xs) ≡ given xs
  unfolding read_code
  forth xs h =
      let body = pack (words bits xs) in
      read-written (unit_elias word body) always (done_elias body) (good body) (HoldsAt bits body) (whole body) [] (at_bit 0) xs
      (record { spared = spare (words bits xs); few = omega arith; are = pack-bits (words bits xs) (words-bits xs); small = h })

  back : (body : List ℕ) (n : ℕ) (xs : List ℕ) → Below 256 body → read_code code body n ≡ given xs → Read code body n xs
  unfolding read_code
  back body n xs b e =
      let h = read-holds (unit_elias word body) always (done_elias body) (good body) (HoldsAt bits body) (whole body) n [] (at_bit 0) xs e in
      record {
        bytes = packed body (words bits xs) h.spared b h.few h.are;
        many = read-many (unit_elias word body) always (done_elias body) (good body) n [] (at_bit 0) xs e;
        small = h.small;
      }

  units : (body more : List ℕ) (left : ℕ) (p : Position)
      → Lasts (λ u. inside body p ≡ true → inside body u.0 ≡ true) (unit_elias word body left p) (unit_elias word (body ++ more) left p)
  unfolding unit_elias
  units body more left p =
      let at = p.bit.index in
      let l = drop at (bits_of body) in
      let (r, e) = bits-added at body more in
      lasts-bind (word l) (word (drop at (bits_of (body ++ more)))) _ _
      (subst (λ (longer : List ℕ). Lasts (Taken l) (word l) (word longer)) (sym e) (w.lasts l r))
      (λ t f h. lasts-given _ (λ i. le-leb (at + t.1) (8 * length body) (omega (arith, h, bits_left at body))))

  lawful : m ≤ 65 → Lawful code
  lawful few =
      record {
        good = λ body b. good body;
        inside = inside;
        starts = λ body more n. lasts-given (at_bit 0) (le-leb 0 (8 * length body) (omega arith));
        units = units;
        over = over;
        fresh = spare-always [];
        forth = λ xs short h. forth xs h;
        back = back;
        most = most;
        bytes = λ xs h. bytes xs;
        grows = λ k n h. omega (arith, mul-le-mul_left m h);
        nine = λ n. omega (arith, mul-le-mul_right n few);
        looked = tt;
      }

pub lawful-gamma : Lawful code_gamma
unfolding write_gamma
lawful-gamma = lawful 65 gamma_bits gamma_word word-gamma (omega arith)

pub lawful-delta : Lawful code_delta
unfolding write_delta
lawful-delta = lawful 43 delta_bits delta_word word-delta (omega arith)
