-- A body of code 8 that holds a list from a data byte on, and no more: one number, none, and the unit's answers. Assumes nothing.
use Prim.Native.Nat.{ℕ, zero, suc, ◌+◌, ◌-◌, ◌≤◌, ◌<◌}
use mathlib.Core.Path.{◌≡◌, refl, sym, ap, ◌∙◌, subst}
use mathlib.Core.Bool.{true}
use mathlib.Core.List.{List, [], ◌∷◌, ◌++◌, append-nil}
use native.Mathlib.Nat.{add_assoc, add-zero}
use native.Mathlib.Omega.{arith}
use lib.Dec.{leb, eqb}
use lib.ListN.{length, take, drop, replicate, length-append, length-drop, drop_of_length-le, take-append-drop}
use lib.Seq.{take_at, drop_at, drop-drop, length-take-le}
use borrow.Author.Tests.{eq-eqb, eqb-true, le-leb, leb-true}
use Rattle.meaning.specs.Answer.{given}
use Rattle.meaning.specs.Bits.{low_bits, zeros_first}
use Rattle.meaning.specs.Bytes.{number_of, word_at}
use Rattle.meaning.specs.Codes.{always}
use Rattle.meaning.specs.DataBytes.{byte_length, fewest, data_bytes, data_in}
use Rattle.meaning.specs.Direct.{flag_bytes, sum_count, sums_at, data_at, last_bits, parts_fit, flags, number_in}
use Rattle.meaning.specs.Direct.{unit_direct, true_sums, spare_zero, done_direct}
use Rattle.meaning.specs.Limits.{cut_short, broken, number_limit}
use Rattle.meaning.specs.Lists.{sum, joined}
use Rattle.meaning.specs.Places.{Below}
use Rattle.meaning.specs.Positions.{at_bit}
use Rattle.meaning.specs.declared.Position.{Position}
use Rattle.meaning.proofs.Answers.{Faulty, a-break, bind-given, need-given, need-faulty}
use Rattle.meaning.proofs.Bounds.{below-nil, below-cons, below-take, below-drop}
use Rattle.meaning.proofs.Tests.{both_true}
use Rattle.meaning.proofs.Units.{Good, Whole}
use Rattle.words.proofs.DataBytes.{held, few-length, few-number, data-cons, data-back}
use Rattle.words.proofs.LowBits.{low-length, low_below}
use Rattle.direct.proofs.Lengths.{last-length, last-first, flags-cons}

-- ---- a body whose parts fit
module _ (body : List ℕ) (fit : parts_fit body ≡ true) where
  pub body-headed : 4 ≤ length body
  unfolding parts_fit
  body-headed = leb-true 4 (length body) (both_true (leb 4 (length body)) _ fit).0

  pub body-fits : data_at (word_at body 0) + word_at body 0 ≤ length body
  unfolding parts_fit
  body-fits =
      leb-true (data_at (word_at body 0) + word_at body 0) (length body)
      (both_true (leb 4 (length body)) (leb (data_at (word_at body 0) + word_at body 0) (length body)) fit).1

  -- a bit for each data byte
  pub body-flags : length (flags body) ≡ word_at body 0
  unfolding flags data_at sums_at flag_bytes
  body-flags =
      length-take-le (word_at body 0) (low_bits (drop 4 body)) (omega (arith, body-fits, low-length (drop 4 body), length-drop 4 body))

pub body_below : (body : List ℕ) → Below 2 (flags body)
unfolding flags
body_below body = below-take 2 (word_at body 0) (low_bits (drop 4 body)) (low_below (drop 4 body))

-- ---- the unit: one number, in the data bytes through the first whose bit is 1
abbrev pub size_at : List ℕ → ℕ → ℕ
size_at body i = suc (zeros_first (drop i (flags body)))

pub record One (body : List ℕ) (i : ℕ) (u : Position × List ℕ) : Type 0 where
  pub number : ℕ
  pub fit : parts_fit body ≡ true
  pub inside : i + size_at body i ≤ word_at body 0
  pub is : u ≡ (at_bit (i + size_at body i), number ∷ [])
  pub read : number_in body i (size_at body i) ≡ given number

pub one : (body : List ℕ) (left : ℕ) (p : Position) (u : Position × List ℕ) → unit_direct body left p ≡ given u → One body p.bit.index u
unfolding unit_direct
one body left p u e =
    let i = p.bit.index in
    let l = size_at body i in
    let (fit, e₁) = need-given (parts_fit body) cut_short _ u e in
    let (fits, e₂) = need-given (leb (i + l) (word_at body 0)) broken _ u e₁ in
    let (x, ex, eu) = bind-given (number_in body i l) _ u e₂ in
    record { number = x; fit = fit; inside = leb-true (i + l) (word_at body 0) fits; is = cc; read = ex }

pub good : (body : List ℕ) → Good (unit_direct body)
good body =
    record {
      some = λ left p u h e. rw (one body left p u e).is (omega arith);
      few = λ left p u h e. rw (one body left p u e).is (omega arith);
    }

pub number-faulty : (body : List ℕ) (i l : ℕ) → Faulty (number_in body i l)
unfolding number_in
number-faulty body i l = need-faulty (leb l 4) broken _ a-break (need-faulty (eqb (byte_length _) l) broken _ a-break tt)

-- ---- a number in data bytes, written and read
pub number-there : (body : List ℕ) (i x : ℕ) (rest : List ℕ) → drop (data_at (word_at body 0) + i) body ≡ fewest x ++ rest → x < number_limit
    → number_in body i (byte_length x) ≡ given x
unfolding number_in
number-there body i x rest e small =
    let is : number_of (take (byte_length x) (drop (data_at (word_at body 0) + i) body)) ≡ x =
    ap (λ (l : List ℕ). number_of (take (byte_length x) l)) e ∙ ap number_of (take_at (fewest x) rest (byte_length x) (few-length x)) ∙ few-number x small in
    rw (is, le-leb (byte_length x) 4 (held x).most, eq-eqb (byte_length x) (byte_length x) refl)

-- a number that was read from so many data bytes has as many
pub record Numbered (body : List ℕ) (i l x : ℕ) : Type 0 where
  pub size : byte_length x ≡ l
  pub is : take l (drop (data_at (word_at body 0) + i) body) ≡ fewest x
  pub small : x < number_limit

pub numbered : (body : List ℕ) (i l x : ℕ) → Below 256 body → data_at (word_at body 0) + i + l ≤ length body → number_in body i l ≡ given x
    → Numbered body i l x
unfolding number_in data_in sum data_bytes joined
numbered body i l x b h e =
    let bytes = drop (data_at (word_at body 0) + i) body in
    let y = number_of (take l bytes) in
    let (few, e₁) = need-given (leb l 4) broken _ x e in
    let (size, e₂) = need-given (eqb (byte_length y) l) broken (given y) x e₁ in
    let same : y ≡ x = cc in
    let one-data : data_in (l ∷ []) bytes ≡ given (y ∷ []) = rw size in
    let t = data-back (l ∷ []) bytes (y ∷ []) (below-drop 256 (data_at (word_at body 0) + i) body b)
    (omega (arith, length-drop (data_at (word_at body 0) + i) body)) one-data in
    subst (Numbered body i l) same
    (record {
      size = eqb-true (byte_length y) l size;
      is = ap (λ (k : ℕ). take k bytes) (sym (add-zero l)) ∙ t.is ∙ append-nil (fewest y);
      small = t.small 0;
    })

-- ---- zeros and the first one after them
first_one : (bits : List ℕ) → Below 2 bits → zeros_first bits < length bits → take (suc (zeros_first bits)) bits ≡ replicate (zeros_first bits) 0 ++ (1 ∷ [])
unfolding zeros_first
first_one [] b h = absurd (omega arith)
first_one (zero ∷ bits) b h = ap (λ (l : List ℕ). 0 ∷ l) (first_one bits (λ i. b (suc i)) (omega arith))
first_one (suc c ∷ bits) b h = let z : c ≡ 0 = omega (arith, b 0) in rw z

-- ---- whole bodies
-- what does not depend on a position: the parts are all of the body, spare bits are 0, and every sum is true
pub record Closed (body : List ℕ) : Type 0 where
  pub fit : parts_fit body ≡ true
  pub whole : data_at (word_at body 0) + word_at body 0 ≡ length body
  pub spare : spare_zero body ≡ true
  pub sums : true_sums (sum_count (word_at body 0)) body ≡ true

-- the body holds xs from data byte i on
pub record Holds (body : List ℕ) (i : ℕ) (xs : List ℕ) : Type 0 where
  pub closed : Closed body
  pub inside : i ≤ word_at body 0
  pub bits : drop i (flags body) ≡ joined last_bits xs
  pub bytes : drop (data_at (word_at body 0) + i) body ≡ data_bytes xs
  pub small : Below number_limit xs

abbrev pub HoldsAt : List ℕ → List ℕ → Position → List ℕ → Type 0
HoldsAt body before p xs = Holds body p.bit.index xs

ends : (body : List ℕ) (p : Position) → Holds body p.bit.index [] → done_direct body p ≡ true
unfolding done_direct joined
ends body p h =
    let d = word_at body 0 in
    let n = sym (length-drop p.bit.index (flags body)) ∙ ap length h.bits in
    let at : p.bit.index ≡ d = omega (arith, h.inside, body-flags body h.closed.fit) in
    rw (h.closed.fit, eq-eqb p.bit.index d at, eq-eqb (data_at d + d) (length body) h.closed.whole, h.closed.spare, h.closed.sums)

pub ended : (body : List ℕ) (p : Position) → done_direct body p ≡ true → Holds body p.bit.index []
unfolding done_direct joined data_bytes
ended body p e =
    let d = word_at body 0 in
    let i = p.bit.index in
    let (fit, e₁) = both_true (parts_fit body) _ e in
    let (at, e₂) = both_true (eqb i d) _ e₁ in
    let (whole, e₃) = both_true (eqb (data_at d + d) (length body)) _ e₂ in
    let (spare, sums) = both_true (spare_zero body) (true_sums (sum_count d) body) e₃ in
    let at' = eqb-true i d at in
    let whole' = eqb-true (data_at d + d) (length body) whole in
    record {
      closed = record { fit = fit; whole = whole'; spare = spare; sums = sums };
      inside = omega arith;
      bits = drop_of_length-le (flags body) {i = i} (omega (arith, body-flags body fit));
      bytes = drop_of_length-le body {i = data_at d + i} (omega arith);
      small = below-nil number_limit (omega arith);
    }

heads : (body before : List ℕ) (p : Position) (x : ℕ) (xs : List ℕ) → HoldsAt body before p (x ∷ xs)
    → (u : Position × List ℕ) × (unit_direct body (suc (length xs)) p ≡ given u) × (always before u.1 ≡ true)
    × ((zs : List ℕ) × (u.1 ++ zs ≡ x ∷ xs) × HoldsAt body u.1 u.0 zs)
unfolding unit_direct
heads body before p x xs h =
    let d = word_at body 0 in
    let i = p.bit.index in
    let l = byte_length x in
    let bits : drop i (flags body) ≡ last_bits x ++ joined last_bits xs = h.bits ∙ flags-cons x xs in
    let bytes : drop (data_at d + i) body ≡ fewest x ++ data_bytes xs = h.bytes ∙ data-cons x xs in
    let size : size_at body i ≡ l = ap (λ (b : List ℕ). suc (zeros_first b)) bits ∙ omega (arith, last-first x (joined last_bits xs), (held x).least) in
    let many = sym (length-drop i (flags body)) ∙ ap length bits ∙ length-append (last_bits x) (joined last_bits xs) in
    let fits : i + l ≤ d = omega (arith, h.inside, last-length x, body-flags body h.closed.fit) in (
      (at_bit (i + l), x ∷ []),
      rw (h.closed.fit, size, le-leb (i + l) d fits, number-there body i x (data_bytes xs) bytes (h.small 0)),
      refl,
      (
        xs,
        refl,
        record {
          closed = h.closed;
          inside = fits;
          bits = sym (drop-drop l i (flags body)) ∙ ap (drop l) bits ∙ drop_at (last_bits x) (joined last_bits xs) l (last-length x);
          bytes =
              ap (λ (k : ℕ). drop k body) (sym (add_assoc (data_at d) i l)) ∙ sym (drop-drop l (data_at d + i) body) ∙ ap (drop l) bytes
              ∙ drop_at (fewest x) (data_bytes xs) l (few-length x);
          small = λ j. h.small (suc j);
        },
      ),
    )

headed : (body : List ℕ) → Below 256 body → (n : ℕ) (p : Position) (u : Position × List ℕ) (zs : List ℕ) → unit_direct body (suc n) p ≡ given u
    → Holds body u.0.bit.index zs → Holds body p.bit.index (u.1 ++ zs)
unfolding last_bits
headed body b n p u zs e h =
    let d = word_at body 0 in
    let i = p.bit.index in
    let l = size_at body i in
    let o = one body (suc n) p u e in
    let x = o.number in
    let r = drop i (flags body) in
    let t = numbered body i l x b (omega (arith, o.inside, body-fits body o.fit)) o.read in
    let many = length-drop i (flags body) in
    let zeros : byte_length x - 1 ≡ zeros_first r = omega (arith, t.size) in
    let first : take l r ≡ last_bits x =
    first_one r (below-drop 2 i (flags body) (body_below body)) (omega (arith, o.inside, body-flags body o.fit))
    ∙ ap (λ (k : ℕ). replicate k 0 ++ (1 ∷ [])) (sym zeros) in
    let h' : Holds body (i + l) zs = subst (λ (v : Position × List ℕ). Holds body v.0.bit.index zs) o.is h in
    subst (λ (v : Position × List ℕ). Holds body i (v.1 ++ zs)) (sym o.is)
    (record {
      closed = h'.closed;
      inside = omega (arith, o.inside);
      bits =
          sym (take-append-drop l r) ∙ ap (λ (a : List ℕ). a ++ drop l r) first
          ∙ ap (λ (a : List ℕ). last_bits x ++ a) (drop-drop l i (flags body) ∙ h'.bits)
          ∙ sym (flags-cons x zs);
      bytes =
          sym (take-append-drop l (drop (data_at d + i) body))
          ∙ ap (λ (a : List ℕ). a ++ drop l (drop (data_at d + i) body)) t.is
          ∙ ap (λ (a : List ℕ). fewest x ++ a) (drop-drop l (data_at d + i) body ∙ ap (λ (k : ℕ). drop k body) (add_assoc (data_at d) i l) ∙ h'.bytes)
          ∙ sym (data-cons x zs);
      small = below-cons number_limit x zs t.small h'.small;
    })

pub whole : (body : List ℕ) → Below 256 body → Whole (unit_direct body) always (done_direct body) (HoldsAt body)
whole body b =
    record {
      ends = λ before p h. ends body p h;
      heads = heads body;
      ended = λ before p e. ended body p e;
      headed = λ n before p u zs e j l h. headed body b n p u zs e h;
    }
