-- The numbers of a block, one after another. Assumes nothing.
use Prim.Native.Nat.{ℕ, ◌+◌, ◌-◌, ◌*◌, ◌/◌, ◌^◌, ◌≤◌, ◌<◌}
use mathlib.Core.Path.{◌≡◌, refl, sym, ap, ap₂, ◌∙◌}
use mathlib.Core.Bool.{Bool, true, false}
use mathlib.Core.List.{List, [], ◌∷◌, ◌++◌, append_assoc, append-nil}
use native.Mathlib.Omega.{arith}
use Rattle.std.specs.Prelude.{Some, None}
use lib.Bits.{bit_and}
use lib.Count.{count_trailing_zeros}
use lib.Dec.{eqb}
use lib.ListN.{length, get_or, take, drop, set, length-append, length-drop}
use lib.Pow.{shr-shr, shr_le}
use lib.Seq.{sets, drop-drop, length-sets}
use borrow.Author.Tests.{eq-eqb, ne_eqb}
use Rattle.meaning.specs.Answer.{Answer, given, refused, need}
use Rattle.meaning.specs.Bytes.{number_of}
use Rattle.meaning.specs.DataBytes.{byte_length, data_in}
use Rattle.meaning.specs.Limits.{broken}
use Rattle.meaning.specs.Lists.{all, sum}
use Rattle.meaning.specs.Places.{Below}
use Rattle.meaning.specs.declared.Place.{Place}
use Rattle.meaning.proofs.Answers.{need-refused}
use Rattle.meaning.proofs.Bounds.{below-take, below-drop}
use Rattle.meaning.proofs.Stores.{sets-snoc}
use Rattle.meaning.proofs.Units.{join}
use Rattle.leaves.proofs.Parts.{part_length}
use Rattle.words.proofs.Bytes.{number-high}
use Rattle.g8iu.specs.Blocks.{numbers_in, data_at, numbers_at, or_fault, end_of, Ending, BegunIs}
use Rattle.g8iu.proofs.Ends.{lengths_of, FirstIs, first-is, lengths-start, lengths_none}
use Rattle.g8iu.proofs.Masks.{clear-true, clear-false, NextIs, number-whole, number_short}

-- ---- the numbers of some lengths: the first, and the rest
need-join : (b : Bool) (xs : List ℕ) (m : Answer (List ℕ)) → need b broken (join xs m) ≡ join xs (need b broken m)
need-join true xs m = refl
need-join false xs m = refl

module _ (l : ℕ) (ls bytes : List ℕ) where
  first_taken : byte_length (number_of (take l bytes)) ≡ l → numbers_in (l ∷ ls) bytes ≡ join (number_of (take l bytes) ∷ []) (numbers_in ls (drop l bytes))
  unfolding data_in sum
  first_taken e =
      rw (eq-eqb (byte_length (number_of (take l bytes))) l e, ← (drop-drop (sum ls) l bytes))
      (need-join (all (eqb 0) (drop (sum ls) (drop l bytes))) (number_of (take l bytes) ∷ []) (data_in ls (drop l bytes)))

  first-refused : (byte_length (number_of (take l bytes)) ≡ l → ⊥) → numbers_in (l ∷ ls) bytes ≡ refused broken
  unfolding data_in
  first-refused e = rw (ne_eqb (byte_length (number_of (take l bytes))) l e) (need-refused (all (eqb 0) (drop (sum (l ∷ ls)) bytes)) broken)

join-nil : (m : Answer (List ℕ)) → m ≡ join [] m
join-nil (given xs) = refl
join-nil (refused e) = refl

join_more : (xs : List ℕ) (x : ℕ) (m : Answer (List ℕ)) → join xs (join (x ∷ []) m) ≡ join (xs ++ (x ∷ [])) m
join_more xs x (given ys) = ap (λ (l : List ℕ). given l) (sym (append_assoc xs (x ∷ []) ys))
join_more xs x (refused e) = refl

pub or-none : (to : ℕ) (xs : List ℕ) → end_of to xs ≡ None → xs ≡ []
or-none to [] e = refl
or-none to (x ∷ xs) e = cc

pub or_some : (to : ℕ) (xs : List ℕ) {q : Place} → end_of to xs ≡ Some q → (0 < length xs) × (q.number ≡ to + length xs)
or_some to [] h = absurd (cc h)
or_some to (x ∷ xs) {q} h = let e : record { number = to + length (x ∷ xs) } ≡ q = cc in (omega arith, sym (ap (λ (p : Place). p.number) e))

pub end-some : (to : ℕ) (xs : List ℕ) → 0 < length xs → {n : ℕ} → n ≡ to + length xs → Some (record { number = n }) ≡ end_of to xs
end-some to [] h e = absurd (omega arith)
end-some to (x ∷ xs) h e = rw e

pub or-given : (xs : List ℕ) → 0 < length xs → given xs ≡ or_fault xs
or-given [] h = absurd (omega arith)
or-given (x ∷ xs) h = refl

-- ---- the loop: some numbers have been taken and stored; those still to come end at the ones of `coming`, and their data is in `bytes`, or `rest` as a number
pub record NumbersSo (body : List ℕ) (at ends : ℕ) (most least out₀ : List ℕ) (to : ℕ) (out : List ℕ) (rest coming next : ℕ) : Type 0 where
  pub asks : Ending body at ends most least out₀ to
  pub bytes : List ℕ
  pub bound : Below 256 bytes
  pub within : coming < 2 ^ length bytes
  pub left : rest ≡ number_of bytes
  pub taken : List ℕ
  pub few : length taken + length bytes ≤ 8
  pub some : coming ≡ 0 → 0 < length taken
  pub counted : next ≡ to + length taken
  pub here : out ≡ sets out₀ to taken
  pub numbers : numbers_at body at ≡ join taken (numbers_in (lengths_of (length bytes) coming) bytes)

pub numbers-start : {body : List ℕ} {at ends : ℕ} {most least out₀ : List ℕ} {to rest : ℕ} → Ending body at ends most least out₀ to → Below 256 body
    → rest ≡ number_of (data_at body at) → NumbersSo body at ends most least out₀ to out₀ rest ends to
numbers-start {body} {at} {ends} a b e =
    let n : length (data_at body at) ≡ 8 = part_length body (at + 1) 8 (omega (arith, a.inside)) in
    let z = a.zeros in
    record {
      asks = a;
      bytes = data_at body at;
      bound = below-take 256 8 (drop (at + 1) body) (below-drop 256 (at + 1) body b);
      within = rw n (omega arith);
      left = e;
      taken = [];
      few = omega arith;
      some = λ h. absurd (omega (arith, a.some));
      counted = omega arith;
      here = refl;
      numbers = rw (n, z, lengths-start (get_or body at 0) (b at)) (join-nil (numbers_at body at));
    }

module _ {body : List ℕ} {at ends : ℕ} {most least out₀ : List ℕ} {to : ℕ} {out : List ℕ} {rest coming next : ℕ}
    (so : NumbersSo body at ends most least out₀ to out rest coming next) where
  pub numbers-long : length out ≡ length out₀
  numbers-long = ap length so.here ∙ length-sets out₀ to so.taken

  -- a block at fault
  at-fault : numbers_at body at ≡ refused broken → BegunIs body at to out₀ out None
  at-fault e = record { begun = so.taken; few = omega (arith, so.few); here = so.here; whole = λ h. absurd (cc h); faulty = λ h. e }

  -- a number is still to come
  module _ (more : coming ≡ 0 → ⊥) where
    abbrev f : ℕ
    f = count_trailing_zeros 32 coming

    first : FirstIs (length so.bytes) coming
    first = first-is (length so.bytes) coming (omega (arith, so.few)) so.within more

    -- the lengths after the next
    abbrev later : List ℕ
    later = lengths_of (length so.bytes - (f + 1)) (coming / 2 ^ (f + 1))

    pub numbers-index : f < 8
    numbers-index = omega (arith, first.within, so.few)

    pub numbers-less : coming / 2 ^ (f + 1) < coming
    numbers-less = omega (arith, shr-shr coming f 1, shr_le coming f)

    pub numbers-fault : bit_and rest (get_or most f 0) < get_or least f 0 → BegunIs body at to out₀ out None
    numbers-fault l =
        let e = number_short so.bytes so.bound f numbers-index (rw (so.left, so.asks.highest, so.asks.lowest) at l) in
        at-fault (so.numbers ∙ rw (first.is, first-refused (f + 1) later so.bytes e))

    module _ (needed : get_or least f 0 ≤ bit_and rest (get_or most f 0)) where
      whole : NextIs so.bytes f
      whole = number-whole so.bytes so.bound f numbers-index (rw (so.left, so.asks.highest, so.asks.lowest) at needed)

      pub numbers-few : f ≤ 3
      numbers-few = whole.few

      abbrev x : ℕ
      x = bit_and rest (get_or most f 0)

      x-is : x ≡ number_of (take (f + 1) so.bytes)
      x-is = rw (so.left, so.asks.highest) whole.is

      pub numbers-turn : NumbersSo body at ends most least out₀ to (set out next x) (rest / 2 ^ (8 * (f + 1))) (coming / 2 ^ (f + 1)) (next + 1)
      numbers-turn =
          let n : length (drop (f + 1) so.bytes) ≡ length so.bytes - (f + 1) = length-drop (f + 1) so.bytes in
          let k : length (so.taken ++ (x ∷ [])) ≡ length so.taken + 1 = length-append so.taken (x ∷ []) in
          record {
            asks = so.asks;
            bytes = drop (f + 1) so.bytes;
            bound = below-drop 256 (f + 1) so.bytes so.bound;
            within = rw n first.small;
            left = rw so.left (number-high (f + 1) so.bytes so.bound);
            taken = so.taken ++ (x ∷ []);
            few = omega (arith, so.few, first.within);
            some = λ h. omega arith;
            counted = omega (arith, so.counted);
            here = ap₂ (λ (r : List ℕ) (n : ℕ). set r n x) so.here so.counted ∙ sets-snoc so.taken x out₀ to;
            numbers = so.numbers
                ∙ ap (join so.taken) (ap (λ (r : List ℕ). numbers_in r so.bytes) first.is
                ∙ first_taken (f + 1) later so.bytes whole.needs)
                ∙ rw (n, x-is) (join_more so.taken (number_of (take (f + 1) so.bytes)) (numbers_in later (drop (f + 1) so.bytes)));
          }

  -- no number is left: what is left of the data is waste
  module _ (none : coming ≡ 0) where
    waste-is : numbers_at body at ≡ join so.taken (need (all (eqb 0) so.bytes) broken (given []))
    unfolding data_in sum
    waste-is = so.numbers ∙ rw (none, lengths_none (length so.bytes) (omega (arith, so.few)))

    pub numbers-waste : (rest ≡ 0 → ⊥) → BegunIs body at to out₀ out None
    numbers-waste h = at-fault (waste-is ∙ rw (clear-false so.bytes (rw so.left at h)))

    pub numbers-end : rest ≡ 0 → BegunIs body at to out₀ out (Some (record { number = next }))
    numbers-end h =
        let some = so.some none in
        let e : join so.taken (need (all (eqb 0) so.bytes) broken (given [])) ≡ or_fault so.taken =
        rw (clear-true so.bytes (sym so.left ∙ h), append-nil so.taken) (or-given so.taken some) in
        record {
          begun = so.taken;
          few = omega (arith, so.few);
          here = so.here;
          whole = λ _. record { numbers = so.taken; are = waste-is ∙ e; here = so.here; ends = end-some to so.taken some so.counted };
          faulty = λ q. absurd (cc q);
        }
