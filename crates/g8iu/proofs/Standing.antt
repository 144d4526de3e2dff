-- The unit at a position, by the tests of its control byte and the numbers of its block. Assumes nothing.
use Prim.Native.Nat.{ℕ, zero, suc, ◌+◌, ◌-◌, ◌≤◌, ◌<◌}
use mathlib.Core.Path.{◌≡◌, refl, sym, ap, ◌∙◌}
use mathlib.Core.Bool.{Bool, true, false, ◌&&◌, ◌||◌, or-true, or-false}
use mathlib.Core.List.{List, [], ◌∷◌, map}
use native.Mathlib.Nat.{sub-zero}
use native.Mathlib.Omega.{arith}
use lib.Count.{ones, count_leading_zeros, count_trailing_zeros, ones-ones}
use Rattle.std.specs.Prelude.{Option, Some, None, Ok}
use lib.Dec.{leb, eqb}
use lib.ListN.{length, get_or, take, drop, replicate, length-replicate}
use lib.Seq.{sets, sets-eq, drop-append_seam}
use borrow.Author.Tests.{le-leb, lt-leb, leb-true, eq-eqb, ne_eqb}
use Rattle.meaning.specs.Answer.{Answer, given, refused, bind, need}
use Rattle.meaning.specs.DataBytes.{byte_length, data_bytes, data_in}
use Rattle.meaning.specs.G8IU.{block_lengths, block_in, unit_g8iu}
use Rattle.meaning.specs.Limits.{cut_short, broken, unit_places}
use Rattle.meaning.specs.Lists.{all, sum}
use Rattle.meaning.specs.Places.{UnitIs}
use Rattle.meaning.specs.Positions.{at_byte}
use Rattle.meaning.specs.declared.Place.{Place}
use Rattle.meaning.specs.declared.Position.{Position}
use Rattle.meaning.proofs.Answers.{need-given}
use Rattle.meaning.proofs.UnitAnswers.{is-read}
use Rattle.meaning.proofs.Stores.{part-sets}
use Rattle.meaning.proofs.Tests.{by_order, both_true}
use Rattle.words.proofs.DataBytes.{data-length, data-lengths, data-many}
use Rattle.g8iu.specs.Blocks.{allowed, numbers_in, lengths_at, data_at, numbers_at, or_fault, most_of, least_of, Ending, BlockIs}
use Rattle.g8iu.proofs.Controls.{control-is}
use Rattle.g8iu.proofs.Ends.{first-is, lengths-start}
use Rattle.g8iu.proofs.Numbers.{or-none, or_some, or-given}

-- ---- a unit by its block
need-and : (a b : Bool) (m : Answer (List ℕ)) → need a broken (need b broken m) ≡ need (a && b) broken m
need-and true b m = refl
need-and false b m = refl

block-split : (left : ℕ) (ls bytes : List ℕ) → block_in left ls bytes ≡ need (allowed left ls) broken (numbers_in ls bytes)
unfolding block_in
block-split left ls bytes =
    let waste = leb (8 - sum ls) 3 || eqb (length ls) left in
    ap (need (leb 1 (length ls)) broken) (need-and (leb (length ls) left) waste (numbers_in ls bytes))
    ∙ need-and (leb 1 (length ls)) (leb (length ls) left && waste) (numbers_in ls bytes)

module _ (body : List ℕ) (left : ℕ) (p : Position) where
  abbrev at : ℕ
  at = p.head.byte

  -- a test that fails refuses
  pub unit-short : leb (at + 9) (length body) ≡ false → unit_g8iu body left p ≡ refused cut_short
  unfolding unit_g8iu
  unit-short e = rw e

  -- the control byte is tested first, and then the numbers
  pub unit-barred : at + 9 ≤ length body → allowed left (lengths_at body at) ≡ false → unit_g8iu body left p ≡ refused broken
  unfolding unit_g8iu
  unit-barred h e = rw (le-leb (at + 9) (length body) h, block-split left (lengths_at body at) (data_at body at), e)

  pub unit-numbers : at + 9 ≤ length body → allowed left (lengths_at body at) ≡ true → (a : Answer (List ℕ)) → numbers_at body at ≡ a
      → unit_g8iu body left p ≡ bind a (λ xs. given (at_byte (at + 9), xs))
  unfolding unit_g8iu
  unit-numbers h e a n = rw (le-leb (at + 9) (length body) h, block-split left (lengths_at body at) (data_at body at), e, n)

-- ---- the control byte, by the count of its zero bits and by its ends
module _ {c : ℕ} (h : c < 256) (left : ℕ) where
  abbrev ls : List ℕ
  ls = block_lengths c

  module _ {count : ℕ} (k : count ≡ 8 - ones c) where
    counts : length ls ≡ count
    counts = (control-is c h).many ∙ sym k

    pub bars-none : count < 1 → false ≡ allowed left ls
    bars-none l = let n = counts in rw (lt-leb 1 (length ls) (omega arith))

    module _ (some : 1 ≤ count) where
      pub bars-beyond : left < count → false ≡ allowed left ls
      bars-beyond l = let n = counts in rw (le-leb 1 (length ls) (omega arith), lt-leb (length ls) left (omega arith))

      module _ (few : count ≤ left) where
        within : allowed left ls ≡ (leb (8 - sum ls) 3 || eqb count left)
        within = let n = counts in rw (le-leb 1 (length ls) (omega arith), le-leb (length ls) left (omega arith), n)

        pub allows-last : count ≡ left → true ≡ allowed left ls
        allows-last e = sym (within ∙ rw (eq-eqb count left e) (or-true (leb (8 - sum ls) 3)))

        pub allows-full : (count ≡ left → ⊥) → leb 16 (255 - c) ≡ allowed left ls
        allows-full e =
            let t : allowed left ls ≡ leb (8 - sum ls) 3 = within ∙ rw (ne_eqb count left e) (or-false (leb (8 - sum ls) 3)) in
            by_order (255 - c) 16
            (λ l. lt-leb 16 (255 - c) l ∙ sym (t ∙ lt-leb (8 - sum ls) 3 ((control-is c h).wasteful l)))
            (λ l. le-leb 16 (255 - c) l ∙ sym (t ∙ le-leb (8 - sum ls) 3 ((control-is c h).full l).0))

  -- what is allowed has an end
  allows-some : allowed left ls ≡ true → 0 < 255 - c
  allows-some e =
      let some = leb-true 1 (length ls) (both_true (leb 1 (length ls)) _ e).0 in
      by_order 0 (255 - c) (λ l. l) (λ l. let full : c ≡ 255 = omega arith in absurd (omega (arith, (control-is c h).many, rw (← full) at (ones-ones 8))))

  -- little waste is allowed wherever 8 numbers are still to come
  pub allows-plain : 16 ≤ 255 - c → 8 ≤ left → allowed left ls ≡ true
  allows-plain l m =
      let k = control-is c h in
      rw (le-leb 1 (length ls) (k.full l).1, le-leb (length ls) left (omega (arith, k.many)), le-leb (8 - sum ls) 3 (k.full l).0)

-- ---- a block's numbers
first-length : (xs : List ℕ) (l : ℕ) (ls : List ℕ) → map byte_length xs ≡ l ∷ ls → byte_length (get_or xs 0 0) ≡ l
first-length [] l ls e = cc
first-length (x ∷ xs) l ls e = cc

module _ (body : List ℕ) (at : ℕ) (h : get_or body at 0 < 256) (xs : List ℕ) (is : numbers_at body at ≡ given xs) where
  abbrev c : ℕ
  c = get_or body at 0

  numbers-are : data_in (block_lengths c) (data_at body at) ≡ given xs
  numbers-are = (need-given (all (eqb 0) (drop (sum (block_lengths c)) (data_at body at))) broken _ xs is).1

  lengths-are : map byte_length xs ≡ block_lengths c
  lengths-are = data-lengths (block_lengths c) (data_at body at) xs numbers-are

  pub block-few : length xs ≤ 8
  block-few = omega (arith, data-many (block_lengths c) (data_at body at) xs numbers-are, (control-is c h).many)

  -- its waste and the length of its first number, by its ends
  pub block-waste : count_leading_zeros 32 (255 - c) - 24 ≡ 8 - length (data_bytes xs)
  block-waste =
      let n : length (data_bytes xs) ≡ sum (block_lengths c) = data-length xs ∙ ap sum lengths-are in
      omega (arith, (control-is c h).top)

  pub block-first : (255 - c ≡ 0 → ⊥) → byte_length (get_or xs 0 0) ≡ count_trailing_zeros 32 (255 - c) + 1
  block-first some = first-length xs _ _ (lengths-are ∙ sym (lengths-start c h) ∙ (first-is 8 (255 - c) (omega arith) (omega arith) some).is)

-- ---- a unit's answer
drop-zeros : (k n : ℕ) → drop k (replicate {A = ℕ} n 0) ≡ replicate (n - k) 0
drop-zeros zero n = rw (sub-zero n)
drop-zeros (suc k) zero = let e : 0 - suc k ≡ 0 = omega arith in rw e
drop-zeros (suc k) (suc n) = let e : suc n - suc k ≡ n - k = omega arith in rw e (drop-zeros k n)

-- numbers stored at the start of zeros: they are read back, and the places after them are 0
first_of : (xs : List ℕ) (n : ℕ) → length xs ≤ n
    → (take (length xs) (sets (replicate n 0) 0 xs) ≡ xs) × (drop (length xs) (sets (replicate n 0) 0 xs) ≡ replicate (n - length xs) 0)
first_of xs n h =
    let l = length-replicate {A = ℕ} n 0 in
    let z : 0 + length xs ≡ length xs = omega arith in (
      part-sets xs (replicate n 0) 0 (omega arith),
      ap (drop (length xs)) (sets-eq xs (replicate n 0) 0 (omega arith)) ∙ drop-append_seam xs (drop (0 + length xs) (replicate n 0))
          ∙ rw z (drop-zeros (length xs) n),
    )

-- a block stands at the position, and its control byte is allowed
pub record Standing (body : List ℕ) (left : ℕ) (p : Position) : Type 0 where
  pub inside : p.head.byte + 9 ≤ length body
  pub byte : get_or body p.head.byte 0 < 256
  pub allows : allowed left (lengths_at body p.head.byte) ≡ true

pub standing : {body : List ℕ} {left : ℕ} (p : Position) → true ≡ leb (p.head.byte + 9) (length body) → get_or body p.head.byte 0 < 256
    → true ≡ allowed left (lengths_at body p.head.byte) → Standing body left p
standing {body} p has byte allows = record { inside = leb-true (p.head.byte + 9) (length body) (sym has); byte = byte; allows = sym allows }

module _ {body : List ℕ} {left : ℕ} {p : Position} (so : Standing body left p) where
  pub unit-asks : {ends : ℕ} → ends ≡ 255 - get_or body p.head.byte 0 → Ending body p.head.byte ends most_of least_of (replicate unit_places 0) 0
  unit-asks e =
      record { inside = so.inside; zeros = e; some = rw e (allows-some so.byte left so.allows); highest = refl; lowest = refl; fits = omega arith }

  module _ {numbers : List ℕ} {r : Option Place} (is : BlockIs body p.head.byte 0 (replicate unit_places 0) numbers r) where
    pub unit-fault : r ≡ None → unit_g8iu body left p ≡ refused broken
    unit-fault e = unit-numbers body left p so.inside so.allows (refused broken) (is.are ∙ ap or_fault (or-none 0 is.numbers (sym is.ends ∙ e)))

    pub unit-next : {q : Place} → r ≡ Some q → {next : Position} → next ≡ at_byte (p.head.byte + 9)
        → UnitIs (unit_g8iu body left p) (Ok (record { next = next; count = q.number; numbers = numbers }))
    unit-next {q} some {next} there =
        let xs = is.numbers in
        let (many, after) = or_some 0 xs (sym is.ends ∙ some) in
        let g : numbers_at body p.head.byte ≡ given xs = is.are ∙ sym (or-given xs many) in
        let few = block-few body p.head.byte so.byte xs g in
        let k : q.number ≡ length xs = omega arith in
        let (t, d) = first_of xs unit_places (omega arith) in
        is-read (rw (there, k, is.here, t) (unit-numbers body left p so.inside so.allows (given xs) g)) (omega arith) (rw (k, is.here) d)
