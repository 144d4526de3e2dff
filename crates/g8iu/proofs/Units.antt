-- A unit of G8IU: a block that was written reads back, and what reads as numbers is their block. Assumes nothing.
use Prim.Native.Nat.{ℕ, ◌+◌, ◌-◌, ◌≤◌, ◌<◌}
use mathlib.Core.Path.{◌≡◌, sym, ap, ap₂, ◌∙◌, subst}
use mathlib.Core.Bool.{Bool, true, ◌||◌}
use mathlib.Core.List.{List, ◌∷◌, ◌++◌, map}
use native.Mathlib.Nat.{add-zero}
use native.Mathlib.Numerals.{add-one}
use native.Mathlib.Omega.{arith}
use lib.Dec.{leb, eqb}
use lib.ListN.{length, get_or, take, drop, replicate, length-append, length-drop, length-map, take-append-drop}
use lib.Seq.{get_or-drop, drop-drop, take_at, drop-append_seam, drop-cons, length-take-le}
use borrow.Author.Tests.{le-leb, leb-true}
use Rattle.meaning.specs.Answer.{given}
use Rattle.meaning.specs.Limits.{cut_short, broken, number_limit}
use Rattle.meaning.specs.Lists.{all, sum}
use Rattle.meaning.specs.Places.{Below}
use Rattle.meaning.specs.Positions.{at_byte}
use Rattle.meaning.specs.DataBytes.{byte_length, data_bytes, data_in}
use Rattle.meaning.specs.G8IU.{block_control, block, block_lengths, block_in, unit_g8iu}
use Rattle.meaning.specs.declared.Position.{Position}
use Rattle.meaning.proofs.Answers.{bind-given, need-given}
use Rattle.meaning.proofs.Bounds.{below-take, below-drop}
use Rattle.meaning.proofs.Units.{Good}
use Rattle.words.proofs.DataBytes.{data-length, data-many, data-written, data-back}
use Rattle.leaves.proofs.Joined.{all-zeros, zeros-all}
use Rattle.g8iu.proofs.Controls.{lengths-control, control-is}
use Rattle.g8iu.proofs.Blocks.{lengths_some, data_of, block-length}

-- ---- a list seen from an offset
module _ (s : List ℕ) (at b : ℕ) (bs : List ℕ) (e : drop at s ≡ b ∷ bs) where
  first-is : get_or s at 0 ≡ b
  first-is = ap (λ (k : ℕ). get_or s k 0) (sym (add-zero at)) ∙ sym (get_or-drop at s 0 0) ∙ ap (λ (l : List ℕ). get_or l 0 0) e

  later-is : drop (at + 1) s ≡ bs
  later-is = sym (drop-drop 1 at s) ∙ ap (drop 1) e

-- ---- what the tests of a block let pass
pub record Passed (left : ℕ) (ls bytes xs : List ℕ) : Type 0 where
  pub some : 1 ≤ length ls
  pub few : length ls ≤ left
  pub ends : leb (8 - sum ls) 3 || eqb (length ls) left ≡ true
  pub clear : all (eqb 0) (drop (sum ls) bytes) ≡ true
  pub numbers : data_in ls bytes ≡ given xs

pub passed : (left : ℕ) (ls bytes xs : List ℕ) → block_in left ls bytes ≡ given xs → Passed left ls bytes xs
unfolding block_in
passed left ls bytes xs e =
    let (a, ea) = need-given (leb 1 (length ls)) broken _ xs e in
    let (b, eb) = need-given (leb (length ls) left) broken _ xs ea in
    let (c, ec) = need-given (leb (8 - sum ls) 3 || eqb (length ls) left) broken _ xs eb in
    let (d, ed) = need-given (all (eqb 0) (drop (sum ls) bytes)) broken _ xs ec in
    record { some = leb-true _ _ a; few = leb-true _ _ b; ends = c; clear = d; numbers = ed }

pub block-given : (left : ℕ) (ls bytes xs : List ℕ) → Passed left ls bytes xs → block_in left ls bytes ≡ given xs
unfolding block_in
block-given left ls bytes xs t = rw (le-leb 1 (length ls) t.some, le-leb (length ls) left t.few, t.ends, t.clear) t.numbers

-- ---- written and read
-- the list ends with the block, or its waste is at most 3
abbrev pub Ends : ℕ → List ℕ → Bool
Ends left xs = leb (8 - length (data_bytes xs)) 3 || eqb (length xs) left

module _ (left : ℕ) (xs : List ℕ) (some : 1 ≤ length xs) (few : length xs ≤ left) (small : Below number_limit xs)
    (fitted : length (data_bytes xs) ≤ 8) (ends : Ends left xs ≡ true) where
  block_written : block_in left (map byte_length xs) (data_of xs) ≡ given xs
  block_written =
      let n = length-map xs byte_length in
      let l = data-length xs in
      block-given left (map byte_length xs) (data_of xs) xs
      (record {
        some = omega arith;
        few = omega arith;
        ends = rw (n, ← l) ends;
        clear = rw (← l, drop-append_seam (data_bytes xs) (replicate (8 - length (data_bytes xs)) 0)) (all-zeros (8 - length (data_bytes xs)));
        numbers = data-written xs (replicate (8 - length (data_bytes xs)) 0) small;
      })

  -- a body that goes on with the block has it for its unit
  pub unit-written : (body : List ℕ) (p : Position) (rest : List ℕ) → p.head.byte ≤ length body → drop p.head.byte body ≡ block xs ++ rest
      → unit_g8iu body left p ≡ given (at_byte (p.head.byte + 9), xs)
  unfolding unit_g8iu block
  unit-written body p rest inside e =
      let at = p.head.byte in
      let nine = block-length xs fitted in
      let l : length body - at ≡ 9 + length rest =
      sym (length-drop at body) ∙ ap length e ∙ length-append (block xs) rest ∙ ap (λ (n : ℕ). n + length rest) nine in
      let d : length (data_of xs) ≡ 8 = omega (arith, nine) in
      rw (
        le-leb (at + 9) (length body) (omega arith),
        first-is body at _ _ e,
        later-is body at (block_control (map byte_length xs)) (data_of xs ++ rest) e,
        take_at (data_of xs) rest 8 d,
        lengths-control (map byte_length xs) (lengths_some xs) (rw (← (data-length xs)) fitted),
        block_written,
      )

-- ---- read and written back
-- a unit that was read: the block is there, and its tests passed
pub record Taken (body : List ℕ) (left : ℕ) (p : Position) (u : Position × List ℕ) : Type 0 where
  pub inside : p.head.byte + 9 ≤ length body
  pub next : u.0 ≡ at_byte (p.head.byte + 9)
  pub tests : Passed left (block_lengths (get_or body p.head.byte 0)) (take 8 (drop (p.head.byte + 1) body)) u.1

pub taken : (body : List ℕ) (left : ℕ) (p : Position) (u : Position × List ℕ) → unit_g8iu body left p ≡ given u → Taken body left p u
unfolding unit_g8iu
taken body left p u e =
    let at = p.head.byte in
    let ls = block_lengths (get_or body at 0) in
    let bytes = take 8 (drop (at + 1) body) in
    let (a, ea) = need-given (leb (at + 9) (length body)) cut_short _ u e in
    let (xs, eb, ec) = bind-given (block_in left ls bytes) _ u ea in
    let is : (at_byte (at + 9), xs) ≡ u = cc in
    record {
      inside = leb-true _ _ a;
      next = sym (ap (λ (v : Position × List ℕ). v.0) is);
      tests = subst (Passed left ls bytes) (ap (λ (v : Position × List ℕ). v.1) is) (passed left ls bytes xs eb);
    }

pub good : (body : List ℕ) → Good (unit_g8iu body)
good body =
    record {
      some = λ left p u h e. let t = (taken body left p u e).tests in omega (arith, data-many _ _ _ t.numbers);
      few = λ left p u h e. let t = (taken body left p u e).tests in omega (arith, data-many _ _ _ t.numbers);
    }

-- a block that was read is the one that is written
pub record IsBlock (c : ℕ) (bytes xs : List ℕ) : Type 0 where
  pub is : c ∷ bytes ≡ block xs
  pub fitted : length (data_bytes xs) ≤ 8
  pub small : Below number_limit xs

is_block : (c left : ℕ) (bytes xs : List ℕ) → c < 256 → Below 256 bytes → length bytes ≡ 8 → Passed left (block_lengths c) bytes xs → IsBlock c bytes xs
unfolding block
is_block c left bytes xs h b l t =
    let ls = block_lengths c in
    let k = control-is c h in
    let f = data-back ls bytes xs b (omega (arith, k.within)) t.numbers in
    let n : length (data_bytes xs) ≡ sum ls = data-length xs ∙ ap sum f.lengths in
    let w : length (drop (sum ls) bytes) ≡ 8 - length (data_bytes xs) = rw (n, length-drop (sum ls) bytes, l) in
    let waste : drop (sum ls) bytes ≡ replicate (8 - length (data_bytes xs)) 0 = zeros-all (drop (sum ls) bytes) t.clear ∙ ap (λ (k : ℕ). replicate k 0) w in
    record {
      is = ap₂ (λ (x : ℕ) (r : List ℕ). x ∷ r) (sym k.back ∙ ap block_control (sym f.lengths))
          (sym (take-append-drop (sum ls) bytes) ∙ ap₂ ◌++◌ f.is waste);
      fitted = omega (arith, k.within);
      small = f.small;
    }

pub record Back (body : List ℕ) (at : ℕ) (xs : List ℕ) : Type 0 where
  pub is : drop at body ≡ block xs ++ drop (at + 9) body
  pub fitted : length (data_bytes xs) ≤ 8
  pub small : Below number_limit xs

pub unit-back : (body : List ℕ) → Below 256 body → (left : ℕ) (p : Position) (u : Position × List ℕ) → unit_g8iu body left p ≡ given u
    → Back body p.head.byte u.1
unit-back body b left p u e =
    let at = p.head.byte in
    let t = taken body left p u e in
    let bytes = take 8 (drop (at + 1) body) in
    let l : length bytes ≡ 8 = length-take-le 8 (drop (at + 1) body) (omega (arith, t.inside, length-drop (at + 1) body)) in
    let k = is_block (get_or body at 0) left bytes u.1 (b at) (below-take 256 8 (drop (at + 1) body) (below-drop 256 (at + 1) body b)) l t.tests in
    let nine : take 9 (drop at body) ≡ get_or body at 0 ∷ bytes = rw (add-one at, drop-cons body at 0 (omega (arith, t.inside))) in
    record {
      is = sym (take-append-drop 9 (drop at body)) ∙ ap₂ ◌++◌ (nine ∙ k.is) (drop-drop 9 at body);
      fitted = k.fitted;
      small = k.small;
    }
