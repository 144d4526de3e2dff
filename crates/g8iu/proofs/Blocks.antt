-- A list in blocks: a block takes numbers as long as they fit, and the rest of the list is written after it. Assumes nothing.
use Prim.Native.Nat.{ℕ, zero, suc, ◌+◌, ◌-◌, ◌*◌, ◌/◌, ◌≤◌}
use mathlib.Core.Path.{◌≡◌, refl, sym, ap, ◌∙◌, subst}
use mathlib.Core.Bool.{true, false}
use mathlib.Core.List.{List, [], ◌∷◌, ◌++◌, append_assoc, append-nil, map}
use native.Mathlib.Omega.{arith}
use lib.ListN.{length, replicate, length-append, length-replicate}
use borrow.Author.Tests.{le-leb, leb-true, leb-false}
use Rattle.meaning.specs.Lists.{sum, joined}
use Rattle.meaning.specs.Places.{Below}
use Rattle.meaning.specs.DataBytes.{byte_length, fewest, data_bytes}
use Rattle.meaning.specs.G8IU.{fits, blocks_from, blocks, block_control, block, write_g8iu}
use Rattle.meaning.proofs.Bounds.{below-nil, below-cons, below-append, below-zeros}
use Rattle.meaning.proofs.Tests.{by-test}
use Rattle.words.proofs.DataBytes.{held, few-length, data-cons, data-append, data-length, data-most, data-small}
use Rattle.g8iu.proofs.Controls.{Some, control-small}

-- ---- a block that goes no further: the list ends there, or its next number does not fit
abbrev pub Stops : List ℕ → List ℕ → Type 0
Stops taken [] = Unit {0}
Stops taken (x ∷ xs) = fits taken x ≡ false

-- one number more
pub data-more : (taken : List ℕ) (x : ℕ) → length (data_bytes (taken ++ (x ∷ []))) ≡ length (data_bytes taken) + byte_length x
unfolding sum
data-more taken x =
    rw (data-append taken (x ∷ []), length-append (data_bytes taken) (data_bytes (x ∷ [])), data-length (x ∷ [])) (omega arith)

pub fits_more : (taken : List ℕ) (x : ℕ) → fits taken x ≡ true → length (data_bytes (taken ++ (x ∷ []))) ≤ 8
unfolding fits
fits_more taken x h = omega (arith, leb-true (length (data_bytes taken) + byte_length x) 8 h, data-more taken x)

-- a number that does not fit leaves at most three bytes, and at least two numbers stand before it
pub stops-full : (taken : List ℕ) (x : ℕ) (xs : List ℕ) → Stops taken (x ∷ xs) → (5 ≤ length (data_bytes taken)) × (2 ≤ length taken)
unfolding fits
stops-full taken x xs h =
    let l = leb-false (length (data_bytes taken) + byte_length x) 8 h in
    omega (arith, (held x).most, data-most taken)

-- ---- the first block of a list, and the rest
pub record Cut (taken xs : List ℕ) : Type 0 where
  pub more : List ℕ
  pub rest : List ℕ
  pub is : more ++ rest ≡ xs
  pub fitted : length (data_bytes (taken ++ more)) ≤ 8
  pub stops : Stops (taken ++ more) rest

cut-none : (taken xs : List ℕ) → length (data_bytes taken) ≤ 8 → Stops taken xs → Cut taken xs
cut-none taken xs h s = record { more = []; rest = xs; is = refl; fitted = rw append-nil h; stops = rw append-nil s }

cut-more : (taken : List ℕ) (x : ℕ) (xs : List ℕ) → Cut (taken ++ (x ∷ [])) xs → Cut taken (x ∷ xs)
cut-more taken x xs c =
    record {
      more = x ∷ c.more;
      rest = c.rest;
      is = ap (λ (l : List ℕ). x ∷ l) c.is;
      fitted = rw append_assoc at c.fitted;
      stops = rw append_assoc at c.stops;
    }

pub cut : (taken xs : List ℕ) → length (data_bytes taken) ≤ 8 → Cut taken xs
cut taken [] h = cut-none taken [] h tt
cut taken (x ∷ xs) h =
    by-test (fits taken x)
    (λ t. cut-more taken x xs (cut (taken ++ (x ∷ [])) xs (fits_more taken x t)))
    (λ t. cut-none taken (x ∷ xs) h t)

-- a prefix of a block's numbers fits, and the number after it
fits_next : (taken : List ℕ) (x : ℕ) (more : List ℕ) → length (data_bytes (taken ++ (x ∷ more))) ≤ 8 → fits taken x ≡ true
unfolding fits
fits_next taken x more h =
    let l : length (data_bytes (taken ++ (x ∷ more))) ≡ length (data_bytes taken) + (length (fewest x) + length (data_bytes more)) =
    simp (data-append, data-cons, length-append) in
    le-leb (length (data_bytes taken) + byte_length x) 8 (omega (arith, few-length x))

-- numbers that fit and one that does not make a block
blocks-from : (taken more rest : List ℕ) → length (data_bytes (taken ++ more)) ≤ 8 → Stops (taken ++ more) rest
    → blocks_from taken (more ++ rest) ≡ (taken ++ more) ∷ blocks rest
unfolding blocks_from blocks
blocks-from taken [] [] h s = rw append-nil
blocks-from taken [] (x ∷ rest) h s = let t : fits taken x ≡ false = rw append-nil at s in rw (t, append-nil)
blocks-from taken (x ∷ more) rest h s =
    rw (fits_next taken x more h) (rw append_assoc at (blocks-from (taken ++ (x ∷ [])) more rest (rw append_assoc h) (rw append_assoc s)))

-- ---- a block's bytes
pub lengths_some : (xs : List ℕ) → Some (map byte_length xs)
lengths_some [] = tt
lengths_some (x ∷ xs) = ((held x).least, lengths_some xs)

-- those after its control byte
abbrev pub data_of : List ℕ → List ℕ
data_of xs = data_bytes xs ++ replicate (8 - length (data_bytes xs)) 0

module _ (xs : List ℕ) (fitted : length (data_bytes xs) ≤ 8) where
  pub block-length : length (block xs) ≡ 9
  unfolding block
  block-length =
      let l : length (data_of xs) ≡ length (data_bytes xs) + (8 - length (data_bytes xs)) = simp (length-append, length-replicate) in
      omega arith

  pub block-small : Below 256 (block xs)
  unfolding block
  block-small =
      below-cons 256 (block_control (map byte_length xs)) (data_of xs)
      (control-small (map byte_length xs) (lengths_some xs) (rw (← (data-length xs)) fitted))
      (below-append 256 (data_bytes xs) (replicate (8 - length (data_bytes xs)) 0) (data-small xs) (below-zeros 256 (8 - length (data_bytes xs)) (omega arith)))

-- ---- the first block is written, and then the rest
module _ (x : ℕ) (more rest : List ℕ) (fitted : length (data_bytes (x ∷ more)) ≤ 8) (stops : Stops (x ∷ more) rest) where
  pub write-next : write_g8iu (x ∷ (more ++ rest)) ≡ block (x ∷ more) ++ write_g8iu rest
  unfolding write_g8iu blocks joined
  write-next = ap (joined block) (blocks-from (x ∷ []) more rest fitted stops)

-- what holds of no numbers, and of a block and a rest where it holds of the rest, holds of every list
by_blocks : (P : List ℕ → Type 0) → P []
    → ((x : ℕ) (more rest : List ℕ) → length (data_bytes (x ∷ more)) ≤ 8 → Stops (x ∷ more) rest → P rest → P (x ∷ (more ++ rest)))
    → (f : ℕ) (xs : List ℕ) → length xs ≤ f → P xs
by_blocks P none next zero [] h = none
by_blocks P none next (suc f) [] h = none
by_blocks P none next zero (x ∷ xs) h = absurd (omega arith)
by_blocks P none next (suc f) (x ∷ xs) h =
    let c = cut (x ∷ []) xs (omega (arith, data-most (x ∷ []))) in
    let l : length c.more + length c.rest ≡ length xs = sym (length-append c.more c.rest) ∙ ap length c.is in
    subst (λ (l : List ℕ). P (x ∷ l)) c.is (next x c.more c.rest c.fitted c.stops (by_blocks P none next f c.rest (omega arith)))

pub write-none : write_g8iu [] ≡ []
unfolding write_g8iu blocks joined
write-none = refl

-- every block but the last holds at least two numbers
most-next : (x : ℕ) (more rest : List ℕ) → length (data_bytes (x ∷ more)) ≤ 8 → Stops (x ∷ more) rest
    → length (write_g8iu rest) ≤ (length rest + 1) / 2 * 9 → length (write_g8iu (x ∷ (more ++ rest))) ≤ (length (x ∷ (more ++ rest)) + 1) / 2 * 9
most-next x more [] fitted stops ih =
    rw (write-next x more [] fitted stops, write-none, append-nil (block (x ∷ more)), block-length (x ∷ more) fitted) (omega arith)
most-next x more (y ∷ rest) fitted stops ih =
    let two = (stops-full (x ∷ more) y rest stops).1 in
    rw (
      write-next x more (y ∷ rest) fitted stops,
      length-append (block (x ∷ more)) (write_g8iu (y ∷ rest)),
      block-length (x ∷ more) fitted,
      length-append more (y ∷ rest),
    )
    (omega arith)

pub most : (xs : List ℕ) → length (write_g8iu xs) ≤ (length xs + 1) / 2 * 9
most xs =
    by_blocks (λ (l : List ℕ). length (write_g8iu l) ≤ (length l + 1) / 2 * 9) (rw write-none (omega arith)) most-next (length xs) xs (omega arith)

small-next : (x : ℕ) (more rest : List ℕ) → length (data_bytes (x ∷ more)) ≤ 8 → Stops (x ∷ more) rest
    → Below 256 (write_g8iu rest) → Below 256 (write_g8iu (x ∷ (more ++ rest)))
small-next x more rest fitted stops ih =
    rw (write-next x more rest fitted stops) (below-append 256 (block (x ∷ more)) (write_g8iu rest) (block-small (x ∷ more) fitted) ih)

pub write-small : (xs : List ℕ) → Below 256 (write_g8iu xs)
write-small xs = by_blocks (λ (l : List ℕ). Below 256 (write_g8iu l)) (rw write-none (below-nil 256 (omega arith))) small-next (length xs) xs (omega arith)
