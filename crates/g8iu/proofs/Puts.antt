-- Putting a block: the zeros after its data, and its numbers one after another. Assumes nothing.
use Prim.Native.Nat.{ℕ, suc, ◌+◌, ◌-◌, ◌*◌, ◌%◌, ◌^◌, ◌≤◌, ◌<◌}
use mathlib.Core.Path.{◌≡◌, refl, sym, ap, ap₂, ◌∙◌}
use mathlib.Core.Bool.{false}
use mathlib.Core.List.{List, [], ◌∷◌, ◌++◌, map, map-append}
use native.Mathlib.Nat.{one-mul, add_assoc}
use native.Mathlib.Numerals.{add-one}
use native.Mathlib.Omega.{arith}
use lib.ListN.{length, get_or, take, set, replicate}
use lib.Pow.{shl_exact}
use lib.Seq.{sets, take-suc, length-take-le}
use borrow.Author.Tests.{lt-leb}
use Rattle.meaning.specs.DataBytes.{byte_length, fewest, data_bytes}
use Rattle.meaning.specs.G8IU.{fits, block_control, block}
use Rattle.meaning.specs.Lists.{sum, joined}
use Rattle.meaning.proofs.Stores.{sets-append, set-sets}
use Rattle.words.proofs.DataBytes.{held, data-append, data-length, data-most}
use Rattle.leaves.proofs.Joined.{joined-one}
use Rattle.leaves.proofs.Putting.{Left, left-turn}
use Rattle.g8iu.specs.Blocks.{PutBlock}
use Rattle.g8iu.proofs.Controls.{control-none, control-small, control-more}
use Rattle.g8iu.proofs.Blocks.{data-more, lengths_some}

-- ---- zeros after the data bytes that are used
pub zeros-turn : {whole : List ℕ} {at : ℕ} {out₀ out : List ℕ} (start i : ℕ) → Left whole at out₀ (replicate (8 - i) 0) out (start + i) → i < 8
    → {out' : List ℕ} → out' ≡ set out (start + i) 0 → Left whole at out₀ (replicate (8 - (i + 1)) 0) out' (start + (i + 1))
zeros-turn start i left h e =
    let k : 8 - i ≡ suc (8 - (i + 1)) = omega arith in
    rw (← (add_assoc start i 1)) (left-turn left {front = 0 ∷ []} (ap (λ (n : ℕ). replicate n 0) k) (record { ends = refl; here = e }))

-- ---- the first i numbers of a list are put after a control byte that is still to come
pub record PutSo (list : List ℕ) (at : ℕ) (out₀ out : List ℕ) (control used i : ℕ) : Type 0 where
  pub asks : (0 < length list) × (at + 9 < 2 ^ 63)
  pub high : i ≤ length list
  pub fitted : length (data_bytes (take i list)) ≤ 8
  pub bits : control ≡ block_control (map byte_length (take i list))
  pub ended : used ≡ length (data_bytes (take i list))
  pub here : out ≡ sets out₀ (at + 1) (data_bytes (take i list))

pub put-start : {list : List ℕ} {at : ℕ} {out : List ℕ} → (0 < length list) × (at + 9 < 2 ^ 63) → PutSo list at out out 255 0 0
unfolding data_bytes joined
put-start asks =
    record { asks = asks; high = omega arith; fitted = omega arith; bits = sym control-none; ended = omega arith; here = refl }

data-one : (x : ℕ) → data_bytes (x ∷ []) ≡ fewest x
unfolding data_bytes
data-one x = joined-one fewest x

block_at : (out : List ℕ) (at : ℕ) (b : List ℕ)
    → sets out at (block b) ≡ sets (set out at (block_control (map byte_length b))) (at + 1) (data_bytes b ++ replicate (8 - length (data_bytes b)) 0)
unfolding block
block_at out at b = rw (add-one at)

-- a number more in the block b, and its bit in the control byte
bit-more : (b : List ℕ) (x control used : ℕ) → control ≡ block_control (map byte_length b) → used ≡ length (data_bytes b) → used + byte_length x ≤ 8
    → control ≡ block_control (map byte_length (b ++ (x ∷ []))) + 2 ^ (used + byte_length x - 1)
bit-more b x control used bits ended l =
    let n = data-length b in
    let k : used ≡ sum (map byte_length b) = omega arith in
    rw (map-append byte_length b (x ∷ []), k) (bits ∙ control-more (map byte_length b) (byte_length x) (lengths_some b) (held x).least (omega arith))

module _ {list : List ℕ} {at : ℕ} {out₀ out : List ℕ} {control used i : ℕ} (so : PutSo list at out₀ out control used i) where
  abbrev b : List ℕ
  b = take i list

  -- what closing the block asks
  pub put-closes : (at + 9 < 2 ^ 63) × (control < 256) × (used ≤ 8)
  put-closes = (
    so.asks.1,
    rw so.bits (control-small (map byte_length b) (lengths_some b) (rw (← (data-length b)) so.fitted)),
    omega (arith, so.ended, so.fitted),
  )

  -- a number x comes next, and fits
  module _ (h : i < length list) (x : ℕ) (is : x ≡ get_or list i 0) (l : used + byte_length x ≤ 8) where
    b-more : take (i + 1) list ≡ b ++ (x ∷ [])
    b-more = rw (is, add-one i) (take-suc list i 0 h)

    bit-value : 1 * 2 ^ (used + byte_length x - 1) % 2 ^ 32 ≡ 2 ^ (used + byte_length x - 1)
    bit-value = shl_exact {a = 1} 1 (used + byte_length x - 1) 32 (omega arith) (omega arith) ∙ one-mul (2 ^ (used + byte_length x - 1))

    bit-there : 1 * 2 ^ (used + byte_length x - 1) % 2 ^ 32 ≤ control
    bit-there = rw bit-value (omega (arith, bit-more b x control used so.bits so.ended l))

    number_put : {out' : List ℕ} → out' ≡ sets out (at + 1 + used) (fewest x)
        → PutSo list at out₀ out' (control - 1 * 2 ^ (used + byte_length x - 1) % 2 ^ 32) (used + byte_length x) (i + 1)
    number_put e =
        let n = data-more b x in
        let f = data_bytes b in
        record {
          asks = so.asks;
          high = omega arith;
          fitted = rw b-more (omega (arith, so.ended));
          bits = rw (b-more, bit-value) (omega (arith, bit-more b x control used so.bits so.ended l));
          ended = rw b-more (omega (arith, so.ended));
          here = rw b-more
              (e ∙ ap₂ (λ (l : List ℕ) (k : ℕ). sets l (at + 1 + k) (fewest x)) so.here so.ended ∙ sets-append f (fewest x) out₀ (at + 1)
              ∙ ap (sets out₀ (at + 1)) (sym (data-append b (x ∷ []) ∙ ap (λ (l : List ℕ). f ++ l) (data-one x))));
        }

  -- the control byte and the zeros make the block whole
  put-close : {out' : List ℕ} → out' ≡ sets (set out at control) (at + 1 + used) (replicate (8 - used) 0) → out' ≡ sets out₀ at (block b)
  put-close e =
      let f = data_bytes b in
      let z : List ℕ = replicate (8 - length f) 0 in
      let c = block_control (map byte_length b) in
      let s : set out at control ≡ sets (set out₀ at c) (at + 1) f = rw (so.here, so.bits) (set-sets f out₀ at (at + 1) c (omega arith)) in
      e ∙ rw (s, so.ended) (sets-append f z (set out₀ at c) (at + 1)) ∙ sym (block_at out₀ at b)

  -- all numbers are put
  pub put_all : length list ≤ i → {out' : List ℕ} → out' ≡ sets (set out at control) (at + 1 + used) (replicate (8 - used) 0)
      → PutBlock list at out₀ out' (length list)
  put_all h closed =
      let all : length list ≡ i = omega (arith, so.high) in
      rw all
      (record { some = omega (arith, so.asks); within = so.high; fitted = so.fitted; stops = λ k. absurd (omega arith); here = put-close closed })

  -- the next number takes len bytes
  module _ {len : ℕ} (is : len ≡ byte_length (get_or list i 0)) where
    pub put-sized : (1 ≤ len) × (len ≤ 4) × (used ≤ 8)
    put-sized = let k = held (get_or list i 0) in (omega (arith, k.least), omega (arith, k.most), put-closes.2)

    -- it fits: the bit of its last byte is there, and falls
    module _ (h : i < length list) (l : used + len ≤ 8) where
      pub put-bit : 1 * 2 ^ (used + len - 1) % 2 ^ 32 ≤ control
      put-bit = rw is (bit-there h (get_or list i 0) refl (rw is at l))

      pub put-turn : {out' : List ℕ} → out' ≡ sets out (at + 1 + used) (fewest (get_or list i 0))
          → PutSo list at out₀ out' (control - 1 * 2 ^ (used + len - 1) % 2 ^ 32) (used + len) (i + 1)
      put-turn e = rw is (number_put h (get_or list i 0) refl (rw is at l) e)

    no_room : 8 < used + len → fits b (get_or list i 0) ≡ false
    unfolding fits
    no_room h = lt-leb (length (data_bytes b) + byte_length (get_or list i 0)) 8 (omega (arith, so.ended))

    -- it does not fit
    pub put_full : 8 < used + len → {out' : List ℕ} → out' ≡ sets (set out at control) (at + 1 + used) (replicate (8 - used) 0)
        → PutBlock list at out₀ out' i
    put_full h closed =
        record {
          some = omega (arith, put-sized, so.ended, data-most b, length-take-le i list so.high);
          within = so.high;
          fitted = so.fitted;
          stops = λ k. no_room h;
          here = put-close closed;
        }
