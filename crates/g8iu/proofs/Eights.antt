-- Eight numbers at once: those of a block of small numbers, which are its data bytes, and those that are put back. Assumes nothing.
use Prim.Native.Nat.{ℕ, zero, suc, ◌+◌, ◌≤◌, ◌<◌}
use mathlib.Core.Path.{◌≡◌, refl, sym, ap, ap₂, ◌∙◌}
use mathlib.Core.List.{List, [], ◌∷◌, ◌++◌}
use native.Mathlib.Omega.{arith}
use Rattle.std.specs.Prelude.{Option, Some, None, IsNone}
use lib.ListN.{length, get_or, take, drop, set, replicate, drop_of_length-le}
use lib.Seq.{sets, drop-cons, set-get_or, set-set}
use borrow.Author.Tests.{eq-eqb}
use Rattle.meaning.specs.Answer.{given}
use Rattle.meaning.specs.Bytes.{number_of}
use Rattle.meaning.specs.DataBytes.{byte_length, data_in}
use Rattle.meaning.specs.Bits.{bits_low}
use Rattle.meaning.specs.G8IU.{lengths_by, block_lengths}
use Rattle.meaning.specs.Lists.{all, sum}
use Rattle.meaning.specs.Places.{Below, part}
use Rattle.meaning.specs.declared.Place.{Place}
use Rattle.meaning.proofs.Bounds.{below-take, below-drop}
use Rattle.meaning.proofs.Stores.{sets-snoc, set-sets, part-sets}
use Rattle.leaves.proofs.Parts.{part_length, part-snoc}
use Rattle.g8iu.specs.Blocks.{data_at, Ending, BlockIs, BegunIs}
use Rattle.g8iu.proofs.Masks.{length-1}
use Rattle.g8iu.proofs.Numbers.{or-given, end-some}

-- ---- i of the eight elements of a list from an offset on are stored
pub record EightSo (list : List ℕ) (from : ℕ) (out₀ : List ℕ) (to : ℕ) (out : List ℕ) (i : ℕ) : Type 0 where
  pub inside : from + 8 ≤ length list
  pub room : to + 8 ≤ length out₀
  pub high : i ≤ 8
  pub here : out ≡ sets out₀ to (part list from i)

module _ {list : List ℕ} {from : ℕ} {out₀ : List ℕ} {to : ℕ} {out : List ℕ} {i : ℕ} (so : EightSo list from out₀ to out i) where
  pub eight-turn : i < 8 → {x : ℕ} → x ≡ get_or list (from + i) 0 → EightSo list from out₀ to (set out (to + i) x) (i + 1)
  eight-turn h {x} is =
      let n = part_length list from i (omega (arith, so.inside)) in
      let p : part list from i ++ (x ∷ []) ≡ part list from (i + 1) = rw is (sym (part-snoc list from i (omega (arith, so.inside)))) in
      record {
        inside = so.inside;
        room = so.room;
        high = omega arith;
        here = ap₂ (λ (r : List ℕ) (k : ℕ). set r (to + k) x) so.here (sym n) ∙ sets-snoc (part list from i) x out₀ to ∙ ap (sets out₀ to) p;
      }

  pub eight-end : 8 ≤ i → out ≡ sets out₀ to (part list from 8)
  eight-end h = let e : i ≡ 8 = omega (arith, so.high) in rw e at so.here

-- ---- the block of control byte 0
eight-lengths : block_lengths 0 ≡ replicate 8 1
unfolding block_lengths lengths_by bits_low
eight-lengths = refl

bytes-data : (bs : List ℕ) → Below 256 bs → data_in (replicate (length bs) 1) bs ≡ given bs
unfolding data_in number_of
bytes-data [] h = refl
bytes-data (b ∷ bs) h =
    let n : b + 0 ≡ b = omega arith in
    rw (n, eq-eqb (byte_length b) 1 (length-1 b (h 0)), bytes-data bs (λ i. h (suc i)))

pub eight-block : {body : List ℕ} {at ends : ℕ} {most least out : List ℕ} {to : ℕ} → Ending body at ends most least out to → Below 256 body → ends ≡ 255
    → {out' : List ℕ} → out' ≡ sets out to (data_at body at)
    → BlockIs body at to out out' (Some (record { number = to + 8 }))
unfolding sum all
eight-block {body} {at} {to = to} asks small e here =
    let z : get_or body at 0 ≡ 0 = omega (arith, asks.zeros, small at) in
    let d = data_at body at in
    let n : length d ≡ 8 = part_length body (at + 1) 8 (omega (arith, asks.inside)) in
    let f : data_in (replicate 8 1) d ≡ given d = rw n at (bytes-data d (below-take 256 8 (drop (at + 1) body) (below-drop 256 (at + 1) body small))) in
    record {
      numbers = d;
      are = rw (z, eight-lengths, drop_of_length-le d {i = 8} (omega arith), f) (or-given d (omega arith));
      here = here;
      ends = end-some to d (omega arith) (ap (λ (k : ℕ). to + k) (sym n));
    }

-- ---- stores that are undone
over : (vs ws l : List ℕ) (a : ℕ) → length vs ≤ length ws → sets (sets l a vs) a ws ≡ sets l a ws
over [] ws l a h = refl
over (v ∷ vs) [] l a h = absurd (omega arith)
over (v ∷ vs) (w ∷ ws) l a h =
    ap (λ (m : List ℕ). sets m (suc a) ws) (set-sets vs (set l a v) a (suc a) w (omega arith) ∙ ap (λ (m : List ℕ). sets m (suc a) vs) (set-set l a v w))
    ∙ over vs ws (set l a w) (suc a) (omega arith)

same : (k : ℕ) (l : List ℕ) (a : ℕ) → a + k ≤ length l → sets l a (part l a k) ≡ l
same zero l a h = refl
same (suc k) l a h =
    ap (λ (d : List ℕ). sets l a (take (suc k) d)) (drop-cons l a 0 (omega arith)) ∙ ap (λ (m : List ℕ). sets m (suc a) (part l (suc a) k)) (set-get_or l a 0)
    ∙ same k l (suc a) (omega arith)

-- what was saved before, put back where the block was at fault
pub undone : {body : List ℕ} {at ends : ℕ} {most least out : List ℕ} {to : ℕ} → Ending body at ends most least out to → {out' : List ℕ} {r : Option Place}
    → BegunIs body at to out out' r → IsNone r → {old out'' : List ℕ} → old ≡ sets (replicate 8 0) 0 (part out to 8)
    → out'' ≡ sets out' to (part old 0 8) → BlockIs body at to out out'' None
undone {out = out} {to} asks is e {old} s h =
    let n : length (part out to 8) ≡ 8 = part_length out to 8 asks.fits in
    let kept : part old 0 8 ≡ part out to 8 = rw s (rw n at (part-sets (part out to 8) (replicate 8 0) 0 (omega arith))) in
    record {
      numbers = [];
      are = is.faulty e;
      here = h ∙ rw (kept, is.here) (over is.begun (part out to 8) out to (omega (arith, is.few)) ∙ same 8 out to asks.fits);
      ends = refl;
    }
