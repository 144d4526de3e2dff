-- A number looked up directly: its stretch by the sums, its last byte by the stretch's bits. Assumes nothing.
use Prim.Native.Nat.{ℕ, suc, ◌+◌, ◌-◌, ◌*◌, ◌/◌, ◌%◌, ◌≤◌, ◌<◌, min}
use mathlib.Core.Path.{◌≡◌, refl, sym, ap, ◌∙◌}
use mathlib.Core.Bool.{false}
use mathlib.Core.List.{List}
use native.Mathlib.Omega.{arith}
use lib.ListN.{take, drop, length-take}
use lib.Seq.{take-take, take_all}
use borrow.Author.Tests.{lt-ltb, le-ltb}
use Rattle.std.specs.Prelude.{Result, Ok, Err}
use Rattle.meaning.specs.Answer.{given, refused, bind}
use Rattle.meaning.specs.Bits.{low_bits}
use Rattle.meaning.specs.Direct.{sum_count, parts_fit, sum_at, stretch_from, stretch_of, ended_before, stretch_bits, ending_at, look_direct}
use Rattle.meaning.specs.Limits.{cut_short, broken, no_place}
use Rattle.meaning.specs.Lists.{sum}
use Rattle.meaning.specs.Places.{Below}
use Rattle.meaning.specs.Rank.{ones_before, one_at}
use Rattle.meaning.specs.Says.{says_by, bit_told}
use Rattle.meaning.specs.declared.Bit.{Bit}
use Rattle.meaning.specs.declared.Refusal.{Refusal}
use Rattle.meaning.proofs.Answers.{not-given}
use Rattle.meaning.proofs.Bounds.{below-take}
use Rattle.meaning.proofs.Ranks.{one-is, one-some, one_none, one-given, one-among, one-beyond, ones-add}
use Rattle.meaning.proofs.Tests.{by_order}
use Rattle.words.proofs.LowBits.{low_below}
use Rattle.direct.specs.Parts.{Fit, Leads, look_fit}
use Rattle.direct.specs.declared.looking.Stretch.{Stretch}
use Rattle.direct.proofs.Fits.{flags-drop}

-- ---- the stretch of a place: the sums before stretch s are not above it
pub record Passing (body : List ℕ) (d place ended s : ℕ) : Type 0 where
  pub fit : Fit body d
  pub few : s ≤ d / 512
  pub before : ended ≡ ended_before body s
  pub passed : ended ≤ place
  pub on : stretch_of body place ≡ stretch_from (d / 512 - s) body place s

pub passing-start : {body : List ℕ} {d : ℕ} → Fit body d → (place : ℕ) → Passing body d place 0 0
unfolding stretch_of sum_count ended_before
passing-start {body} {d} fit place =
    let e : d / 512 - 0 ≡ d / 512 = omega arith in
    record { fit = fit; few = omega arith; before = refl; passed = omega arith; on = rw (e, fit.is) }

module _ {body : List ℕ} {d place ended s : ℕ} (inv : Passing body d place ended s) where
  leads : stretch_of body place ≡ s → Leads body d place (record { number = s; ended = ended })
  unfolding sum_count
  leads e = record { is = sym e; before = inv.before; few = inv.few; passed = inv.passed }

  module _ (h : s < d / 512) {through : ℕ} (is : through ≡ sum_at body s) where
    left : d / 512 - s ≡ suc (d / 512 - (s + 1))
    left = omega arith

    pub passing-here : place < through → Leads body d place (record { number = s; ended = ended })
    unfolding stretch_from
    passing-here b = leads (inv.on ∙ rw (left, lt-ltb place (sum_at body s) (rw is at b)))

    pub passing-turn : through ≤ place → Passing body d place through (s + 1)
    unfolding stretch_from ended_before
    passing-turn b =
        let n : s + 1 ≡ suc s = omega arith in
        record {
          fit = inv.fit;
          few = omega arith;
          before = rw n is;
          passed = b;
          on = inv.on ∙ rw (left, le-ltb place (sum_at body s) (rw is at b), n);
        }

  pub passing-end : d / 512 ≤ s → Leads body d place (record { number = d / 512; ended = ended })
  unfolding stretch_from
  passing-end h =
      let all : d / 512 ≡ s = omega (arith, inv.few) in
      let none : d / 512 - s ≡ 0 = omega arith in
      rw all (leads (inv.on ∙ rw none))

-- ---- the bits of a stretch, by those of the words that hold them
module _ (bits : List ℕ) (low : Below 2 bits) (k m n : ℕ) (h : m ≤ n) where
  firsts : take m (take n bits) ≡ take m bits
  firsts = take-take m n bits h

  some_below : Below 2 (take n bits)
  some_below = below-take 2 n bits low

  -- one that is found is among them, or behind them; where none is found there is none
  one-here : {i : ℕ} → one_at no_place k (take n bits) ≡ given i → i < m → one_at broken k (take m bits) ≡ given i
  one-here {i} q l =
      rw firsts at (one-among broken k (take n bits) i some_below (one-given no_place broken k (take n bits) i some_below q) m l)

  one-behind : {i : ℕ} → one_at no_place k (take n bits) ≡ given i → m ≤ i → one_at broken k (take m bits) ≡ refused broken
  one-behind {i} q l =
      rw firsts at (one-beyond broken k (take n bits) i some_below (one-given no_place broken k (take n bits) i some_below q) m l)

  one-nowhere : {r : ℕ} → one_at no_place k (take n bits) ≡ refused r → one_at broken k (take m bits) ≡ refused broken
  unfolding ones_before
  one-nowhere {r} q =
      let more : n ≡ m + (n - m) = omega arith in
      by_order k (sum (take m bits))
      (λ b. let (i, g) = one-some no_place k (take n bits) some_below (omega (arith, ap (ones_before bits) more, ones-add bits m (n - m))) in
      absurd (not-given r i (sym q ∙ g)))
      (λ b. one_none broken k (take m bits) (below-take 2 m bits low) b)

-- ---- the number at a place, by its stretch
module _ {body : List ℕ} {d place : ℕ} (fit : Fit body d) {r : Stretch} (lead : Leads body d place r) where
  -- the bits from the stretch on, and how many are of it
  abbrev here : List ℕ
  here = low_bits (drop (4 + 64 * r.number) body)

  abbrev many : ℕ
  many = min (d - 512 * r.number) 512

  below : Below 2 here
  below = low_below (drop (4 + 64 * r.number) body)

  pub stretch-within : 512 * r.number ≤ d
  unfolding sum_count
  stretch-within = omega (arith, lead.few)

  bits_are : stretch_bits body r.number ≡ take many here
  unfolding stretch_bits
  bits_are =
      let left = d - 512 * r.number in
      ap (take 512) (flags-drop fit r.number stretch-within)
      ∙ by_order left 512
      (λ h. let e : many ≡ left = omega arith in rw e (take_all 512 (take left here) (omega (arith, length-take left here))))
      (λ h. let e : many ≡ 512 = omega arith in rw e (take-take 512 left here h))

  look_is : look_fit body place ≡ bind (one_at broken (place - r.ended) (take many here)) (λ i. ending_at body (512 * r.number + i))
  unfolding look_fit
  look_is = rw (← lead.is, ← lead.before, bits_are)

  -- what is found in the words that hold them
  module _ {m words : ℕ} (are : m ≡ many) (up : words ≡ m / 64 + min 1 (m % 64)) (f : Result Bit Refusal)
      (told : says_by bit_told f ≡ one_at no_place (place - r.ended) (take (64 * words) here)) where
    enough : many ≤ 64 * words
    enough = omega (arith, are, up)

    pub words-few : words ≤ 8
    words-few = omega (arith, are, up)

    pub look_none : {z : Refusal} → f ≡ Err z → refused broken ≡ look_fit body place
    look_none {z} e =
        let none = one-nowhere here below (place - r.ended) many (64 * words) enough (sym told ∙ ap (says_by bit_told) e) in
        rw look_is (rw none)

    module _ {b : Bit} (e : f ≡ Ok b) where
      at_b : one_at no_place (place - r.ended) (take (64 * words) here) ≡ given b.index
      at_b = sym told ∙ ap (says_by bit_told) e

      pub found-few : b.index < 64 * words
      found-few =
          let o = one-is no_place (place - r.ended) (take (64 * words) here) b.index (below-take 2 (64 * words) here below) at_b in
          omega (arith, o.inside, length-take (64 * words) here)

      pub look-behind : d ≤ 512 * r.number + b.index → refused broken ≡ look_fit body place
      look-behind h =
          let none = one-behind here below (place - r.ended) many (64 * words) enough at_b (omega arith) in
          rw look_is (rw none)

      pub look-here : 512 * r.number + b.index < d → ending_at body (512 * r.number + b.index) ≡ look_fit body place
      look-here h =
          let one = one-here here below (place - r.ended) many (64 * words) enough at_b (omega (arith, found-few, words-few)) in
          rw look_is (rw one)

-- ---- with the header
pub look-unfit : (body : List ℕ) (place : ℕ) → parts_fit body ≡ false → refused cut_short ≡ look_direct body place
unfolding look_direct
look-unfit body place e = rw e

pub look-fits : {body : List ℕ} {d : ℕ} → Fit body d → (place : ℕ) → look_fit body place ≡ look_direct body place
unfolding look_direct look_fit
look-fits fit place = rw fit.fits
