-- Blocks taken one after another, as long as they are plain. Assumes nothing.
use Prim.Native.Nat.{ℕ, ◌+◌, ◌-◌, ◌*◌, ◌/◌, ◌≤◌, ◌<◌, min}
use mathlib.Core.Path.{◌≡◌, refl, sym, ap, ◌∙◌}
use mathlib.Core.List.{List}
use native.Mathlib.Omega.{arith}
use Rattle.std.specs.Prelude.{Option, Some, None}
use lib.Count.{count_leading_zeros}
use lib.ListN.{length, get_or}
use lib.Seq.{sets}
use Rattle.meaning.specs.Answer.{given}
use Rattle.meaning.specs.Codes.{code_g8iu}
use Rattle.meaning.specs.DataBytes.{data_bytes}
use Rattle.meaning.specs.G8IU.{unit_g8iu}
use Rattle.meaning.specs.Places.{Below, Target, Took, Ends}
use Rattle.meaning.specs.Positions.{at_byte}
use Rattle.meaning.specs.declared.Place.{Place}
use Rattle.meaning.specs.declared.Position.{Position}
use Rattle.meaning.specs.declared.Taken.{Taken}
use Rattle.meaning.proofs.Taking.{Takes, takes-start, takes-turn, takes-long, takes-end}
use Rattle.g8iu.specs.Blocks.{numbers_at, most_of, least_of, Ending, BlockIs, Plain}
use Rattle.g8iu.proofs.Controls.{control-is}
use Rattle.g8iu.proofs.Numbers.{or-none, or_some, or-given}
use Rattle.g8iu.proofs.Spares.{fresh, spare_of}
use Rattle.g8iu.proofs.Standing.{unit-numbers, allows-plain, block-few, block-waste, block-first}

-- the blocks before an offset stand in work before a place. From `end` on fewer than 8 numbers are still to come, or there is room for fewer
pub record Going (body : List ℕ) (left : ℕ) (p : Position) (w₀ : List ℕ) (first room end : ℕ) (w : List ℕ) (next to spare : ℕ) : Type 0 where
  pub bytes : Below 256 body
  pub target : Target body w₀ first room
  pub units : ℕ
  pub far : to ≡ p.head.byte + 9 * units
  pub takes : Takes code_g8iu body left p w₀ first w (next - first) units spare (at_byte to)
  pub low : first ≤ next
  pub high : next ≤ first + room
  pub most : end ≤ first + (left - 7)
  pub fits : end ≤ first + (room - 7)

pub going_start : {body : List ℕ} {left : ℕ} {p : Position} {w₀ : List ℕ} {first room n k : ℕ} → Below 256 body → Target body w₀ first room
    → n ≡ min left room → k ≡ n - 7 → Going body left p w₀ first room (first + k) w₀ first p.head.byte 0
unfolding unit_g8iu
going_start {body} {left} {p} {w₀} {first} b t e l =
    let z : first - first ≡ 0 = omega arith in
    record {
      bytes = b;
      target = t;
      units = 0;
      far = omega arith;
      takes = rw z (takes-start code_g8iu body left p w₀ first (at_byte p.head.byte) fresh (λ k. refl));
      low = omega arith;
      high = omega arith;
      most = omega arith;
      fits = omega arith;
    }

module _ {body : List ℕ} {left : ℕ} {p : Position} {w₀ : List ℕ} {first room end : ℕ} {w : List ℕ} {next to spare : ℕ}
    (so : Going body left p w₀ first room end w next to spare) where
  pub going-long : length w ≡ length w₀
  going-long = takes-long code_g8iu body left p w₀ first w (next - first) so.units spare (at_byte to) so.takes

  pub going_end : {r : Taken} → Ends p (next - first) ((to - p.head.byte) / 9) spare (at_byte to) r → Took code_g8iu body left p room first w₀ w r
  going_end {r} e =
      let u : (to - p.head.byte) / 9 ≡ so.units = omega (arith, so.far) in
      takes-end code_g8iu body left p w₀ first w (next - first) so.units spare (at_byte to) so.takes room r (omega (arith, so.high)) (rw u at e)

  module _ (more : next < end) {ends : ℕ} (plain : Plain body to spare ends) where
    pub going-asks : Ending body to ends most_of least_of w next
    going-asks =
        record {
          inside = plain.inside;
          zeros = plain.zeros;
          some = omega (arith, plain.full);
          highest = refl;
          lowest = refl;
          fits = omega (arith, going-long, so.fits, so.target.inside);
        }

    pub going-spare : 24 ≤ count_leading_zeros 32 ends
    going-spare = let k = control-is (get_or body to 0) (so.bytes to) in rw plain.zeros (omega (arith, k.top, k.within))

    module _ {w' : List ℕ} {r : Option Place} (is : BlockIs body to next w w' r) where
      abbrev xs : List ℕ
      xs = is.numbers

      -- a block at fault is not taken, and leaves nothing
      pub going-fault : r ≡ None → Going body left p w₀ first room end w' next to spare
      going-fault e =
          let same : w' ≡ w = is.here ∙ ap (sets w next) (or-none next xs (sym is.ends ∙ e)) in
          rw same so

      module _ {q : Place} (some : r ≡ Some q) where
        abbrev after : ℕ
        after = q.number

        many : (0 < length xs) × (after ≡ next + length xs)
        many = or_some next xs (sym is.ends ∙ some)

        byte : get_or body to 0 < 256
        byte = so.bytes to

        given_is : numbers_at body to ≡ given xs
        given_is = is.are ∙ sym (or-given xs many.0)

        going-after : (next < after) × (after ≤ first + room)
        going-after = omega (arith, many, block-few body to byte xs given_is, so.fits)

        pub going_less : end - after < end - next
        going_less = let (past, within) = going-after in omega arith

        pub going-turn : Going body left p w₀ first room end w' after (to + 9) (count_leading_zeros 32 ends - 24)
        going-turn =
            let i = next - first in
            let k : after - first ≡ i + length xs = omega (arith, many, so.low) in
            let n : first + i ≡ next = omega (arith, so.low) in
            let z = plain.zeros in
            let allows = allows-plain {c = get_or body to 0} byte (left - i) (rw z at plain.full) (omega (arith, so.most, so.low)) in
            let u = unit-numbers body (left - i) (at_byte to) plain.inside allows (given xs) given_is in
            let f = block-first body to byte xs given_is (λ e. omega (arith, plain.full)) in
            let spares : count_leading_zeros 32 ends - 24 ≡ 8 - length (data_bytes xs) = rw z (block-waste body to byte xs given_is) in
            record {
              bytes = so.bytes;
              target = so.target;
              units = so.units + 1;
              far = omega (arith, so.far);
              takes = rw (k, spares)
                  (takes-turn code_g8iu body left p w₀ first w i so.units spare (at_byte to) so.takes (at_byte (to + 9), xs) w' (8 - length (data_bytes xs))
                  (omega (arith, so.most, so.low)) u many.0 (rw f (omega (arith, rw z at plain.joins))) (spare_of xs many.0) (rw n is.here));
              low = omega (arith, so.low, going-after);
              high = omega (arith, going-after);
              most = so.most;
              fits = so.fits;
            }
