-- Reading one number byte by byte, on plain values: what each test of `number_at`, `from_second` and `from_fourth` says of the definitions. Assumes nothing.
use Prim.Native.Nat.{ℕ, suc, ◌+◌, ◌-◌, ◌*◌, ◌≤◌, ◌<◌}
use mathlib.Core.Path.{◌≡◌, refl, ap, ap₂, ◌∙◌}
use mathlib.Core.Bool.{not}
use mathlib.Core.List.{List, [], ◌∷◌}
use native.Mathlib.Nat.{add_assoc, mul-add, mul_assoc}
use native.Mathlib.Numerals.{add-one}
use native.Mathlib.Omega.{arith}
use Rattle.std.specs.Prelude.{Result, Ok, Err}
use Rattle.std.specs.Result.{IsErrAnd}
use lib.Dec.{eqb}
use lib.ListN.{drop, drop_of_length-le, replicate}
use lib.Seq.{drop-cons}
use borrow.Author.Tests.{lt-ltb, le-ltb, le-leb, lt-leb}
use Rattle.meaning.specs.Answer.{Answer, given, refused, bind, need}
use Rattle.meaning.specs.Limits.{cut_short, broken}
use Rattle.meaning.specs.Places.{UnitIs}
use Rattle.meaning.specs.Positions.{at_byte}
use Rattle.meaning.specs.VByte.{later_in, vbyte_in, unit_vbyte}
use Rattle.meaning.specs.Says.{says_by}
use Rattle.meaning.specs.declared.Position.{Position}
use Rattle.meaning.specs.declared.Refusal.{Refusal}
use Rattle.meaning.proofs.UnitAnswers.{is-read, is-refused}
use Rattle.meaning.proofs.Tests.{by-test}
use Rattle.vbyte.specs.Numbers.{number_told, number_at, later_at, Byte, Cut}
use Rattle.vbyte.specs.declared.Number.{Number}

-- a byte before a number and its size, and a number and its size seen from an offset
abbrev pub led : ℕ → ℕ × ℕ → Answer (ℕ × ℕ)
led b t = given (b - 128 + 128 * t.0, 1 + t.1)

abbrev seen : ℕ → ℕ → ℕ → ℕ × ℕ → Answer (ℕ × ℕ)
seen scale low at t = given (low + scale * t.0, at + t.1)

led-first : (m : Answer (ℕ × ℕ)) (b at next : ℕ) → next ≡ at + 1 → bind m (seen 128 (b - 128) next) ≡ bind (bind m (led b)) (λ t. given (t.0, at + t.1))
led-first (refused e) b at next after = refl
led-first (given t) b at next after =
    let n : next + t.1 ≡ at + (1 + t.1) = omega arith in
    ap (λ (n : ℕ). given (b - 128 + 128 * t.0, n)) n

led-more : (m : Answer (ℕ × ℕ)) (b scale low at next : ℕ) → next ≡ at + 1
    → bind m (seen (scale * 128) (low + scale * (b - 128)) next) ≡ bind (bind m (led b)) (seen scale low at)
led-more (refused e) b scale low at next after = refl
led-more (given t) b scale low at next after =
    let x : low + scale * (b - 128) + scale * 128 * t.0 ≡ low + scale * (b - 128 + 128 * t.0) = rw (mul-add, mul_assoc, add_assoc) in
    let n : next + t.1 ≡ at + (1 + t.1) = omega arith in
    ap₂ (λ (x n : ℕ). given (x, n)) x n

-- a last byte, whose test is made once
last-seen : (b scale low at : ℕ)
    → need (not (eqb b 0)) broken (seen scale low at (b, 1)) ≡ bind (need {A = ℕ × ℕ} (not (eqb b 0)) broken (given (b, 1))) (seen scale low at)
last-seen b scale low at = by-test (not (eqb b 0)) (λ e. rw e) (λ e. rw e)

module _ (s : List ℕ) (at : ℕ) where
  -- the body ends before a byte, and a `?` hands that refusal on
  cut-told : (r : Result Number Refusal) {e : Refusal} → Cut s at e → IsErrAnd r (λ z. z ≡ e) → says_by number_told r ≡ refused cut_short
  cut-told (Ok t) cut h = absurd h
  cut-told (Err z) cut h = rw (h, cut.told)

  pub number-none : (r : Result Number Refusal) {e : Refusal} → Cut s at e → IsErrAnd r (λ z. z ≡ e) → says_by number_told r ≡ number_at s at
  unfolding number_at vbyte_in
  number-none r cut h = cut-told r cut h ∙ rw (drop_of_length-le s {i = at} cut.past)

  pub later-none : (k scale low : ℕ) (r : Result Number Refusal) {e : Refusal} → Cut s at e → IsErrAnd r (λ z. z ≡ e)
      → says_by number_told r ≡ later_at k scale low s at
  unfolding later_at later_in
  later-none k scale low r cut h = cut-told r cut h ∙ rw (drop_of_length-le s {i = at} cut.past)

  -- the byte b stands at the offset
  module _ {b : ℕ} (there : Byte s at b) {next : ℕ} (after : next ≡ at + 1) where
    byte_at : drop at s ≡ b ∷ drop next s
    byte_at = drop-cons s at 0 there.inside ∙ rw (there.is, after, add-one at)

    pub number-one : b < 128 → given (b, next) ≡ number_at s at
    unfolding number_at vbyte_in
    number-one h = rw (byte_at, lt-ltb b 128 h, after)

    pub number_more : 128 ≤ b → later_at 3 128 (b - 128) s next ≡ number_at s at
    unfolding number_at later_at vbyte_in
    number_more h = rw (byte_at, le-ltb b 128 h) (led-first (later_in 3 (drop next s)) b at next after)

    module _ (k scale low : ℕ) where
      pub later_last : b < 128 → need (not (eqb b 0)) broken (given (low + scale * b, next)) ≡ later_at (suc k) scale low s at
      unfolding later_at later_in
      later_last h = rw (byte_at, lt-ltb b 128 h) (rw after (last-seen b scale low at))

      pub later_more : 128 ≤ b → later_at k (scale * 128) (low + scale * (b - 128)) s next ≡ later_at (suc k) scale low s at
      unfolding later_at later_in
      later_more h = rw (byte_at, le-ltb b 128 h) (led-more (later_in k (drop next s)) b scale low at next after)

    module _ (scale low : ℕ) where
      pub later-big : 15 < b → refused broken ≡ later_at 0 scale low s at
      unfolding later_at later_in
      later-big h = rw (byte_at, lt-leb b 15 h)

      pub later-fifth : b ≤ 15 → need (not (eqb b 0)) broken (given (low + scale * b, next)) ≡ later_at 0 scale low s at
      unfolding later_at later_in
      later-fifth h = rw (byte_at, le-leb b 15 h) (rw after (last-seen b scale low at))

-- ---- the second byte, the third and the fourth, where more follow each
module _ (s : List ℕ) (at low : ℕ) {b : ℕ} (second : Byte s at b) (h : 128 ≤ b) where
  abbrev low14 : ℕ
  low14 = low + 128 * (b - 128)

  pub past_second : later_at 2 16384 low14 s (at + 1) ≡ later_at 3 128 low s at
  past_second = later_more s at second refl 2 128 low h

  module _ {c : ℕ} (third : Byte s (at + 1) c) (k : 128 ≤ c) where
    abbrev low21 : ℕ
    low21 = low14 + 16384 * (c - 128)

    pub past_third : later_at 1 2097152 low21 s (at + 2) ≡ later_at 3 128 low s at
    past_third = later_more s (at + 1) third (omega arith) 1 16384 low14 k ∙ past_second

    pub past_fourth : {d : ℕ} → Byte s (at + 2) d → 128 ≤ d → later_at 0 268435456 (low21 + 2097152 * (d - 128)) s (at + 3) ≡ later_at 3 128 low s at
    past_fourth fourth l = later_more s (at + 2) fourth (omega arith) 0 2097152 low21 l ∙ past_third

-- ---- what an answer of `number_at` says of the unit
abbrev one_unit : ℕ × ℕ → Answer (Position × List ℕ)
one_unit t = given (at_byte t.1, t.0 ∷ [])

unit-is : (m : Answer (ℕ × ℕ)) (at : ℕ) → bind m (λ t. one_unit (t.0, at + t.1)) ≡ bind (bind {B = ℕ × ℕ} m (λ t. given (t.0, at + t.1))) one_unit
unit-is (given t) at = refl
unit-is (refused e) at = refl

module _ (body : List ℕ) (left : ℕ) (p : Position) (r : Result Number Refusal) (told : says_by number_told r ≡ number_at body p.head.byte) where
  told-unit : unit_vbyte body left p ≡ bind (says_by number_told r) one_unit
  unfolding unit_vbyte number_at
  told-unit = rw told (unit-is (vbyte_in (drop p.head.byte body)) p.head.byte)

  pub number-given : {t : Number} → r ≡ Ok t → unit_vbyte body left p ≡ given (at_byte t.next.byte, t.value ∷ [])
  number-given e = rw e at told-unit

  pub unit-given : {t : Number} → r ≡ Ok t → {next : Position} → next ≡ at_byte t.next.byte
      → UnitIs (unit_vbyte body left p) (Ok (record { next = next; count = 1; numbers = t.value ∷ replicate 15 0 }))
  unit-given e is = is-read (rw is (number-given e)) (omega arith) refl

  pub unit-refused : {z : Refusal} → r ≡ Err z → UnitIs (unit_vbyte body left p) (Err z)
  unit-refused e = is-refused (rw e at told-unit)
