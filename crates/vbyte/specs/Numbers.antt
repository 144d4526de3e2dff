-- One number at an offset of a body: its value and the offset after it, or the refusal.
use Rattle.std.specs.Prelude.{ℕ, ◌+◌, ◌-◌, ◌*◌, ◌<◌, ◌≤◌, ◌≡◌, List, length, get_or, drop}
use Rattle.std.proofs.lemmas.List.Edits.{sets}
use Rattle.meaning.specs.Answer.{Answer, given, bind}
use Rattle.meaning.specs.Places.{Below, part}
use Rattle.meaning.specs.VByte.{later_in, vbyte_in}
use Rattle.meaning.specs.declared.Refusal.{Refusal}
use Rattle.meaning.specs.declared.Refusal.TheVariants as refusal
use Rattle.vbyte.specs.declared.Number.{Number}

abbrev pub number_told : Number → ℕ × ℕ
number_told t = (t.value, t.next.byte)

unfoldable pub number_at : List ℕ → ℕ → Answer (ℕ × ℕ)
number_at body at = bind (vbyte_in (drop at body)) (λ t. given (t.0, at + t.1))

-- the same from a later byte on, after which at most k more follow: the bytes before make `low`, and this one counts `scale` times
unfoldable pub later_at : ℕ → ℕ → ℕ → List ℕ → ℕ → Answer (ℕ × ℕ)
later_at k scale low body at = bind (later_in k (drop at body)) (λ t. given (low + scale * t.0, at + t.1))

-- n numbers, at most so many, take one byte each from an offset on, and were stored in work from a place on
pub record Ones (body : List ℕ) (at most from : ℕ) (work work' : List ℕ) (n : ℕ) : Type 0 where
  pub few : n ≤ most
  pub there : n ≤ length body - at
  pub low : Below 128 (part body at n)
  pub here : work' ≡ sets work from (part body at n)

-- the byte b stands at an offset, or the body ends before it
pub record Byte (body : List ℕ) (at b : ℕ) : Type 0 where
  pub inside : at < length body
  pub is : b ≡ get_or body at 0
  pub small : b < 256

pub record Cut (body : List ℕ) (at : ℕ) (e : Refusal) : Type 0 where
  pub past : length body ≤ at
  pub told : e ≡ refusal.CutShort
