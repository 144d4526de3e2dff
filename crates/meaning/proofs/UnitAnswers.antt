-- When an answer of the source is what a code says of a unit, by the case that it is. Assumes nothing.
use Prim.Native.Nat.{ℕ, ◌-◌, ◌≤◌}
use mathlib.Core.Path.{◌≡◌, sym}
use mathlib.Core.List.{List}
use lib.ListN.{drop, replicate}
use Rattle.std.specs.Prelude.{Ok, Err}
use Rattle.meaning.specs.Answer.{Answer, given, refused}
use Rattle.meaning.specs.Limits.{unit_places}
use Rattle.meaning.specs.Places.{UnitIs}
use Rattle.meaning.specs.Says.{refusal_number, unit_told}
use Rattle.meaning.specs.declared.Position.{Position}
use Rattle.meaning.specs.declared.Refusal.{Refusal}
use Rattle.meaning.specs.declared.UnitRead.{UnitRead}

module _ {a : Answer (Position × List ℕ)} where
  pub is-read : {u : UnitRead} → a ≡ given (unit_told u) → u.count ≤ unit_places
      → drop u.count u.numbers ≡ replicate (unit_places - u.count) 0 → UnitIs a (Ok u)
  is-read {u} told few clear =
      record {
        told = sym told;
        few = λ v e. let same : u ≡ v = cc in rw same at few;
        clear = λ v e. let same : u ≡ v = cc in rw same at clear;
      }

  pub is-refused : {e : Refusal} → a ≡ refused (refusal_number e) → UnitIs a (Err e)
  is-refused told = record { told = sym told; few = λ u q. cc; clear = λ u q. cc }
