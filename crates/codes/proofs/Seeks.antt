-- A run sought by the lengths that a code holds, stretch by stretch. Assumes nothing.
use Prim.Native.Nat.{ℕ, ◌+◌, ◌-◌, ◌≤◌, ◌<◌}
use mathlib.Core.Path.{◌≡◌, sym, ap, ◌∙◌}
use mathlib.Core.List.{List}
use native.Mathlib.Nat.{sub-zero}
use native.Mathlib.Omega.{arith}
use Rattle.std.specs.Prelude.{Result, Ok, Err}
use lib.ListN.{length, take}
use lib.Seq.{length-take-le, get_or-take}
use Rattle.meaning.specs.Answer.{given, refused}
use Rattle.meaning.specs.Codes.{code_of, look_code}
use Rattle.meaning.specs.Limits.{broken}
use Rattle.meaning.specs.Stages.{seek}
use Rattle.meaning.specs.declared.Place.{Place}
use Rattle.meaning.specs.Says.{refusal_number}
use Rattle.meaning.specs.declared.Position.{Position}
use Rattle.meaning.specs.declared.Refusal.{Refusal}
use Rattle.meaning.specs.declared.Taken.{Taken}
use Rattle.codes.specs.Goes.{Passed, Goes}
use Rattle.stages.specs.Seeks.{sought_from, Seeks}
use Rattle.stages.specs.declared.Sought.{Sought}
use Rattle.stages.proofs.Seeks.{seek-none, seek-stops}
use Rattle.codes.proofs.Lookings.{Looking, refuses, passes, looking-on, front}
use Rattle.codes.proofs.Stretches.{passed-long}
use Rattle.stages.specs.declared.Sought.TheVariants as sought

-- ---- by stretches of a code's numbers: the first `passed` of so many runs have been passed, which end after `done` numbers of n
pub record SeekingOn (code : ℕ) (body : List ℕ) (runs n place passed : ℕ) (p : Position) (done : ℕ) : Type 0 where
  pub looking : Looking code body runs passed p
  pub most : passed ≤ runs
  pub near : done ≤ place
  pub so : seek (look_code (code_of code) body runs) n place runs 0 0 ≡ seek (look_code (code_of code) body runs) n place (runs - passed) passed done

pub on-start : {code : ℕ} {body : List ℕ} {runs n place : ℕ} {p : Position} → Looking code body runs 0 p → SeekingOn code body runs n place 0 p 0
on-start {runs = runs} l = record { looking = l; most = omega arith; near = omega arith; so = rw (sub-zero runs) }

module _ {code : ℕ} {body : List ℕ} {runs n place passed : ℕ} {p : Position} {done : ℕ} (o : SeekingOn code body runs n place passed p done) where
  -- the next length is refused
  pub on-refused : passed < runs → {room from : ℕ} {w w' : List ℕ} {r : Result Taken Refusal}
      → Goes (code_of code) body (runs - passed) p room from w w' r → {e : Refusal} → r ≡ Err e
      → seek (look_code (code_of code) body runs) n place runs 0 0 ≡ refused (refusal_number e)
  on-refused h g q = o.so ∙ seek-stops (look_code (code_of code) body runs) n place (runs - passed) passed done (omega arith) _
      (refuses o.looking g q passed (omega arith) h)

  -- no run is left
  pub on-end : runs ≤ passed → seek (look_code (code_of code) body runs) n place runs 0 0 ≡ refused broken
  on-end h =
      o.so ∙ seek-none (look_code (code_of code) body runs) n place (runs - passed) passed done (omega arith)

  module _ {room : ℕ} {w w' : List ℕ} {t : Taken} (g : Passed (code_of code) body (runs - passed) p room 0 w w' t) (fits : room ≤ length w)
      (all : t.count ≤ room)
      {r : Result Sought Refusal} (s : Seeks (take t.count w') n place done r) where
    size : length (take t.count w') ≡ t.count
    size = length-take-le t.count w' (omega (arith, passed-long g))

    on-sought : seek (look_code (code_of code) body runs) n place runs 0 0 ≡ sought_from (look_code (code_of code) body runs) n place (runs - passed) passed
        t.count r
    on-sought =
        o.so
        ∙ s.told (look_code (code_of code) body runs) (runs - passed) passed
        (λ i h. let b : i < t.count = omega (arith, size) in
        front o.looking g fits i b (omega arith) ∙ ap (λ (x : ℕ). given x) (sym (get_or-take t.count w' i 0 b)))
        (omega (arith, size, passes o.looking g o.most))
        ∙ ap (λ (k : ℕ). sought_from (look_code (code_of code) body runs) n place (runs - passed) passed k r) size

    pub on-found : {j : Place} → r ≡ Ok (sought.At j) → seek (look_code (code_of code) body runs) n place runs 0 0 ≡ given (passed + j.number)
    on-found e = on-sought ∙ ap (sought_from (look_code (code_of code) body runs) n place (runs - passed) passed t.count) e

    pub on-few : {j : Place} → r ≡ Ok (sought.At j) → j.number < t.count
    on-few {j} e = let h : j.number < length (take t.count w') = rw e at s.within in omega (arith, size)

    pub on-fault : {e : Refusal} → r ≡ Err e → seek (look_code (code_of code) body runs) n place runs 0 0 ≡ refused (refusal_number e)
    on-fault e = on-sought ∙ ap (sought_from (look_code (code_of code) body runs) n place (runs - passed) passed t.count) e

    pub on-within : {d : Place} → r ≡ Ok (sought.After d) → (d.number ≤ n) × (done + t.count ≤ d.number) × (done ≤ place → d.number ≤ place)
    on-within {d} e =
        let (a, b, f) : (d.number ≤ n) × (done + length (take t.count w') ≤ d.number) × (done ≤ place → d.number ≤ place) = rw e at s.within in
        (a, omega (arith, size), f)

    pub on-next : {d : Place} → r ≡ Ok (sought.After d) → SeekingOn code body runs n place (passed + t.count) t.next d.number
    on-next {d} e =
        let m : runs - passed - t.count ≡ runs - (passed + t.count) = omega arith in
        record {
          looking = looking-on o.looking g;
          most = passes o.looking g o.most;
          near = (on-within e).2 o.near;
          so =
              on-sought ∙ ap (sought_from (look_code (code_of code) body runs) n place (runs - passed) passed t.count) e
              ∙ ap (λ (k : ℕ). seek (look_code (code_of code) body runs) n place k (passed + t.count) d.number) m;
        }
