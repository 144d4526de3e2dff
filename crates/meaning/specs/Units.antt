-- Reading a body unit by unit, for any code. `unit left p` reads the unit at position p where `left` numbers are still to come, and answers with
-- where the next unit begins and with its numbers, or the refusal. Every unit holds a number at least, so there are no more units than numbers:
-- the first argument of `read_from` and `look_from` counts them down.
use Rattle.std.specs.Prelude.{ℕ, zero, suc, ◌+◌, ◌-◌, ◌<◌, ◌≡◌, Bool, true, cond, List, [], ◌++◌, ltb, length, get_or}
use Rattle.meaning.specs.Answer.{Answer, given, refused, bind, need}
use Rattle.meaning.specs.Limits.{broken}

-- `joins before numbers`: a unit of these numbers may follow one of those; `done p`: nothing is left over at p
module _ {P : Type 0} (unit : ℕ → P → Answer (P × List ℕ)) (joins : List ℕ → List ℕ → Bool) (done : P → Bool) where
  unfoldable pub read_from : ℕ → ℕ → List ℕ → P → Answer (List ℕ)
  read_from zero zero before p = need (done p) broken (given [])
  -- not reached: numbers are left and no unit may come, but each unit holds a number
  read_from zero (suc n) before p = refused broken
  read_from (suc units) zero before p = need (done p) broken (given [])
  read_from (suc units) (suc n) before p =
      bind (unit (suc n) p) (λ u.
      need (joins before u.1) broken
      (bind (read_from units (suc n - length u.1) u.1 u.0) (λ xs. given (u.1 ++ xs))))

  -- the strict reading of n numbers from p on, after a unit of the numbers `before`: every unit, and then nothing left over
  unfoldable pub read_units : ℕ → List ℕ → P → Answer (List ℕ)
  read_units n before p = read_from n n before p

module _ {P : Type 0} (unit : ℕ → P → Answer (P × List ℕ)) where
  unfoldable pub look_from : ℕ → ℕ → ℕ → P → Answer ℕ
  -- not reached where the place is below the count
  look_from zero left place p = refused broken
  look_from (suc units) left place p =
      bind (unit left p) (λ u.
      cond (ltb place (length u.1)) (given (get_or u.1 place 0))
      (look_from units (left - length u.1) (place - length u.1) u.0))

  -- the number at a place of n: units from the first through the one that holds the place, and nothing after
  unfoldable pub look_units : ℕ → ℕ → P → Answer ℕ
  look_units n place p = look_from n n place p

-- a stretch of units: from p on, where `left` numbers are still to come, so many units hold these numbers in turn and the unit after them is at q.
-- Each may follow the one before it; the last holds the numbers `last`
pub data Stretch {P : Type 0} (unit : ℕ → P → Answer (P × List ℕ)) (joins : List ℕ → List ℕ → Bool) (left : ℕ) (p : P) : List ℕ → ℕ → List ℕ → P → Type 0 where
  none : Stretch unit joins left p [] 0 [] p
  more : {xs : List ℕ} {units : ℕ} {last : List ℕ} {q : P} → Stretch unit joins left p xs units last q → length xs < left
      → (u : P × List ℕ) → unit (left - length xs) q ≡ given u → joins last u.1 ≡ true → Stretch unit joins left p (xs ++ u.1) (units + 1) u.1 u.0
