-- What an operation answers: what it gives, or the number of its refusal.
use Rattle.std.specs.Prelude.{ℕ, suc, Bool, true, false, List, [], ◌∷◌, ◌++◌, length, drop}

pub data Answer (A : Type 0) : Type 0 where
  given : A → Answer A
  refused : ℕ → Answer A

-- go on with what was given; the first refusal is the answer
abbrev pub bind : {A B : Type 0} → Answer A → (A → Answer B) → Answer B
bind (given a) k = k a
bind (refused e) k = refused e

-- refuse by number e unless the test holds, else go on
abbrev pub need : {A : Type 0} → Bool → ℕ → Answer A → Answer A
need true e a = a
need false e a = refused e

-- the refusal's number; accepted is number 0
abbrev pub number : {A : Type 0} → Answer A → ℕ
number (given a) = 0
number (refused e) = e

-- the list that was given; a refusal comes with an empty one
abbrev pub list : Answer (List ℕ) → List ℕ
list (given xs) = xs
list (refused e) = []

-- how many there are of what was given
abbrev pub amount : Answer (List ℕ) → Answer ℕ
amount a = bind a (λ xs. given (length xs))

-- what an output holds afterwards: the list at its start and no more; after a refusal it keeps its contents
abbrev pub filled : Answer (List ℕ) → List ℕ → List ℕ
filled (given xs) out = xs ++ drop (length xs) out
filled (refused e) out = out

-- a refusal that names the column at fault
pub data Verdict : Type 0 where
  passed : Verdict
  blamed : ℕ → ℕ → Verdict

-- the first refusal is the verdict
abbrev pub ◌then◌ : Verdict → Verdict → Verdict
passed then w = w
blamed e k then w = blamed e k

infixr 20 ◌then◌
-- a refusal that names column 0, unless the test holds
abbrev pub ask : Bool → ℕ → Verdict
ask true e = passed
ask false e = blamed e 0

-- each in turn, counted from k: the first that refuses is at fault
abbrev pub in_turn : {A B : Type 0} → (A → Answer B) → ℕ → List A → Verdict
in_turn f k [] = passed
in_turn f k (x ∷ xs) = blame (f x) k then in_turn f (suc k) xs
  where
    blame : {B : Type 0} → Answer B → ℕ → Verdict
    blame (given b) k = passed
    blame (refused e) k = blamed e k

-- an answer behind a verdict: where that refuses, its number is the answer's, and the column at fault is not told
abbrev pub after : {A : Type 0} → Verdict → Answer A → Answer A
after passed a = a
after (blamed e k) a = refused e
