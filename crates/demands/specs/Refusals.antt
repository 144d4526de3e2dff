-- By which numbers an operation may refuse.
use Rattle.std.specs.Prelude.{ℕ, ◌≡◌, Bool, true, false, ◌||◌, List, [], ◌∷◌, eqb}
use Rattle.meaning.specs.Answer.{Answer, given, refused, Verdict, passed, blamed}

unfoldable pub among : ℕ → List ℕ → Bool
among e [] = false
among e (x ∷ xs) = eqb e x || among e xs

-- an answer that, where it refuses, does so by one of these numbers
abbrev pub RefusesBy : {A : Type 0} → List ℕ → Answer A → Type 0
RefusesBy es (given a) = Unit {0}
RefusesBy es (refused e) = among e es ≡ true

abbrev pub BlamesBy : List ℕ → Verdict → Type 0
BlamesBy es passed = Unit {0}
BlamesBy es (blamed e k) = among e es ≡ true

-- an answer as a verdict: whether it gives something
abbrev pub verdict_of : {A : Type 0} → Answer A → Verdict
verdict_of (given a) = passed
verdict_of (refused e) = blamed e 0

-- a verdict's number; passed is number 0
abbrev pub refusal : Verdict → ℕ
refusal passed = 0
refusal (blamed e k) = e
