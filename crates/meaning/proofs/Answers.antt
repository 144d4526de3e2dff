-- Laws of answers. Assumes nothing.
use Prim.Native.Nat.{ℕ}
use mathlib.Core.Path.{◌≡◌, refl}
use mathlib.Core.Bool.{Bool, true, false, cond}
use mathlib.Core.List.{List}
use mathlib.Core.Logic.{◌⊎◌, inl, inr}
use lib.ListN.{length}
use native.Mathlib.Omega.{arith}
use Rattle.meaning.specs.Answer.{Answer, given, refused, bind, need, number, amount}
use Rattle.meaning.specs.Limits.{cut_short, broken}

pub not-given : {A : Type 0} (e : ℕ) (a : A) → refused e ≡ given a → ⊥
not-given e a q = let z : ◌≡◌ {A = ℕ} 0 1 = cc in omega arith

module _ {A B : Type 0} where
  -- what gives, gave at each step
  pub bind-given : (m : Answer A) (k : A → Answer B) (b : B) → bind m k ≡ given b → (a : A) × (m ≡ given a) × (k a ≡ given b)
  bind-given (given a) k b e = (a, refl, e)
  bind-given (refused r) k b e = absurd (not-given r b e)

  -- the same with another way to go on, where that agrees on what is given
  pub bind-cong : (m : Answer A) (j k : A → Answer B) → ((a : A) → m ≡ given a → j a ≡ k a) → bind m j ≡ bind m k
  bind-cong (given a) j k h = h a refl
  bind-cong (refused r) j k h = refl

module _ {A : Type 0} where
  pub need-given : (b : Bool) (e : ℕ) (m : Answer A) (a : A) → need b e m ≡ given a → (b ≡ true) × (m ≡ given a)
  need-given true e m a q = (refl, q)
  need-given false e m a q = absurd (not-given e a q)

  -- a refusal by the number of the test before it
  pub need-refused : (b : Bool) (e : ℕ) → need {A = A} b e (refused e) ≡ refused e
  need-refused true e = refl
  need-refused false e = refl

-- what is made of something is refused as that is; so is a list's amount
pub made-number : {A B : Type 0} (m : Answer A) (f : A → B) → number (bind m (λ a. given (f a))) ≡ number m
made-number (given a) f = refl
made-number (refused e) f = refl

pub amount-number : (m : Answer (List ℕ)) → number (amount m) ≡ number m
amount-number m = made-number m length

-- the two sorts of a body's faults: 9, and 13
abbrev pub Sort : ℕ → Type 0
Sort e = (e ≡ cut_short) ⊎ (e ≡ broken)

abbrev pub a-cut : Sort cut_short
a-cut = inl refl

abbrev pub a-break : Sort broken
a-break = inr refl

-- whatever a body is refused by is one of them
abbrev pub Faulty : {A : Type 0} → Answer A → Type 0
Faulty (given a) = Unit {0}
Faulty (refused e) = Sort e

pub bind-faulty : {A B : Type 0} (m : Answer A) (k : A → Answer B) → Faulty m → ((a : A) → Faulty (k a)) → Faulty (bind m k)
bind-faulty (given a) k h j = j a
bind-faulty (refused e) k h j = h

pub need-faulty : {A : Type 0} (b : Bool) (e : ℕ) (m : Answer A) → Sort e → Faulty m → Faulty (need b e m)
need-faulty true e m s h = h
need-faulty false e m s h = s

pub cond-faulty : {A : Type 0} (b : Bool) (m n : Answer A) → Faulty m → Faulty n → Faulty (cond b m n)
cond-faulty true m n h k = h
cond-faulty false m n h k = k
