-- Bytes added behind a body: what is not cut short stays as it is. Assumes nothing.
use Prim.Native.Nat.{ℕ, zero, suc, ◌-◌, ◌≤◌}
use mathlib.Core.Path.{◌≡◌, refl}
use mathlib.Core.Bool.{Bool, true, false}
use mathlib.Core.List.{List, ◌++◌}
use mathlib.Core.Logic.{◌⊎◌, inl, inr}
use native.Mathlib.Omega.{arith}
use lib.Dec.{leb}
use lib.ListN.{length, drop, length-append, drop_of_length-le}
use lib.Seq.{drop-append-le}
use borrow.Author.Tests.{le-leb, leb-true}
use Rattle.meaning.specs.Answer.{Answer, given, refused, bind, need}
use Rattle.meaning.specs.Limits.{cut_short, broken}
use Rattle.meaning.specs.Units.{read_from, read_units}
use Rattle.meaning.proofs.Answers.{Faulty, a-cut, a-break}
use Rattle.meaning.proofs.Tests.{by_order, by-test}
use Rattle.meaning.proofs.Units.{join}

-- an answer of a body, and the answer of the same with bytes added: what breaks a rule still does, and what is given is given again and is such
pub data Lasts {A : Type 0} (Such : A → Type 0) (short long : Answer A) : Type 0 where
  cut : short ≡ refused cut_short → Lasts Such short long
  wrong : short ≡ refused broken → long ≡ refused broken → Lasts Such short long
  same : (a : A) → short ≡ given a → long ≡ given a → Such a → Lasts Such short long

pub lasts-faulty : {A : Type 0} {Such : A → Type 0} {short long : Answer A} → Lasts Such short long → Faulty short
lasts-faulty (cut e) = rw e a-cut
lasts-faulty (wrong e f) = rw e a-break
lasts-faulty (same a e f s) = rw e tt

-- ---- by the parts of a definition
module _ {A : Type 0} {Such : A → Type 0} where
  pub lasts-given : (a : A) → Such a → Lasts Such (given a) (given a)
  lasts-given a s = same a refl refl s

  -- a length that must be there: with more bytes it is still there
  pub lasts-there : (here there : Bool) (m n : Answer A) → (here ≡ true → there ≡ true) → (here ≡ true → Lasts Such m n)
      → Lasts Such (need here cut_short m) (need there cut_short n)
  lasts-there true there m n t l = rw (t refl) (l refl)
  lasts-there false there m n t l = cut refl

  -- n elements that must be there are still there with more behind them
  pub lasts-long : (n : ℕ) (l more : List ℕ) (short long : Answer A) → (n ≤ length l → Lasts Such short long)
      → Lasts Such (need (leb n (length l)) cut_short short) (need (leb n (length (l ++ more))) cut_short long)
  lasts-long n l more short long h =
      lasts-there (leb n (length l)) (leb n (length (l ++ more))) short long
      (λ t. le-leb n (length (l ++ more)) (omega (arith, leb-true n (length l) t, length-append l more)))
      (λ t. h (leb-true n (length l) t))

  -- a rule that asks the same of both
  pub lasts-rule : (test : Bool) (m n : Answer A) → (test ≡ true → Lasts Such m n) → Lasts Such (need test broken m) (need test broken n)
  lasts-rule true m n l = l refl
  lasts-rule false m n l = wrong refl refl

  pub lasts_as : {m m' n n' : Answer A} → m ≡ m' → n ≡ n' → Lasts Such m' n' → Lasts Such m n
  lasts_as e f l = rw (e, f) l

  pub lasts-bind : {B : Type 0} {This : B → Type 0} (m n : Answer B) (j k : B → Answer A) → Lasts This m n
      → ((b : B) → m ≡ given b → This b → Lasts Such (j b) (k b)) → Lasts Such (bind m j) (bind n k)
  lasts-bind m n j k (cut e) h = cut (rw e)
  lasts-bind m n j k (wrong e f) h = wrong (rw e) (rw f)
  lasts-bind m n j k (same b e f s) h = rw (e, f) (h b e s)

-- a list with more behind it begins, from any element on, as it did
pub drop-longer : (n : ℕ) (xs more : List ℕ) → (added : List ℕ) × (drop n (xs ++ more) ≡ drop n xs ++ added)
drop-longer n xs more =
    by_order (length xs) n
    (λ past. (drop n (xs ++ more), rw (drop_of_length-le xs {i = n} (omega arith))))
    (λ within. (more, drop-append-le n xs more within))

-- a strict reading that is not cut short is broken by bytes added
abbrev pub Overrun : {A : Type 0} → Answer A → Answer A → Type 0
Overrun short long = (short ≡ refused cut_short) ⊎ (long ≡ refused broken)

-- the unit readers of a body and of the same with bytes added
module _ {P : Type 0} (short long : ℕ → P → Answer (P × List ℕ)) (joins : List ℕ → List ℕ → Bool) (done over : P → Bool) (Inside : P → Type 0)
    (units : (left : ℕ) (p : P) → Lasts (λ u. Inside p → Inside u.0) (short left p) (long left p)) (more : (p : P) → Inside p → over p ≡ false) where
  from-overrun : (f n : ℕ) (before : List ℕ) (p : P) → Inside p → Overrun (read_from short joins done f n before p) (read_from long joins over f n before p)
  unfolding read_from
  from-overrun zero zero before p h = inr (rw (more p h))
  from-overrun zero (suc n) before p h = inr refl
  from-overrun (suc f) zero before p h = inr (rw (more p h))
  from-overrun (suc f) (suc n) before p h =
      by-unit (units (suc n) p) (λ u s. from-overrun f (suc n - length u.1) u.1 u.0 s)
    where
      by-rest : (ys : List ℕ) (a b : Answer (List ℕ)) → Overrun a b → Overrun (join ys a) (join ys b)
      by-rest ys a b (inl e) = inl (rw e)
      by-rest ys a b (inr e) = inr (rw e)

      by-unit : Lasts (λ u. Inside p → Inside u.0) (short (suc n) p) (long (suc n) p)
          → ((u : P × List ℕ) → Inside u.0 → Overrun (read_from short joins done f (suc n - length u.1) u.1 u.0)
          (read_from long joins over f (suc n - length u.1) u.1 u.0))
          → Overrun (read_from short joins done (suc f) (suc n) before p) (read_from long joins over (suc f) (suc n) before p)
      by-unit (cut e) rest = inl (rw e)
      by-unit (wrong e g) rest = inr (rw g)
      by-unit (same u e g s) rest =
          by-test (joins before u.1) (λ j. rw (e, g, j) (by-rest u.1 _ _ (rest u (s h)))) (λ j. inr (rw (g, j)))

  pub units-overrun : (n : ℕ) (before : List ℕ) (p : P) → Inside p → Overrun (read_units short joins done n before p) (read_units long joins over n before p)
  unfolding read_units
  units-overrun n before p h = from-overrun n n before p h
