-- What a function that makes a list in its place answers. Assumes nothing.
use Prim.Native.Nat.{ℕ, ◌+◌, ◌≤◌}
use mathlib.Core.Path.{◌≡◌, refl, sym, ap, ◌∙◌}
use mathlib.Core.Bool.{Bool, true, false}
use mathlib.Core.List.{List}
use native.Mathlib.Omega.{arith}
use lib.ListN.{length, take}
use lib.Seq.{sets}
use Rattle.std.specs.Prelude.{Result, Ok, Err}
use Rattle.meaning.specs.Answer.{Answer, given, refused, bind, need, amount}
use Rattle.meaning.specs.Limits.{broken}
use Rattle.meaning.specs.Places.{part, Got}
use Rattle.meaning.specs.Says.{refusal_number, says}
use Rattle.meaning.specs.declared.Refusal.{Refusal}
use Rattle.meaning.proofs.Answers.{not-given}
use Rattle.meaning.proofs.Stores.{part-sets, take-sets}

pub got-refused : (a : Answer (List ℕ)) (from : ℕ) (w w' : List ℕ) (e : Refusal) → a ≡ refused (refusal_number e) → take from w' ≡ take from w
    → Got a from w w' (Err e)
got-refused a from w w' e is kept = record { told = ap amount (sym is); here = λ xs q. absurd (not-given (refusal_number e) xs (sym is ∙ q)); kept = kept }

-- n numbers are given, and they have been stored from the place on
pub got-stored : (a : Answer (List ℕ)) (from n : ℕ) (w w' xs : List ℕ) → a ≡ given xs → length xs ≡ n → from + n ≤ length w → w' ≡ sets w from xs
    → Got a from w w' (Ok n)
got-stored a from n w w' xs is many room stored =
    record {
      told = ap (λ (k : ℕ). given k) (sym many) ∙ ap amount (sym is);
      here = λ ys q. let e : xs ≡ ys = cc in rw (← e, stored) (part-sets xs w from (omega arith));
      kept = rw stored (take-sets xs w from from (omega arith));
    }

-- ---- a list that was read goes on to the next stage
module _ (a : Answer (List ℕ)) (from : ℕ) (w w₁ : List ℕ) (q : Result ℕ Refusal) (so : Got a from w w₁ q) where
  pub got-given : (n : ℕ) → q ≡ Ok n → (a ≡ given (part w₁ from n)) × (length (part w₁ from n) ≡ n)
  got-given n e = go a so.here (sym (ap says e) ∙ so.told)
    where
      go : (b : Answer (List ℕ)) → ((xs : List ℕ) → b ≡ given xs → part w₁ from (length xs) ≡ xs) → given n ≡ amount b
          → (b ≡ given (part w₁ from n)) × (length (part w₁ from n) ≡ n)
      go (given xs) h t =
          let many : length xs ≡ n = cc in
          let is : part w₁ from n ≡ xs = ap (part w₁ from) (sym many) ∙ h xs refl in
          (ap (λ (l : List ℕ). given l) (sym is), ap length is ∙ many)
      go (refused r) h t = absurd (cc)

  pub got-not : (r : Refusal) → q ≡ Err r → a ≡ refused (refusal_number r)
  got-not r e = go a (sym (ap says e) ∙ so.told)
    where
      go : (b : Answer (List ℕ)) → refused (refusal_number r) ≡ amount b → b ≡ refused (refusal_number r)
      go (given xs) t = cc
      go (refused s) t = let z : refusal_number r ≡ s = cc in ap (λ (k : ℕ). refused k) (sym z)

  module _ (f : List ℕ → Answer (List ℕ)) where
    pub got-stop : (r : Refusal) → q ≡ Err r → Got (bind a f) from w w₁ (Err r)
    got-stop r e = got-refused (bind a f) from w w₁ r (ap (λ (b : Answer (List ℕ)). bind b f) (got-not r e)) so.kept

    pub got-then : (n : ℕ) → q ≡ Ok n → (w₂ : List ℕ) (r : Result ℕ Refusal) → Got (f (part w₁ from n)) from w₁ w₂ r → Got (bind a f) from w w₂ r
    got-then n e w₂ r next = rw (got-given n e).0 (record { told = next.told; here = next.here; kept = next.kept ∙ so.kept })

-- the one refusal, whichever test comes first
pub need-broken : {A : Type 0} (b : Bool) (m : Answer A) → m ≡ refused broken → need b broken m ≡ refused broken
need-broken true m e = e
need-broken false m e = refl
