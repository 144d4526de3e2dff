-- What gamma and delta have in common: a codeword for each v from 1 to 2^32, told apart from whatever follows it. Assumes nothing.
use mathlib.Core.Path.{◌≡◌, sym, ap, ◌∙◌}
use Prim.Native.Nat.{ℕ, ◌≤◌, ◌<◌}
use mathlib.Core.List.{List, ◌++◌}
use lib.ListN.{length, drop}
use lib.Seq.{drop_at}
use Rattle.meaning.specs.Answer.{Answer, given}
use Rattle.meaning.specs.Limits.{number_limit}
use Rattle.meaning.specs.Places.{Below}
use Rattle.meaning.proofs.Lasting.{Lasts}

-- v was read from k bits at the start of l: they are its codeword
pub record Back (most : ℕ) (bits : ℕ → List ℕ) (l : List ℕ) (v k : ℕ) : Type 0 where
  pub is : l ≡ bits v ++ drop k l
  pub some : 0 < v
  pub few : v ≤ most
  pub within : k ≤ length l

-- some bits are taken, and all of them are there
abbrev pub Taken : List ℕ → ℕ × ℕ → Type 0
Taken l t = (0 < t.1) × (t.1 ≤ length l)

pub record Word (m : ℕ) (bits : ℕ → List ℕ) (word : List ℕ → Answer (ℕ × ℕ)) : Type 0 where
  pub forth : (v : ℕ) (rest : List ℕ) → 0 < v → v ≤ number_limit → word (bits v ++ rest) ≡ given (v, length (bits v))
  pub back : (l : List ℕ) (t : ℕ × ℕ) → Below 2 l → word l ≡ given t → Back number_limit bits l t.0 t.1
  -- a codeword that is not cut short is the same whatever follows it
  pub lasts : (l more : List ℕ) → Lasts (Taken l) (word l) (word (l ++ more))
  -- a codeword takes at most m bits, each 0 or 1
  pub most : (v : ℕ) → 0 < v → v ≤ number_limit → length (bits v) ≤ m
  pub small : (v : ℕ) → Below 2 (bits v)

-- a list that begins with some bits goes on after as many as they are
pub goes_on : (l g r : List ℕ) (k : ℕ) → l ≡ g ++ r → length g ≡ k → l ≡ g ++ drop k l
goes_on l g r k e n = e ∙ ap (λ (x : List ℕ). g ++ x) (sym (drop_at g r k n) ∙ ap (drop k) (sym e))
