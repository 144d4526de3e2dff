-- Columns, or anything else, taken in turn: what a loop knows that has passed those below k. Assumes nothing.
use Prim.Native.Nat.{ℕ, zero, suc, ◌+◌, ◌≤◌, ◌<◌}
use mathlib.Core.Path.{◌≡◌, refl, sym, ap, ◌∙◌}
use mathlib.Core.List.{List, [], ◌∷◌}
use native.Mathlib.Numerals.{add-one}
use native.Mathlib.Omega.{arith}
use lib.ListN.{length, get_or, drop, drop_of_length-le}
use lib.Seq.{drop-cons}
use Rattle.meaning.specs.Answer.{Answer, given, refused, passed, blamed, in_turn}

pub not-passed : (e k : ℕ) → blamed e k ≡ passed → ⊥
not-passed e k q = let z : ◌≡◌ {A = ℕ} 0 1 = cc in omega arith

module _ {A B : Type 0} (f : A → Answer B) where
  -- one that passes, one that refuses
  pub turn-passed : (k : ℕ) (x : A) (xs : List A) (b : B) → f x ≡ given b → in_turn f k (x ∷ xs) ≡ in_turn f (suc k) xs
  turn-passed k x xs b e = rw e

  pub turn-refused : (k : ℕ) (x : A) (xs : List A) (z : ℕ) → f x ≡ refused z → in_turn f k (x ∷ xs) ≡ blamed z k
  turn-refused k x xs z e = rw e

  -- an answer either way
  by_answer : {X : Type 0} (x : A) → ((b : B) → f x ≡ given b → X) → ((z : ℕ) → f x ≡ refused z → X) → X
  by_answer {X} x g h = go (f x) refl
    where
      go : (a : Answer B) → f x ≡ a → X
      go (given b) e = g b e
      go (refused z) e = h z e

  -- the first passed, and so did the rest
  turns-passed : (k : ℕ) (x : A) (xs : List A) → in_turn f k (x ∷ xs) ≡ passed → ((b : B) × (f x ≡ given b)) × (in_turn f (suc k) xs ≡ passed)
  turns-passed k x xs p =
      by_answer x (λ b e. ((b, e), sym (turn-passed k x xs b e) ∙ p)) (λ z e. absurd (not-passed z k (sym (turn-refused k x xs z e) ∙ p)))

  -- where all pass, each does
  pub each-passed : (cs : List A) (d : A) (k i : ℕ) → in_turn f k cs ≡ passed → i < length cs → (b : B) × (f (get_or cs i d) ≡ given b)
  each-passed [] d k i p h = absurd (omega arith)
  each-passed (x ∷ xs) d k zero p h = (turns-passed k x xs p).0
  each-passed (x ∷ xs) d k (suc i) p h = each-passed xs d (suc k) i (turns-passed k x xs p).1 (omega arith)

-- those below k have passed: what is still to be asked, asked from k on, is the whole
abbrev pub PassedBelow : {A B : Type 0} → (A → Answer B) → List A → ℕ → Type 0
PassedBelow f cs k = in_turn f 0 cs ≡ in_turn f k (drop k cs)

module _ {A B : Type 0} (f : A → Answer B) (cs : List A) where
  pub below_end : (k : ℕ) → PassedBelow f cs k → length cs ≤ k → in_turn f 0 cs ≡ passed
  below_end k so h = so ∙ ap (in_turn f k) (drop_of_length-le cs h)

  module _ (d : A) (k : ℕ) (so : PassedBelow f cs k) (h : k < length cs) where
    opened : in_turn f 0 cs ≡ in_turn f k (get_or cs k d ∷ drop (suc k) cs)
    opened = so ∙ ap (in_turn f k) (drop-cons cs k d h)

    pub below-turn : (b : B) → f (get_or cs k d) ≡ given b → PassedBelow f cs (k + 1)
    below-turn b e = rw add-one (opened ∙ turn-passed f k (get_or cs k d) (drop (suc k) cs) b e)

    -- the first that refuses is at fault
    pub below-refuse : (z : ℕ) → f (get_or cs k d) ≡ refused z → in_turn f 0 cs ≡ blamed z k
    below-refuse z e = opened ∙ turn-refused f k (get_or cs k d) (drop (suc k) cs) z e
