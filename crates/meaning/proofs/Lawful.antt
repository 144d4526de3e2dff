-- What is proved of every code. Assumes nothing.
use Prim.Native.Nat.{ℕ, ◌+◌, ◌*◌, ◌≤◌, ◌<◌}
use mathlib.Core.Path.{◌≡◌}
use mathlib.Core.Bool.{Bool, true, false}
use mathlib.Core.List.{List, [], ◌∷◌, ◌++◌}
use mathlib.Core.Logic.{inl, inr}
use lib.ListN.{length, get_or}
use Rattle.meaning.specs.Answer.{Answer, given}
use Rattle.meaning.specs.Limits.{number_limit, most_numbers}
use Rattle.meaning.specs.Places.{Below, Spare}
use Rattle.meaning.specs.Codes.{Code, Way, by_units, directly, look_by, read_code, look_code}
use Rattle.meaning.specs.declared.Position.{Position}
use Rattle.meaning.proofs.Answers.{Faulty, bind-given}
use Rattle.meaning.proofs.Lasting.{Lasts, lasts-faulty, Overrun, units-overrun}
use Rattle.meaning.proofs.Lasting.Lasts.{cut, wrong, same}
use Rattle.meaning.proofs.Units.{Good, look-read}

-- what reads as a list is what is written from it, byte for byte; the list has n numbers, each below 2^32
pub record Read (c : Code) (body : List ℕ) (n : ℕ) (xs : List ℕ) : Type 0 where
  pub bytes : c.write xs ≡ body
  pub many : length xs ≡ n
  pub small : Below number_limit xs

-- what a direct lookup owes: where reading succeeds it gives the number there, and whatever it is refused by is a fault
pub record Direct (c : Code) (look : List ℕ → ℕ → Answer ℕ) : Type 0 where
  pub agrees : (body : List ℕ) (n : ℕ) (xs : List ℕ) → Below 256 body → read_code c body n ≡ given xs → (place : ℕ) → place < length xs
      → look body place ≡ given (get_or xs place 0)
  pub faulty : (body : List ℕ) (place : ℕ) → Faulty (look body place)

-- a lookup by units owes nothing more: its laws are the same for every code
abbrev pub Looked : Code → Way → Type 0
Looked c by_units = Unit {0}
Looked c (directly look) = Direct c look

pub record Lawful (c : Code) : Type 0 where
  -- a unit holds a number at least, and none beyond the list
  pub good : (body : List ℕ) → Below 256 body → Good (c.unit body)
  -- whether a unit that ends at a position lies within the body
  pub inside : List ℕ → Position → Bool
  -- a start or a unit that is not cut short is the same whatever follows the body, and lies within it if the unit before it does
  pub starts : (body more : List ℕ) (n : ℕ) → Lasts (λ p. inside body p ≡ true) (c.start body n) (c.start (body ++ more) n)
  pub units : (body more : List ℕ) (left : ℕ) (p : Position)
      → Lasts (λ u. inside body p ≡ true → inside body u.0 ≡ true) (c.unit body left p) (c.unit (body ++ more) left p)
  -- and where bytes follow, they are left over
  pub over : (body : List ℕ) (b : ℕ) (more : List ℕ) (p : Position) → inside body p ≡ true → c.done (body ++ (b ∷ more)) p ≡ false
  -- any unit may be the first
  pub fresh : Spare c.joins [] 0
  -- (a) reading what was written gives the list, where that is no longer than a column
  pub forth : (xs : List ℕ) → length xs ≤ most_numbers → Below number_limit xs → read_code c (c.write xs) (length xs) ≡ given xs
  -- (b) and back
  pub back : (body : List ℕ) (n : ℕ) (xs : List ℕ) → Below 256 body → read_code c body n ≡ given xs → Read c body n xs
  -- (d) the written length is at most the worst size; and what is written are bytes
  pub most : (xs : List ℕ) → Below number_limit xs → length (c.write xs) ≤ c.worst (length xs)
  pub bytes : (xs : List ℕ) → Below number_limit xs → Below 256 (c.write xs)
  -- the worst size grows with the list, by 9 bytes a number at most; an empty body may have 4
  pub grows : (k n : ℕ) → k ≤ n → c.worst k ≤ c.worst n
  pub nine : (n : ℕ) → c.worst n ≤ 9 * n + 4
  -- how numbers are looked up
  pub looked : Looked c c.way

-- (c) where reading succeeds, a lookup at every place gives the number there, whatever the code
module _ (c : Code) (body : List ℕ) (n : ℕ) (xs : List ℕ) (b : Below 256 body) (e : read_code c body n ≡ given xs) (place : ℕ) (h : place < length xs) where
  look-by : (w : Way) → Looked c w → look_by c w body n place ≡ given (get_or xs place 0)
  unfolding read_code
  look-by by_units l =
      let (p, ep, er) = bind-given (c.start body n) _ xs e in
      rw ep (look-read (c.unit body) c.joins (c.done body) n [] p xs er place h)
  look-by (directly look) l = l.agrees body n xs b e place h

  pub look-code : Lawful c → look_code c body n place ≡ given (get_or xs place 0)
  unfolding look_code
  look-code l = look-by c.way l.looked

-- ---- bytes added behind a body
module _ (c : Code) (l : Lawful c) (body : List ℕ) where
  pub start-faulty : (n : ℕ) → Faulty (c.start body n)
  start-faulty n = lasts-faulty (l.starts body [] n)

  pub unit-faulty : (left : ℕ) (p : Position) → Faulty (c.unit body left p)
  unit-faulty left p = lasts-faulty (l.units body [] left p)

  -- a reading that is not cut short is broken by them
  pub code-overrun : (b : ℕ) (more : List ℕ) (n : ℕ) → Overrun (read_code c body n) (read_code c (body ++ (b ∷ more)) n)
  unfolding read_code
  code-overrun b more n = by-start (l.starts body (b ∷ more) n)
    where
      by-start : Lasts (λ p. l.inside body p ≡ true) (c.start body n) (c.start (body ++ (b ∷ more)) n)
          → Overrun (read_code c body n) (read_code c (body ++ (b ∷ more)) n)
      by-start (cut e) = inl (rw e)
      by-start (wrong e g) = inr (rw g)
      by-start (same p e g s) =
          rw (e, g)
          (units-overrun (c.unit body) (c.unit (body ++ (b ∷ more))) c.joins (c.done body) (c.done (body ++ (b ∷ more)))
          (λ q. l.inside body q ≡ true) (l.units body (b ∷ more)) (l.over body b more) n [] p s)
