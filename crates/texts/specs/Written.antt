-- What the functions that put a text promise: the bytes, and how many they are at most.
use Rattle.std.specs.Prelude.{ℕ, ◌+◌, ◌≤◌, ◌≡◌, List, length}
use Rattle.std.proofs.lemmas.List.Edits.{sets}
use Rattle.meaning.specs.Places.{Wrote}
use Rattle.texts.specs.declared.pieces.Page.{Page}

-- a part of it: a page that was p is q, on the same output
pub record Puts (bytes : List ℕ) (most : ℕ) (p q : Page) : Type 0 where
  pub wrote : Wrote bytes p.at.byte p.out.now q.out.now q.at
  pub short : q.at.byte ≤ p.at.byte + most
  pub same : q.out.ghost_name ≡ p.out.ghost_name

-- the whole: bytes stand at the start of an output, as far as they lie within it, and r says how many there are
pub record Written (bytes : List ℕ) (most : ℕ) (out out' : List ℕ) (r : ℕ) : Type 0 where
  pub ends : r ≡ length bytes
  pub here : out' ≡ sets out 0 bytes
  pub short : r ≤ most
