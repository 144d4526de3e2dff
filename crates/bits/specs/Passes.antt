-- What passing words says: which word holds the k-th one.
use Rattle.std.specs.Prelude.{ℕ, suc, ◌*◌, ◌≤◌, ◌<◌, ◌≡◌, List, Result, Ok, Err}
use Rattle.meaning.specs.Rank.{ones_before}
use Rattle.bits.specs.declared.words_of.Passed.{Passed}

-- the words passed, of so many, have so many ones, no more than k, and the word after them has the k-th
pub record Holds (bits : List ℕ) (words k : ℕ) (p : Passed) : Type 0 where
  pub less : p.words < words
  pub counted : p.ones ≡ ones_before bits (64 * p.words)
  pub few : p.ones ≤ k
  pub holds : k < ones_before bits (64 * suc p.words)

-- those before the word that holds the k-th one; none holds it where all have no more than k, and then how many they have is told
abbrev pub Passes : List ℕ → ℕ → ℕ → Result Passed ℕ → Type 0
Passes bits words k (Ok p) = Holds bits words k p
Passes bits words k (Err all) = (all ≡ ones_before bits (64 * words)) × (all ≤ k)
