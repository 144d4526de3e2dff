-- Bits on their way to an output: fewer than eight wait until they fill a byte.
use Rattle.std.specs.Prelude.{ℕ, ◌+◌, ◌*◌, ◌^◌, ◌<◌, ◌≡◌, List, ◌++◌, length}
use Rattle.std.proofs.lemmas.List.Edits.{sets}
use Rattle.meaning.specs.Bits.{bits_high, pack}
use Rattle.elias.specs.declared.output.Pending.{Pending}

-- the bits that wait
abbrev pub waiting : Pending → List ℕ
waiting p = bits_high p.count p.bits

-- how many bits stand before the next
abbrev pub reach : Pending → ℕ
reach p = 8 * p.at.byte + p.count

-- what pushing n bits asks: no offset passes the largest number
pub record Free (p : Pending) (n : ℕ) : Type 0 where
  pub few : p.count < 8
  pub low : reach p + n < 2 ^ 66

-- the bits l were pushed: whatever follows, the output will hold what it would have held if l were still to come
pub record Pushed (l : List ℕ) (p : Pending) (out out' : List ℕ) (r : Pending) : Type 0 where
  pub few : r.count < 8
  pub reached : reach r ≡ reach p + length l
  pub same : (rest : List ℕ) → sets out' r.at.byte (pack (waiting r ++ rest)) ≡ sets out p.at.byte (pack (waiting p ++ (l ++ rest)))
