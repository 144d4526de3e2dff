-- Rank and select over the bits of bytes, lowest bit of each byte first. Rank counts the ones before a bit, select finds the bit of the k-th one, counted
-- from 0.
use Rattle.std.specs.Prelude.{ℕ, zero, suc, ◌*◌, List, [], ◌∷◌, leb, length, take}
use Rattle.meaning.specs.Answer.{Answer, given, refused, bind, need}
use Rattle.meaning.specs.Bits.{low_bits}
use Rattle.meaning.specs.Limits.{most_bytes, no_sheet, no_place}
use Rattle.meaning.specs.Lists.{sum}

-- how many ones stand before a bit
unfoldable pub ones_before : List ℕ → ℕ → ℕ
ones_before bits k = sum (take k bits)

-- the bit of the k-th one; where there is none, the refusal e
unfoldable pub one_at : ℕ → ℕ → List ℕ → Answer ℕ
one_at e k [] = refused e
one_at e k (zero ∷ bits) = bind (one_at e k bits) (λ i. given (suc i))
one_at e zero (suc b ∷ bits) = given 0
one_at e (suc k) (suc b ∷ bits) = bind (one_at e k bits) (λ i. given (suc i))

-- asked alone: a slice is no longer than a sheet, and rank takes bits 0 through their number
unfoldable pub rank : List ℕ → ℕ → Answer ℕ
rank bytes bit =
    need (leb (length bytes) most_bytes) no_sheet
    (need (leb bit (8 * length bytes)) no_place (given (ones_before (low_bits bytes) bit)))

unfoldable pub select : List ℕ → ℕ → Answer ℕ
select bytes k = need (leb (length bytes) most_bytes) no_sheet (one_at no_place k (low_bits bytes))
