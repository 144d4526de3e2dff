-- Numbers in bytes, least significant byte first.
use Rattle.std.specs.Prelude.{ℕ, zero, suc, ◌+◌, ◌*◌, ◌/◌, ◌%◌, List, [], ◌∷◌, take, drop}

-- x in k bytes
unfoldable pub bytes_of : ℕ → ℕ → List ℕ
bytes_of zero x = []
bytes_of (suc k) x = x % 256 ∷ bytes_of k (x / 256)

-- the number that bytes make
unfoldable pub number_of : List ℕ → ℕ
number_of [] = 0
number_of (b ∷ bs) = b + 256 * number_of bs

-- a header of a body or of a table is a number in 4 bytes
unfoldable pub word : ℕ → List ℕ
word x = bytes_of 4 x

-- the 4 bytes from an offset on
unfoldable pub word_at : List ℕ → ℕ → ℕ
word_at bytes at = number_of (take 4 (drop at bytes))
