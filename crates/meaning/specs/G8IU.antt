-- G8IU: blocks of a control byte and 8 data bytes. Bit i is 0 when data byte i ends a number. A block holds as many numbers as its control byte
-- has zero bits, at least one; ones above the last zero are waste, and waste bytes are 0. A block takes the next number whenever it fits.
-- Unit: a block; its own rules include no number beyond the list, and waste of at most 3 unless the list ends there.
use Rattle.std.specs.Prelude.{ℕ, zero, suc, ◌+◌, ◌-◌, Bool, true, not, ◌||◌, cond, List, [], ◌∷◌, ◌++◌, map, leb, eqb, length, get_or, take, drop, replicate}
use Rattle.meaning.specs.Answer.{Answer, given, bind, need}
use Rattle.meaning.specs.Bits.{bits_low, number_low}
use Rattle.meaning.specs.Limits.{cut_short, broken}
use Rattle.meaning.specs.Lists.{all, sum, joined}
use Rattle.meaning.specs.DataBytes.{byte_length, data_bytes, data_in}
use Rattle.meaning.specs.Positions.{at_byte}
use Rattle.meaning.specs.declared.Position.{Position}

-- the next number fits into the block begun
unfoldable pub fits : List ℕ → ℕ → Bool
fits taken x = leb (length (data_bytes taken) + byte_length x) 8

-- a list in blocks, of which the first has taken some numbers already
unfoldable pub blocks_from : List ℕ → List ℕ → List (List ℕ)
blocks_from taken [] = taken ∷ []
blocks_from taken (x ∷ xs) =
    cond (fits taken x) [] (taken ∷ []) ++ blocks_from (cond (fits taken x) (taken ++ (x ∷ [])) (x ∷ [])) xs

unfoldable pub blocks : List ℕ → List (List ℕ)
blocks [] = []
blocks (x ∷ xs) = blocks_from (x ∷ []) xs

-- a number's bits in the control byte: 0 at its last byte alone
unfoldable pub end_bits : ℕ → List ℕ
end_bits l = replicate (l - 1) 1 ++ (0 ∷ [])

unfoldable pub block_control : List ℕ → ℕ
block_control ls = number_low (joined end_bits ls ++ replicate (8 - sum ls) 1)

unfoldable pub block : List ℕ → List ℕ
block xs = block_control (map byte_length xs) ∷ (data_bytes xs ++ replicate (8 - length (data_bytes xs)) 0)

unfoldable pub write_g8iu : List ℕ → List ℕ
write_g8iu xs = joined block (blocks xs)

-- the lengths by end bits, of which k ones have passed since the last end
unfoldable pub lengths_by : ℕ → List ℕ → List ℕ
lengths_by k [] = []
lengths_by k (zero ∷ bits) = (k + 1) ∷ lengths_by 0 bits
lengths_by k (suc b ∷ bits) = lengths_by (k + 1) bits

unfoldable pub block_lengths : ℕ → List ℕ
block_lengths c = lengths_by 0 (bits_low 8 c)

-- the numbers of a block by its control byte and its data, where `left` are still to come
unfoldable pub block_in : ℕ → List ℕ → List ℕ → Answer (List ℕ)
block_in left ls bytes =
    need (leb 1 (length ls)) broken
    (need (leb (length ls) left) broken
    (need (leb (8 - sum ls) 3 || eqb (length ls) left) broken
    (need (all (eqb 0) (drop (sum ls) bytes)) broken (data_in ls bytes))))

unfoldable pub unit_g8iu : List ℕ → ℕ → Position → Answer (Position × List ℕ)
unit_g8iu body left p =
    need (leb (p.head.byte + 9) (length body)) cut_short
    (bind (block_in left (block_lengths (get_or body p.head.byte 0)) (take 8 (drop (p.head.byte + 1) body))) (λ xs.
    given (at_byte (p.head.byte + 9), xs)))

-- in reading, the block before had no room for the first number of the next
unfoldable pub joins_g8iu : List ℕ → List ℕ → Bool
joins_g8iu [] xs = true
joins_g8iu (y ∷ ys) xs = not (fits (y ∷ ys) (get_or xs 0 0))
