-- The bits of bytes: in gamma and delta highest bit of each byte first, in G8IU's control byte and in code 8 lowest first. Spare bits of the last byte are 0.
use Rattle.std.specs.Prelude.{ℕ, zero, suc, ◌+◌, ◌*◌, ◌/◌, ◌%◌, ◌^◌, cond, List, [], ◌∷◌, eqb, length, get_or, take, drop}
use Rattle.meaning.specs.Lists.{joined}

-- ---- highest first
-- the n lowest bits of v
unfoldable pub bits_high : ℕ → ℕ → List ℕ
bits_high zero v = []
bits_high (suc n) v = v / 2 ^ n % 2 ∷ bits_high n v

unfoldable pub bits_of : List ℕ → List ℕ
bits_of bytes = joined (bits_high 8) bytes

-- the number that bits make after a number v, highest first
unfoldable pub number_high : ℕ → List ℕ → ℕ
number_high v [] = v
number_high v (b ∷ bs) = number_high (v * 2 + b) bs

-- the byte that the first eight bits make; one that is not there is 0
unfoldable pub byte_of : List ℕ → ℕ
byte_of l =
    get_or l 0 0 * 128 + get_or l 1 0 * 64 + get_or l 2 0 * 32 + get_or l 3 0 * 16
    + get_or l 4 0 * 8 + get_or l 5 0 * 4 + get_or l 6 0 * 2 + get_or l 7 0

-- n bytes of a list of bits
unfoldable pub pack_in : ℕ → List ℕ → List ℕ
pack_in zero l = []
pack_in (suc n) l = byte_of l ∷ pack_in n (drop 8 l)

unfoldable pub pack : List ℕ → List ℕ
pack l = pack_in ((length l + 7) / 8) l

-- ---- lowest first
-- the k lowest bits of c, and the number that bits make
unfoldable pub bits_low : ℕ → ℕ → List ℕ
bits_low zero c = []
bits_low (suc k) c = c % 2 ∷ bits_low k (c / 2)

unfoldable pub number_low : List ℕ → ℕ
number_low [] = 0
number_low (b ∷ bs) = b + 2 * number_low bs

-- the bits of bytes, lowest bit of each byte first
unfoldable pub low_bits : List ℕ → List ℕ
low_bits bytes = joined (bits_low 8) bytes

-- so many bytes of a list of bits; a bit that is not there is 0
unfoldable pub pack_low : ℕ → List ℕ → List ℕ
pack_low zero bits = []
pack_low (suc n) bits = number_low (take 8 bits) ∷ pack_low n (drop 8 bits)

-- ---- of any bits
-- how many zeros come first
unfoldable pub zeros_first : List ℕ → ℕ
zeros_first [] = 0
zeros_first (zero ∷ bs) = suc (zeros_first bs)
zeros_first (suc b ∷ bs) = 0

-- how many binary digits v has, of at most k
unfoldable pub digits_in : ℕ → ℕ → ℕ
digits_in zero v = 0
digits_in (suc k) v = cond (eqb v 0) 0 (suc (digits_in k (v / 2)))

-- v is at most 2^32, which has 33
unfoldable pub bit_length : ℕ → ℕ
bit_length v = digits_in 33 v
