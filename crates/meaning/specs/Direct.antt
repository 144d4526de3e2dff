-- The directly addressed list: 4 bytes with the number of data bytes; a bit for each data byte, lowest bit of each byte first, 1 where a number ends,
-- spare bits 0; a 2-byte sum for every full 512 bits, called a stretch, the ones before and including them; the data bytes, fewest a number, least
-- significant first. Unit: one number. A number is also looked up directly, by the sums.
use Rattle.std.specs.Prelude.{ℕ, zero, suc, ◌+◌, ◌-◌, ◌*◌, ◌/◌, Bool, true, ◌&&◌, cond}
use Rattle.std.specs.Prelude.{List, [], ◌∷◌, ◌++◌, leb, ltb, eqb, length, get_or, take, drop, replicate}
use Rattle.meaning.specs.Answer.{Answer, given, bind, need}
use Rattle.meaning.specs.Bits.{low_bits, pack_low, zeros_first}
use Rattle.meaning.specs.Bytes.{bytes_of, number_of, word, word_at}
use Rattle.meaning.specs.DataBytes.{byte_length, data_bytes}
use Rattle.meaning.specs.Limits.{cut_short, broken}
use Rattle.meaning.specs.Lists.{all, joined}
use Rattle.meaning.specs.Positions.{at_bit}
use Rattle.meaning.specs.Rank.{ones_before, one_at}
use Rattle.meaning.specs.declared.Position.{Position}

-- ---- where the parts stand, by the number of data bytes: the bits from byte 4 on, then the sums, then the data
unfoldable pub flag_bytes : ℕ → ℕ
flag_bytes d = (d + 7) / 8

unfoldable pub sum_count : ℕ → ℕ
sum_count d = d / 512

unfoldable pub sums_at : ℕ → ℕ
sums_at d = 4 + flag_bytes d

unfoldable pub data_at : ℕ → ℕ
data_at d = sums_at d + 2 * sum_count d

-- ---- written
-- a number's bits: 1 at its last byte alone
unfoldable pub last_bits : ℕ → List ℕ
last_bits x = replicate (byte_length x - 1) 0 ++ (1 ∷ [])

-- the sums of the first k stretches
unfoldable pub sum_bytes : ℕ → List ℕ → List ℕ
sum_bytes zero bits = []
sum_bytes (suc k) bits = sum_bytes k bits ++ bytes_of 2 (ones_before bits (512 * suc k))

-- the parts of d data bytes and their bits
unfoldable pub direct_parts : ℕ → List ℕ → List ℕ → List ℕ
direct_parts d bits bytes = word d ++ (pack_low (flag_bytes d) bits ++ (sum_bytes (sum_count d) bits ++ bytes))

unfoldable pub write_direct : List ℕ → List ℕ
write_direct xs = direct_parts (length (data_bytes xs)) (joined last_bits xs) (data_bytes xs)

-- 4, plus n/2 rounded up, plus 2 for each full 128 numbers, plus 4n
unfoldable pub worst_direct : ℕ → ℕ
worst_direct n = 4 + (n + 1) / 2 + 2 * (n / 128) + 4 * n

-- ---- read
-- the parts' ends fit the body
unfoldable pub parts_fit : List ℕ → Bool
parts_fit body = leb 4 (length body) && leb (data_at (word_at body 0) + word_at body 0) (length body)

-- the bits of the data bytes
unfoldable pub flags : List ℕ → List ℕ
flags body = take (word_at body 0) (low_bits (drop 4 body))

-- what the body says that a stretch's sum is
unfoldable pub sum_at : List ℕ → ℕ → ℕ
sum_at body s = number_of (take 2 (drop (sums_at (word_at body 0) + 2 * s) body))

-- the number in so many data bytes, the first of which is data byte i: at most 4, and the fewest
unfoldable pub number_in : List ℕ → ℕ → ℕ → Answer ℕ
number_in body i l =
    let x = number_of (take l (drop (data_at (word_at body 0) + i) body)) in
    need (leb l 4) broken (need (eqb (byte_length x) l) broken (given x))

-- the number whose first byte is data byte p: a bit from there on ends it
unfoldable pub unit_direct : List ℕ → ℕ → Position → Answer (Position × List ℕ)
unit_direct body left p =
    let i = p.bit.index in
    let l = suc (zeros_first (drop i (flags body))) in
    need (parts_fit body) cut_short
    (need (leb (i + l) (word_at body 0)) broken
    (bind (number_in body i l) (λ x. given (at_bit (i + l), x ∷ []))))

-- the first k sums are true
unfoldable pub true_sums : ℕ → List ℕ → Bool
true_sums zero body = true
true_sums (suc k) body = true_sums k body && eqb (sum_at body k) (ones_before (flags body) (512 * suc k))

-- spare bits of the last byte are 0
unfoldable pub spare_zero : List ℕ → Bool
spare_zero body = all (eqb 0) (drop (word_at body 0) (low_bits (take (flag_bytes (word_at body 0)) (drop 4 body))))

-- nothing is left over after the number that ends before data byte p: not a data byte, so that the last bit is 1 and there are as many ones as numbers,
-- and not a byte of the body; spare bits are 0, and every sum is true
unfoldable pub done_direct : List ℕ → Position → Bool
done_direct body p =
    parts_fit body
    && (eqb p.bit.index (word_at body 0)
    && (eqb (data_at (word_at body 0) + word_at body 0) (length body)
    && (spare_zero body && true_sums (sum_count (word_at body 0)) body)))

-- ---- looked up
-- the first stretch whose sum is above the place, from stretch s on, where so many sums are left; the bits after the last sum if none is
unfoldable pub stretch_from : ℕ → List ℕ → ℕ → ℕ → ℕ
stretch_from zero body place s = s
stretch_from (suc left) body place s = cond (ltb place (sum_at body s)) s (stretch_from left body place (suc s))

unfoldable pub stretch_of : List ℕ → ℕ → ℕ
stretch_of body place = stretch_from (sum_count (word_at body 0)) body place 0

-- the numbers that end before a stretch, by what the stretch before says
unfoldable pub ended_before : List ℕ → ℕ → ℕ
ended_before body zero = 0
ended_before body (suc s) = sum_at body s

-- how many zeros stand directly before a bit, at most k of them
unfoldable pub zeros_before : ℕ → List ℕ → ℕ → ℕ
zeros_before zero bits b = 0
zeros_before (suc k) bits zero = 0
zeros_before (suc k) bits (suc b) = cond (eqb (get_or bits b 0) 0) (suc (zeros_before k bits b)) 0

-- the number that ends with data byte b: back over at most four bits, to the bit that ends the number before or to bit 0
unfoldable pub ending_at : List ℕ → ℕ → Answer ℕ
ending_at body b = let z = zeros_before 4 (flags body) b in number_in body (b - z) (suc z)

-- the bits of a stretch
unfoldable pub stretch_bits : List ℕ → ℕ → List ℕ
stretch_bits body s = take 512 (drop (512 * s) (flags body))

unfoldable pub look_direct : List ℕ → ℕ → Answer ℕ
look_direct body place =
    let s = stretch_of body place in
    need (parts_fit body) cut_short
    (bind (one_at broken (place - ended_before body s) (stretch_bits body s)) (λ i. ending_at body (512 * s + i)))
