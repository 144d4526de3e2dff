-- Gamma stores v, the number plus one: z zero bits, then v in z+1 bits, where v lies from 2^z to 2^(z+1) - 1. v may be 2^32.
-- Delta: v's bit length in gamma (as it is, nothing added), then v without its leading one. Unit: a codeword.
use Rattle.std.specs.Prelude.{ℕ, ◌+◌, ◌-◌, ◌*◌, Bool, ◌&&◌, List, [], ◌∷◌, ◌++◌, leb, ltb, eqb, length, take, drop, replicate}
use Rattle.meaning.specs.Answer.{Answer, given, bind, need}
use Rattle.meaning.specs.Limits.{cut_short, broken, number_limit}
use Rattle.meaning.specs.Lists.{all, joined}
use Rattle.meaning.specs.Bits.{bits_high, bits_of, number_high, pack, zeros_first, bit_length}
use Rattle.meaning.specs.Positions.{at_bit}
use Rattle.meaning.specs.declared.Position.{Position}

-- v in gamma, as it is
unfoldable pub gamma_bits : ℕ → List ℕ
gamma_bits v = replicate (bit_length v - 1) 0 ++ bits_high (bit_length v) v

unfoldable pub delta_bits : ℕ → List ℕ
delta_bits v = gamma_bits (bit_length v) ++ bits_high (bit_length v - 1) v

unfoldable pub write_gamma : List ℕ → List ℕ
write_gamma xs = pack (joined (λ x. gamma_bits (x + 1)) xs)

unfoldable pub write_delta : List ℕ → List ℕ
write_delta xs = pack (joined (λ x. delta_bits (x + 1)) xs)

-- v in gamma at the start of some bits: it stands behind the zeros, in one bit more than there are zeros
abbrev pub value_behind : List ℕ → ℕ
value_behind bits = number_high 0 (take (zeros_first bits + 1) (drop (zeros_first bits) bits))

-- v, and how many bits the codeword takes; with at most so many zeros, and v at most `most`
unfoldable pub gamma_in : ℕ → ℕ → List ℕ → Answer (ℕ × ℕ)
gamma_in zeros most bits =
    need (leb (zeros_first bits) zeros) broken
    (need (leb (2 * zeros_first bits + 1) (length bits)) cut_short
    (need (leb (value_behind bits) most) broken
    (given (value_behind bits, 2 * zeros_first bits + 1))))

-- the largest v, 2^32, has 32 zeros in gamma; its length, 33, has 5
unfoldable pub gamma_word : List ℕ → Answer (ℕ × ℕ)
gamma_word bits = gamma_in 32 number_limit bits

-- the rest of v after its leading one, in n bits
unfoldable pub rest_in : ℕ → List ℕ → Answer ℕ
rest_in n bits =
    need (leb n (length bits)) cut_short
    (need (leb (number_high 1 (take n bits)) number_limit) broken (given (number_high 1 (take n bits))))

unfoldable pub delta_word : List ℕ → Answer (ℕ × ℕ)
delta_word bits =
    bind (gamma_in 5 33 bits) (λ l.
    bind (rest_in (l.0 - 1) (drop l.1 bits)) (λ v. given (v, l.1 + (l.0 - 1))))

-- the codeword at a bit, by either way to read v
unfoldable pub unit_elias : (List ℕ → Answer (ℕ × ℕ)) → List ℕ → ℕ → Position → Answer (Position × List ℕ)
unit_elias word body left p =
    bind (word (drop p.bit.index (bits_of body))) (λ t. given (at_bit (p.bit.index + t.1), (t.0 - 1) ∷ []))

-- nothing is left but spare bits, which are 0
unfoldable pub done_elias : List ℕ → Position → Bool
done_elias body p =
    ltb (length (drop p.bit.index (bits_of body))) 8 && all (eqb 0) (drop p.bit.index (bits_of body))
