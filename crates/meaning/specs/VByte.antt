-- VByte: 7 bits a byte, lowest first, top bit 1 when more follows. At most 5 bytes, the fifth at most 15, the last not 0 unless alone.
-- Unit: one number.
use Rattle.std.specs.Prelude.{ℕ, zero, suc, ◌+◌, ◌-◌, ◌*◌, ◌/◌, ◌%◌, not, cond, List, [], ◌∷◌, ltb, leb, eqb, drop}
use Rattle.meaning.specs.Answer.{Answer, given, refused, bind, need}
use Rattle.meaning.specs.Limits.{cut_short, broken}
use Rattle.meaning.specs.Positions.{at_byte}
use Rattle.meaning.specs.declared.Position.{Position}

-- x in at most k + 1 bytes
unfoldable pub sevens : ℕ → ℕ → List ℕ
sevens zero x = x ∷ []
sevens (suc k) x = cond (ltb x 128) (x ∷ []) ((x % 128 + 128) ∷ sevens k (x / 128))

unfoldable pub vbyte : ℕ → List ℕ
vbyte x = sevens 4 x

-- a byte that is not the first, and at most k more: the number from here on, and how many bytes it takes
unfoldable pub later_in : ℕ → List ℕ → Answer (ℕ × ℕ)
later_in k [] = refused cut_short
later_in zero (b ∷ bs) = need (leb b 15) broken (need (not (eqb b 0)) broken (given (b, 1)))
later_in (suc k) (b ∷ bs) =
    cond (ltb b 128) (need (not (eqb b 0)) broken (given (b, 1)))
    (bind (later_in k bs) (λ t. given (b - 128 + 128 * t.0, 1 + t.1)))

unfoldable pub vbyte_in : List ℕ → Answer (ℕ × ℕ)
vbyte_in [] = refused cut_short
vbyte_in (b ∷ bs) = cond (ltb b 128) (given (b, 1)) (bind (later_in 3 bs) (λ t. given (b - 128 + 128 * t.0, 1 + t.1)))

unfoldable pub unit_vbyte : List ℕ → ℕ → Position → Answer (Position × List ℕ)
unit_vbyte body left p = bind (vbyte_in (drop p.head.byte body)) (λ t. given (at_byte (p.head.byte + t.1), t.0 ∷ []))
