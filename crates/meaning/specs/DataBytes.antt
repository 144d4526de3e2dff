-- What codes 2, 3, 4, 7 and 8 share: numbers in the fewest bytes, 1 to 4 each, least significant first.
use Rattle.std.specs.Prelude.{ℕ, ◌^◌, cond, List, [], ◌∷◌, ltb, eqb, take, drop}
use Rattle.meaning.specs.Answer.{Answer, given, bind, need}
use Rattle.meaning.specs.Limits.{broken}
use Rattle.meaning.specs.Lists.{joined}
use Rattle.meaning.specs.Bytes.{bytes_of, number_of}

-- how many bytes hold x: zero takes one
unfoldable pub byte_length : ℕ → ℕ
byte_length x = cond (ltb x (2 ^ 8)) 1 (cond (ltb x (2 ^ 16)) 2 (cond (ltb x (2 ^ 24)) 3 4))

unfoldable pub fewest : ℕ → List ℕ
fewest x = bytes_of (byte_length x) x

-- the data bytes of a list
unfoldable pub data_bytes : List ℕ → List ℕ
data_bytes xs = joined fewest xs

-- the numbers in data bytes, each in so many, refused where fewer bytes would hold one
unfoldable pub data_in : List ℕ → List ℕ → Answer (List ℕ)
data_in [] bytes = given []
data_in (l ∷ ls) bytes =
    need (eqb (byte_length (number_of (take l bytes))) l) broken
    (bind (data_in ls (drop l bytes)) (λ xs. given (number_of (take l bytes) ∷ xs)))
