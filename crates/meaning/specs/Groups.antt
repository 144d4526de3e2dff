-- Groups: a number has a field of two bits that says how long it is, and 1 to 4 bytes of data. Four fields stand in a control byte, the first number's
-- in the lowest bits. Unused fields of a group's last control byte are 0 and have no data.
-- Group of four: a control byte, then its data. Unit: a group.
-- Stream VByte: the same groups, all control bytes first, then all data.
-- Four-wise null suppression: up to four control bytes, there called masks, stand together, then their up to 16 numbers. Unit: such a batch.
use Rattle.std.specs.Prelude.{ℕ, zero, suc, ◌+◌, ◌-◌, ◌*◌, ◌/◌, ◌%◌, ◌^◌, min, List, [], ◌∷◌, ◌++◌, map, leb, eqb, length, take, drop}
use Rattle.meaning.specs.Answer.{Answer, given, bind, need}
use Rattle.meaning.specs.Bytes.{number_of}
use Rattle.meaning.specs.Limits.{cut_short, broken}
use Rattle.meaning.specs.Lists.{sum, joined}
use Rattle.meaning.specs.DataBytes.{byte_length, data_bytes, data_in}
use Rattle.meaning.specs.Positions.{at_byte, at_control}
use Rattle.meaning.specs.declared.Position.{Position}

-- how a code groups: how many numbers a full group has, the field of a number of so many bytes, and how many bytes a field says
pub record Grouping : Type 0 where
  pub most : ℕ
  pub field : ℕ → ℕ
  pub bytes : ℕ → ℕ

-- group of four and Stream VByte: a field is the length minus one
abbrev pub fours : Grouping
fours = record { most = 4; field = λ l. l - 1; bytes = λ f. f + 1 }

-- four-wise null suppression: a field is the number of leading zero bytes, of four
abbrev pub batches : Grouping
batches = record { most = 16; field = λ l. 4 - l; bytes = λ f. 4 - f }

-- a list in pieces of so many numbers, the last of what is left. Every piece holds a number, so there are no more pieces than numbers: the first
-- argument of `pieces_from` counts them down
unfoldable pub pieces_from : ℕ → ℕ → List ℕ → List (List ℕ)
pieces_from zero most xs = []
pieces_from (suc n) most [] = []
pieces_from (suc n) most (x ∷ xs) = take most (x ∷ xs) ∷ pieces_from n most (drop most (x ∷ xs))

unfoldable pub pieces : ℕ → List ℕ → List (List ℕ)
pieces most xs = pieces_from (length xs) most xs

-- how many control bytes n numbers have: n/4, rounded up
unfoldable pub group_count : ℕ → ℕ
group_count n = (n + 3) / 4

-- the fields of numbers of these lengths, as one number
unfoldable pub control_of : Grouping → List ℕ → ℕ
control_of g [] = 0
control_of g (l ∷ ls) = g.field l + 4 * control_of g ls

-- the lengths that the first k fields say
unfoldable pub lengths_in : Grouping → ℕ → ℕ → List ℕ
lengths_in g zero c = []
lengths_in g (suc k) c = g.bytes (c % 4) ∷ lengths_in g k (c / 4)

unfoldable pub control : Grouping → List ℕ → ℕ
control g xs = control_of g (map byte_length xs)

-- the control bytes of a list, one for every four numbers
unfoldable pub controls : Grouping → List ℕ → List ℕ
controls g xs = map (control g) (pieces 4 xs)

unfoldable pub write_groups : Grouping → List ℕ → List ℕ
write_groups g xs = joined (λ group. controls g group ++ data_bytes group) (pieces g.most xs)

unfoldable pub write_stream : List ℕ → List ℕ
write_stream xs = controls fours xs ++ data_bytes xs

-- the k numbers of a group, by its fields c and the bytes from its data on: the data is there, unused fields are 0, lengths are the fewest
unfoldable pub group_in : Grouping → ℕ → ℕ → List ℕ → Answer (List ℕ)
group_in g k c bytes =
    need (leb (sum (lengths_in g k c)) (length bytes)) cut_short
    (need (eqb (c / 4 ^ k) 0) broken (data_in (lengths_in g k c) bytes))

-- the same where the data begins at an offset of a body: where it ends, and the numbers
unfoldable pub group_from : Grouping → List ℕ → ℕ → ℕ → ℕ → Answer (ℕ × List ℕ)
group_from g body k c from = bind (group_in g k c (drop from body)) (λ xs. given (from + sum (lengths_in g k c), xs))

-- the same where the control bytes stand at another offset: they are there, and least significant first they are the fields
unfoldable pub group_at : Grouping → List ℕ → ℕ → ℕ → ℕ → Answer (ℕ × List ℕ)
group_at g body k at from =
    need (leb (group_count k) (length (drop at body))) cut_short (group_from g body k (number_of (take (group_count k) (drop at body))) from)

-- a unit is a full group, or what is left: its control bytes, and its data behind them
unfoldable pub unit_groups : Grouping → List ℕ → ℕ → Position → Answer (Position × List ℕ)
unit_groups g body left p =
    bind (group_at g body (min g.most left) p.head.byte (p.head.byte + group_count (min g.most left))) (λ t.
    given (at_byte t.0, t.1))

-- control bytes and data apart
unfoldable pub unit_stream : List ℕ → ℕ → Position → Answer (Position × List ℕ)
unit_stream body left p =
    bind (group_at fours body (min 4 left) p.head.byte p.tail.byte) (λ t.
    given (at_control (p.head.byte + group_count (min 4 left)) t.0, t.1))
