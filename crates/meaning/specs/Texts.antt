-- The two programs: the bytes that each writes, by the bytes of its standard input. A line is words with a space between, ended by a line feed.
-- A sheet that fails the check prints only `refused N column C`; input over 65,536 bytes is 1, as every sheet of that length is.
use Rattle.std.specs.Prelude.{ℕ, zero, suc, ◌+◌, ◌*◌, ◌/◌, ◌%◌, cond, List, [], ◌∷◌, ◌++◌, map, eqb, length, take}
use Prim.Native.Char.{code}
use Prim.Native.String.{String, [] as empty, ◌∷◌ as ◌before◌}
use Rattle.meaning.specs.Answer.{Verdict, passed, blamed, list}
use Rattle.meaning.specs.Limits.{most_numbers, rising}
use Rattle.meaning.specs.Lists.{joined}
use Rattle.meaning.specs.Plan.{plan_of, plan_size}
use Rattle.meaning.specs.declared.Tally.{Tally}
use Rattle.meaning.specs.Sheet.{Column, columns_of, read_column}
use Rattle.meaning.specs.Operations.{check, count_board}

-- ---- words and lines
-- a byte for each character of an ASCII text
unfoldable pub text : String → List ℕ
text empty = []
text (c before s) = code c ∷ text s

-- x in at most k decimal digits, highest first, and none for zero; the byte of digit 0 is 48
unfoldable pub decimal_in : ℕ → ℕ → List ℕ
decimal_in zero x = []
decimal_in (suc k) zero = []
decimal_in (suc k) (suc y) = decimal_in k (suc y / 10) ++ ((48 + suc y % 10) ∷ [])

-- zero takes one digit, and no other number x takes more than x
unfoldable pub digits : ℕ → List ℕ
digits zero = 48 ∷ []
digits (suc y) = decimal_in (suc y) (suc y)

abbrev pub space : ℕ
space = 32

abbrev pub line_feed : ℕ
line_feed = 10

-- a line of a first word and others
unfoldable pub line : List ℕ → List (List ℕ) → List ℕ
line first others = first ++ (joined (λ w. space ∷ w) others ++ (line_feed ∷ []))

-- the lines of each in turn, counted from k
unfoldable pub counting : {A : Type 0} → (ℕ → A → List ℕ) → ℕ → List A → List ℕ
counting lines k [] = []
counting lines k (x ∷ xs) = lines k x ++ counting lines (suc k) xs

-- the refusal's line alone, or these lines
unfoldable pub refused_or : Verdict → List ℕ → List ℕ
refused_or passed lines = lines
refused_or (blamed e k) lines = line (text "refused") (digits e ∷ text "column" ∷ digits k ∷ [])

-- the work of a program is enough for every count
abbrev pub all_work : ℕ
all_work = 8 * most_numbers

-- ---- the listing: the number of columns, each column with its numbers, and one `end` after the last
unfoldable pub kind_text : ℕ → List ℕ
kind_text kind = cond (eqb kind rising) (text "rising") (text "any")

-- a plan without its fill
unfoldable pub unfilled : List ℕ → List ℕ
unfilled plan = take (plan_size (plan_of plan)) plan

-- column, kind, plan without its fill, count, body bytes
unfoldable pub column_line : ℕ → Column → List ℕ
column_line k c =
    line (text "column")
    (digits k ∷ kind_text c.kind ∷ text "plan" ∷ map digits (unfilled c.plan)
    ++ (text "count" ∷ digits c.count ∷ text "bytes" ∷ digits c.size ∷ []))

-- place and number
unfoldable pub number_line : ℕ → ℕ → List ℕ
number_line place x = line (digits place) (digits x ∷ [])

unfoldable pub column_lines : ℕ → Column → List ℕ
column_lines k c = column_line k c ++ counting number_line 0 (list (read_column c))

unfoldable pub listing_lines : List Column → List ℕ
listing_lines columns =
    line (text "columns") (digits (length columns) ∷ []) ++ (counting column_lines 0 columns ++ line (text "end") [])

unfoldable pub listing_text : List ℕ → List ℕ
listing_text input = refused_or (check input all_work) (listing_lines (columns_of input))

-- ---- the board: `passed`, `failed`, `killed`, `unended`, a line each with its tally
unfoldable pub board_lines : Tally → List ℕ
board_lines t =
    line (text "passed") (digits t.passed ∷ [])
    ++ (line (text "failed") (digits t.failed ∷ [])
    ++ (line (text "killed") (digits t.killed ∷ []) ++ line (text "unended") (digits t.unended ∷ [])))

unfoldable pub board_text : List ℕ → List ℕ
board_text input = refused_or (count_board input all_work).0 (board_lines (count_board input all_work).1)
