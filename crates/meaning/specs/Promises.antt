-- What each public operation may answer: these are the `ensures` of the functions, and none has a `requires`.
-- `o` is what an output held; where an operation has one, its answer stands in a pair with what the output holds afterwards.
use Rattle.std.specs.Prelude.{ℕ, ◌≡◌, List, length, Result}
use Rattle.meaning.specs.Answer.{Answer, amount, filled}
use Rattle.meaning.specs.Operations.{Order, write_sheet, write_apart, check, read_sheet, look_sheet, fetch, count_board}
use Rattle.meaning.specs.Plan.{judge, worst_size}
use Rattle.meaning.specs.Rank.{rank, select}
use Rattle.meaning.specs.Says.{says, says_by, bit_told, verdict_says, counted_says}
use Rattle.meaning.specs.declared.Bit.{Bit}
use Rattle.meaning.specs.declared.Fault.{Fault}
use Rattle.meaning.specs.declared.Refusal.{Refusal}
use Rattle.meaning.specs.declared.Tally.{Tally}

-- judge::judge
abbrev pub Judges : ℕ → List ℕ → Result (Unit {0}) Refusal → Type 0
Judges kind plan r = says r ≡ judge kind plan

-- judge::worst_size
abbrev pub Sizes : List ℕ → ℕ → Result ℕ Refusal → Type 0
Sizes plan n r = says r ≡ worst_size plan n

-- how many bytes or numbers of m a call says, and what it leaves in its output
abbrev pub Fills : Answer (List ℕ) → List ℕ → Answer ℕ → List ℕ → Type 0
Fills m o says o' = (says ≡ amount m) × (o' ≡ filled m o)

-- orders::write; `order_says` takes the orders of the source over field by field
abbrev pub Writes : ℕ → List Order → List ℕ → List ℕ → List ℕ → Result ℕ Refusal × List ℕ → Type 0
Writes edition orders joined work o a = Fills (write_sheet edition orders joined (length work) (length o)) o (says a.0) a.1

-- writer::write, on orders taken apart
abbrev pub WritesApart : ℕ → List ℕ → List ℕ → List ℕ → List ℕ → List ℕ → List ℕ → Result ℕ Refusal × List ℕ → Type 0
WritesApart edition kinds plans counts joined work o a =
    Fills (write_apart edition kinds plans counts joined (length work) (length o)) o (says a.0) a.1

-- sheet::check
abbrev pub Checks : List ℕ → List ℕ → Result (Unit {0}) Fault → Type 0
Checks sheet work r = verdict_says r ≡ check sheet (length work)

-- sheet::read
abbrev pub Reads : List ℕ → ℕ → List ℕ → List ℕ → Result ℕ Refusal × List ℕ → Type 0
Reads sheet k work o a = Fills (read_sheet sheet k (length work) (length o)) o (says a.0) a.1

-- sheet::lookup
abbrev pub Looks : List ℕ → ℕ → ℕ → Result ℕ Refusal → Type 0
Looks sheet k place r = says r ≡ look_sheet sheet k place

-- sheet::board
abbrev pub Counts : List ℕ → List ℕ → Result Tally Fault → Type 0
Counts sheet work r = counted_says r ≡ count_board sheet (length work)

-- table::fetch: a part of the sheet, by what it holds
abbrev pub Fetches : List ℕ → ℕ → Result (List ℕ) Refusal → Type 0
Fetches sheet k r = says r ≡ fetch sheet k

-- bits::rank
abbrev pub Ranks : List ℕ → ℕ → Result ℕ Refusal → Type 0
Ranks bytes bit r = says r ≡ rank bytes bit

-- bits::select
abbrev pub Selects : List ℕ → ℕ → Result Bit Refusal → Type 0
Selects bytes k r = says_by bit_told r ≡ select bytes k
