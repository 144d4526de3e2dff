-- What the source's answers say, in the document's numbers.
use Rattle.std.specs.Prelude.{ℕ, List, take, Result, Ok, Err}
use Rattle.std.specs.Borrow.{Bor}
use Rattle.meaning.specs.Answer.{Answer, given, refused, Verdict, passed, blamed}
use Rattle.meaning.specs.Limits.{no_sheet, bad_table, bad_plan, unfit_plan, no_column, no_place, no_room, short_work, cut_short, fallen}
use Rattle.meaning.specs.Limits.{bad_orders, bad_board, broken}
use Rattle.meaning.specs.Operations.{no_tally}
use Rattle.meaning.specs.declared.Bit.{Bit}
use Rattle.meaning.specs.declared.Fault.{Fault}
use Rattle.meaning.specs.declared.Position.{Position}
use Rattle.meaning.specs.declared.Refusal.{Refusal}
use Rattle.meaning.specs.declared.Refusal.TheVariants as refusal
use Rattle.meaning.specs.declared.Tally.{Tally}
use Rattle.meaning.specs.declared.UnitRead.{UnitRead}

-- each refusal's number
abbrev pub refusal_number : Refusal → ℕ
refusal_number refusal.NoSheet = no_sheet
refusal_number refusal.BadTable = bad_table
refusal_number refusal.Malformed = bad_plan
refusal_number refusal.Unfit = unfit_plan
refusal_number refusal.NoColumn = no_column
refusal_number refusal.NoPlace = no_place
refusal_number refusal.NoRoom = no_room
refusal_number refusal.ShortWork = short_work
refusal_number refusal.CutShort = cut_short
refusal_number refusal.Falls = fallen
refusal_number refusal.BadOrders = bad_orders
refusal_number refusal.BadBoard = bad_board
refusal_number refusal.Broken = broken

-- what is given, or the number of the refusal
abbrev pub says : {A : Type 0} → Result A Refusal → Answer A
says (Ok x) = given x
says (Err e) = refused (refusal_number e)

-- the same, where what is given is told by what it holds
abbrev pub says_by : {A B : Type 0} → (A → B) → Result A Refusal → Answer B
says_by f (Ok x) = given (f x)
says_by f (Err e) = refused (refusal_number e)

-- a unit: where the next begins, and the numbers
abbrev pub unit_told : UnitRead → Position × List ℕ
unit_told u = (u.next, take u.count u.numbers)

-- rank and select count bits by their index
abbrev pub bit_told : Bit → ℕ
bit_told b = b.index

-- a lent part by what it holds
abbrev pub held : Result (Bor (List ℕ)) Refusal → Result (List ℕ) Refusal
held (Ok p) = Ok p.now
held (Err e) = Err e

-- a check passes, or blames a column
abbrev pub verdict_says : {A : Type 0} → Result A Fault → Verdict
verdict_says (Ok x) = passed
verdict_says (Err f) = blamed (refusal_number f.refusal) f.column

-- in a refusal all else is 0
abbrev pub counted_says : Result Tally Fault → Verdict × Tally
counted_says (Ok t) = (passed, t)
counted_says (Err f) = (blamed (refusal_number f.refusal) f.column, no_tally)
