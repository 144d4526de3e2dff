-- A reader as the part, the column and the place that it stands on, what its calls make of it, and what opening and a call may answer.
use Rattle.std.specs.Prelude.{ℕ, zero, suc, ◌+◌, ◌≡◌, List, Option, Some, None, Result}
use Rattle.meaning.specs.Answer.{Answer, given, refused, list, number}
use Rattle.meaning.specs.Operations.{look_sheet, open_reader}
use Rattle.meaning.specs.Says.{refusal_number, says}
use Rattle.meaning.specs.declared.Refusal.{Refusal}
use Rattle.reader.specs.declared.Reader.{Reader}

pub record Standing : Type 0 where
  pub part : List ℕ
  pub column : ℕ
  pub place : ℕ

-- a reader just opened: the sheet, or an empty part where opening refuses, at place 0
abbrev pub opened : List ℕ → ℕ → Standing
opened sheet k = record { part = list (open_reader sheet k); column = k; place = 0 }

-- what a call answers
abbrev pub answer : Standing → Answer ℕ
answer s = look_sheet s.part s.column s.place

-- the place after a call: one more after a number, the same after a refusal
abbrev pub next_place : Answer ℕ → ℕ → ℕ
next_place (given x) place = place + 1
next_place (refused e) place = place

-- the reader that a call leaves
abbrev pub next : Standing → Standing
next s = record { part = s.part; column = s.column; place = next_place (answer s) s.place }

-- after so many calls
unfoldable pub after : ℕ → Standing → Standing
after zero s = s
after (suc n) s = next (after n s)

-- where a reader of the source stands
abbrev pub standing : Reader → Standing
standing r = record { part = r.sheet.now; column = r.column; place = r.place.number }

-- the same reader at the place after its call
abbrev pub moved : Reader → Reader
moved r = record { sheet = r.sheet; column = r.column; place = record { number = (next (standing r)).place } }

-- the number of a refusal told beside an answer, 0 where there is none
abbrev pub refusal_told : Option Refusal → ℕ
refusal_told None = 0
refusal_told (Some e) = refusal_number e

-- open: where the reader stands, and the refusal
abbrev pub Opens : List ℕ → ℕ → Standing × Option Refusal → Type 0
Opens sheet k a = (a.0 ≡ opened sheet k) × (refusal_told a.1 ≡ number (open_reader sheet k))

-- step: the answer, and the reader that is left
abbrev pub Steps : Reader → Result ℕ Refusal × Reader → Type 0
Steps r a = (says a.0 ≡ answer (standing r)) × (a.1 ≡ moved r)
