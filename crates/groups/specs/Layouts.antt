-- Where groups stand in a body.
use Rattle.std.specs.Prelude.{ℕ, ◌+◌, min, Bool, List, eqb, length}
use Rattle.meaning.specs.Answer.{Answer, given, bind}
use Rattle.meaning.specs.Codes.{Code, code_groups, code_stream, code_batches}
use Rattle.meaning.specs.Groups.{Grouping, fours, batches, group_count, group_at}
use Rattle.meaning.specs.Positions.{at_byte, at_control}
use Rattle.meaning.specs.declared.Position.{Position}
use Rattle.groups.specs.declared.group.Form.{Form}
use Rattle.groups.specs.declared.group.Form.TheVariants.{Fours, Stream, Batches}

-- how a code groups; where the first group stands when a list of so many control bytes is written from an offset on; where the data of the group at a
-- position begins, which has so many control bytes; and where the next group is when that data ends at an offset
pub record Layout : Type 0 where
  pub group : Grouping
  pub first : ℕ → ℕ → Position
  pub from : ℕ → Position → ℕ
  pub next : ℕ → Position → ℕ → Position

-- the group at a position holds as many numbers as a full one has, or what is left
abbrev pub size : Layout → ℕ → ℕ
size g left = min g.group.most left

abbrev pub unit_by : Layout → List ℕ → ℕ → Position → Answer (Position × List ℕ)
unit_by g body left p =
    bind (group_at g.group body (size g left) p.head.byte (g.from (group_count (size g left)) p)) (λ t.
    given (g.next (group_count (size g left)) p t.0, t.1))

-- codes 2 and 7: the data follows its control bytes
abbrev pub behind : Grouping → Layout
behind g = record { group = g; first = λ m at. at_byte at; from = λ m p. p.head.byte + m; next = λ m p end. at_byte end }

-- Stream VByte: control bytes and data apart
abbrev pub apart : Layout
apart =
    record {
      group = fours;
      first = λ m at. at_control at (at + m);
      from = λ m p. p.tail.byte;
      next = λ m p end. at_control (p.head.byte + m) end;
    }

abbrev pub layout_of : Form → Layout
layout_of Fours = behind fours
layout_of Stream = apart
layout_of Batches = behind batches

-- what a form uses of a position
abbrev pub used : Form → Position → Position
used Fours p = at_byte p.head.byte
used Stream p = at_control p.head.byte p.tail.byte
used Batches p = at_byte p.head.byte

-- the code of each form
abbrev pub code_for : Form → Code
code_for Fours = code_groups
code_for Stream = code_stream
code_for Batches = code_batches

abbrev pub to_tail : List ℕ → Position → Bool
to_tail body p = eqb p.tail.byte (length body)
