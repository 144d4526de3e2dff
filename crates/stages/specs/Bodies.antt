-- A column with another body.
use Rattle.std.specs.Prelude.{ℕ, List, length}
use Rattle.meaning.specs.Sheet.{Column}

-- what its entry says besides the body's length stays as it is, and so does its sheet's edition
abbrev pub with_body : Column → List ℕ → Column
with_body c body = record { edition = c.edition; kind = c.kind; plan = c.plan; count = c.count; size = length body; body = body }
