-- Where a unit begins, as the source's struct: at a byte; in Stream VByte a control and a data offset; in gamma and delta a bit of the body.
use Rattle.std.specs.Prelude.{ℕ}
use Rattle.meaning.specs.declared.Position.{Position}

abbrev pub at_byte : ℕ → Position
at_byte k = record { head = record { byte = k }; tail = record { byte = 0 }; bit = record { index = 0 } }

abbrev pub at_control : ℕ → ℕ → Position
at_control c d = record { head = record { byte = c }; tail = record { byte = d }; bit = record { index = 0 } }

abbrev pub at_bit : ℕ → Position
at_bit k = record { head = record { byte = 0 }; tail = record { byte = 0 }; bit = record { index = k } }
