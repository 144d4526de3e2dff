-- Bytes that are known to be there, so that no look has to test for the body's end.
use Rattle.std.specs.Prelude.{ℕ, ◌+◌, ◌/◌, ◌≤◌, Bool, IsTrue, List, length}

-- so many bytes from the one on that holds a bit, where that is known
abbrev pub Ahead : Bool → ℕ → List ℕ → ℕ → Type 0
Ahead known bytes body p = IsTrue known → p / 8 + bytes ≤ length body
