-- `entry_start` passes the head and the entries before. Written out so that a wrong size is refused here. Assumes nothing.
use Prim.Native.Nat.{ℕ, ◌*◌}
use mathlib.Core.Path.{ap}
use native.Mathlib.Omega.{arith}
use Rattle.table.proofs.entries.entry_start.Goals as goal

pub overflow_mul-entries : goal.overflow_mul-entries
overflow_mul-entries c = let a = c.args in omega (arith, ap (λ (s : ℕ). s * a.column) c.entry_size.ensures)

pub returns : goal.returns
returns c = let a = c.args in omega (arith, ap (λ (s : ℕ). s * a.column) c.entry_size.ensures)
