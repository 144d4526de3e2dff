-- `plan_at` is the part of the sheet that holds the plan. Assumes nothing.
use Prim.Native.Nat.{ℕ, ◌+◌, ◌-◌}
use native.Mathlib.Omega.{arith}
use mathlib.Core.Path.{◌≡◌, sym, ap₂, ◌∙◌}
use lib.ListN.{take, drop}
use Rattle.meaning.specs.Limits.{plan_bytes}
use Rattle.table.proofs.Columns.{plan-is}
use Rattle.table.proofs.entries.plan_at.Goals as goal

pub returns : goal.returns
returns c =
    let start = c.plan_start-start.result.byte in
    let size : start + plan_bytes - start ≡ plan_bytes = omega arith in
    ap₂ (λ (i j : ℕ). take i (drop j c.args.sheet.now)) size c.plan_start-start.ensures.0
    ∙ sym (plan-is c.args.sheet.now c.args.column c.requires.below)
