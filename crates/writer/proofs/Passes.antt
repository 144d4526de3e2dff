-- The pass that lays a sheet down from the slices: what its loop knows. Assumes nothing.
use Prim.Native.Nat.{ℕ, ◌+◌, ◌*◌, ◌^◌, ◌≤◌, ◌<◌}
use mathlib.Core.Path.{◌≡◌, refl, sym, ap, ap₂, ◌∙◌}
use mathlib.Core.List.{List}
use native.Mathlib.Omega.{arith}
use lib.ListN.{length, get_or, take, set}
use lib.Seq.{sets}
use Rattle.meaning.specs.Limits.{most_bytes, plan_bytes}
use Rattle.meaning.specs.Lists.{sum}
use Rattle.meaning.specs.Places.{part}
use Rattle.meaning.specs.Plan.{plan_used}
use Rattle.meaning.specs.Sheet.{Listed, column_for, entry_of, sheet_bytes}
use Rattle.meaning.specs.declared.Offset.{Offset}
use Rattle.leaves.proofs.Parts.{part_length}
use Rattle.table.specs.Offsets.{entry_offset}
use Rattle.writer.specs.Orders.{blank_listed, columns_of, list_start, plan_given, listed_at, Ordered, Laid, ColumnPut, entry_laid}
use Rattle.writer.specs.declared.orders.Orders.{Orders}
use Rattle.writer.proofs.Columns.{columns-count, column-is}
use Rattle.stages.proofs.Copies.{copy-back}
use Rattle.table.proofs.EntryFormat.{entry-long}
use Rattle.writer.proofs.Entries.{used-long}
use Rattle.writer.proofs.Laying.{Laying, Entries, laying-start, laying-turn, laying-over, laying-end}
use Rattle.writer.proofs.Sums.{start-next, start_small, list-within}

module _ {o : Orders} (ord : Ordered o) where
  -- the plan used has its 15 bytes
  plan-long : (k : ℕ) → k < length o.kinds.now → length (listed_at o.kinds.now o.plans.now o.counts.now o.joined.now k).plan ≡ plan_bytes
  plan-long k h =
      used-long (get_or o.kinds.now k 0) (plan_given o.plans.now k) (part_length o.plans.now (plan_bytes * k) plan_bytes (omega (arith, ord.planned)))

  each-entry : (edition : ℕ) → Entries edition (columns_of o)
  each-entry edition k h =
      let l : k < length o.kinds.now = omega (arith, columns-count o) in
      ap (λ (c : Listed). length (entry_laid edition c)) (column-is o.kinds.now o.plans.now o.counts.now o.joined.now k l)
      ∙ entry-long edition (entry_of (column_for edition (listed_at o.kinds.now o.plans.now o.counts.now o.joined.now k))) (plan-long k l)

-- the columns below k are laid, list k begins at `from`, and the slices keep their lengths; and what holds of them from the start on
pub record Passing (edition : ℕ) (o : Orders) (w₀ head : List ℕ) (n : ℕ) (w out : List ℕ) (at from k : ℕ) : Type 0 where
  pub all : n ≡ length o.kinds.now
  pub laid : Laying edition (columns_of o) n head out at k
  pub starts : from ≡ list_start o.counts.now k
  pub work_long : length w ≡ length w₀
  pub out_long : length out ≡ length head

pub passing-start : {edition : ℕ} {o : Orders} {w head : List ℕ} {at : ℕ}
    → Ordered o → at ≡ entry_offset edition (length o.kinds.now) → Passing edition o w head (length o.kinds.now) w head at 0 0
unfolding sum
passing-start {edition} {o} ord e =
    record {
      all = refl;
      laid = laying-start ord.few (sym (columns-count o)) (each-entry ord edition) e;
      starts = refl;
      work_long = refl;
      out_long = refl;
    }

module _ {edition : ℕ} {o : Orders} {w₀ head : List ℕ} {n : ℕ} {w out : List ℕ} {at from k : ℕ}
    (so : Passing edition o w₀ head n w out at from k) where
  pub passing-end : n ≤ k → {o₀ o₁ : List ℕ} {b : ℕ} → o₁ ≡ set o₀ 0 edition → b ≡ n → head ≡ set o₁ 1 b
      → Laid (sheet_bytes edition (columns_of o)) o₀ out at
  passing-end h e₁ eb e₂ = laying-end so.laid h (e₂ ∙ ap₂ (λ (x : List ℕ) (j : ℕ). set x 1 j) e₁ eb)

  module _ (ord : Ordered o) (h : k < length o.kinds.now) where
    abbrev many : ℕ
    many = get_or o.counts.now k 0

    -- list k lies within the joined lists
    pub passing-list : from + many ≤ length o.joined.now
    passing-list = omega (arith, so.starts, ord.whole, list-within o.counts.now k (omega (arith, h, ord.counted)))

    -- where the next list begins is a number
    pub passing-adds : from + many < 2 ^ 62
    passing-adds = omega (arith, so.starts, ord.few, ord.small k, start_small o.counts.now ord.small k)

    module _ (room : (i : ℕ) → 7 * get_or o.counts.now i 0 ≤ length w₀) where
      -- work has room for it
      pub passing-work : many ≤ length w
      passing-work = omega (arith, room k, so.work_long)

      module _ {plan : List ℕ} (ep : plan ≡ plan_used (get_or o.kinds.now k 0) (plan_given o.plans.now k)) where
        module _ {w₁ : List ℕ} (ew : w₁ ≡ sets w 0 (part o.joined.now from many)) {slot : ℕ} {out' : List ℕ} {end : Offset}
            (put : ColumnPut edition (record { kind = get_or o.kinds.now k 0; plan = plan; numbers = take many w₁ }) slot at out out' end) where
          numbers-are : take many w₁ ≡ part o.joined.now (list_start o.counts.now k) many
          numbers-are =
              copy-back o.joined.now from many w passing-list passing-work ew ∙ ap (λ (i : ℕ). part o.joined.now i many) so.starts

          -- it is column k that was put
          column-here : get_or (columns_of o) k blank_listed ≡ record { kind = get_or o.kinds.now k 0; plan = plan; numbers = take many w₁ }
          column-here =
              column-is o.kinds.now o.plans.now o.counts.now o.joined.now k h
              ∙ ap₂ (λ (p xs : List ℕ). record { kind = get_or o.kinds.now k 0; plan = p; numbers = xs }) (sym ep) (sym numbers-are)

          pub passing-over : most_bytes < end.byte → {o₀ : List ℕ} → Laid (sheet_bytes edition (columns_of o)) o₀ out' end.byte
          passing-over b = laying-over so.laid (omega (arith, so.all)) column-here put b

          pub passing-turn : slot ≡ entry_offset edition k → end.byte ≤ most_bytes → {w' : List ℕ} → length w' ≡ length w → length out' ≡ length out
              → Passing edition o w₀ head n w' out' end.byte (from + many) (k + 1)
          passing-turn es b lw lo =
              record {
                all = so.all;
                laid = laying-turn so.laid (omega (arith, so.all)) column-here put es b;
                starts = omega (arith, so.starts, start-next o.counts.now k (omega (arith, h, ord.counted)));
                work_long = lw ∙ so.work_long;
                out_long = lo ∙ so.out_long;
              }
