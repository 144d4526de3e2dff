-- Where entries stand, whatever size the edition gives them: each lies before the next, and within a table that is whole. Assumes nothing.
use Prim.Native.Nat.{ℕ, suc, ◌+◌, ◌*◌, ◌≤◌, ◌<◌}
use mathlib.Core.Path.{◌≡◌}
use mathlib.Core.List.{List}
use native.Mathlib.Nat.{mul-le-mul_left, mul-le-mul_right}
use native.Mathlib.Omega.{arith}
use lib.ListN.{length}
use Rattle.meaning.specs.Sheet.{entry_size, edition_of, column_count}
use Rattle.table.specs.Offsets.{entry_offset, slot_of, Within}

module _ (edition : ℕ) where
  -- an entry has the 24 bytes that every edition lays down alike, and no edition more than 32
  pub entry-least : 24 ≤ entry_size edition
  unfolding entry_size
  entry-least = omega arith

  pub entry-most : entry_size edition ≤ 32
  unfolding entry_size
  entry-most = omega arith

  slot_next : (k : ℕ) → entry_offset edition k + entry_size edition ≡ entry_offset edition (suc k)
  slot_next k = omega arith

  -- one of n entries ends where the table does, or before
  pub slot-below : (k n : ℕ) → k < n → entry_offset edition k + entry_size edition ≤ entry_offset edition n
  slot-below k n h = omega (arith, slot_next k, mul-le-mul_left (entry_size edition) h)

  -- so that where they stand is a small number
  pub slot_small : (k : ℕ) → entry_offset edition k ≤ 2 + 32 * k
  slot_small k = omega (arith, mul-le-mul_right k entry-most)

-- in a sheet whose table is whole
module _ {sheet : List ℕ} {k : ℕ} (within : Within sheet k) where
  pub slot-within : slot_of sheet k + 24 ≤ length sheet
  slot-within =
      let edition = edition_of sheet in
      omega (arith, within.whole, slot-below edition k (column_count sheet) within.below, entry-least edition)
