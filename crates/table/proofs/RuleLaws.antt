-- What the tests of a sheet answer, over plain variables. Assumes nothing.
use Prim.Native.Nat.{ℕ, ◌+◌, ◌≤◌, ◌<◌}
use mathlib.Core.Path.{◌≡◌, sym, ap, ap₂, ◌∙◌}
use mathlib.Core.Bool.{Bool, true, false}
use mathlib.Core.Logic.{◌⊎◌, inl, inr}
use mathlib.Core.List.{List, map}
use native.Mathlib.Omega.{arith}
use lib.Dec.{leb, eqb}
use lib.ListN.{length}
use borrow.Author.Tests.{le-leb, lt-leb}
use Rattle.std.specs.Prelude.{Result, Ok, Err}
use Rattle.meaning.specs.Answer.{passed, blamed, in_turn}
use Rattle.meaning.specs.Limits.{most_columns, most_bytes, last_edition}
use Rattle.meaning.specs.Lists.{all, sum}
use Rattle.meaning.specs.Plan.{judge_plan}
use Rattle.meaning.specs.Says.{refusal_number, says}
use Rattle.meaning.specs.Sheet.{edition_of, table_size, columns_of, column_at, is_edition, is_sheet, table_holds, column_count}
use Rattle.meaning.specs.declared.Refusal.{Refusal}
use Rattle.table.specs.Offsets.{slot_of, body_offset, blank_column}
use Rattle.table.specs.Rules.{entry_holds, plan_judged}
use Rattle.table.proofs.Columns.{Counted, one-of-them, past-them, sizes-all}
use Rattle.table.proofs.InTurn.{PassedBelow, below-turn, below-refuse, below_end}

-- ---- whether there is such an edition
module _ (edition : ℕ) where
  pub too-early : edition < 1 → false ≡ is_edition edition
  unfolding is_edition
  too-early h = rw (lt-leb 1 edition h)

  pub by_last : 1 ≤ edition → leb edition last_edition ≡ is_edition edition
  unfolding is_edition
  by_last h = rw (le-leb 1 edition h)

-- ---- whether it is a sheet
module _ (sheet : List ℕ) where
  pub other-size : (length sheet < 2) ⊎ ((2 ≤ length sheet) × (most_bytes < length sheet)) → false ≡ is_sheet sheet
  unfolding is_sheet
  other-size (inl h) = rw (lt-leb 2 (length sheet) h)
  other-size (inr h) = rw (le-leb 2 (length sheet) h.0, lt-leb (length sheet) most_bytes h.1)

  module _ (least : 2 ≤ length sheet) where
    module _ (most : length sheet ≤ most_bytes) where
      module _ {e : ℕ} (is : e ≡ edition_of sheet) {t : Bool} (known : t ≡ is_edition e) where
        pub other-edition : t ≡ false → false ≡ is_sheet sheet
        unfolding is_sheet
        other-edition h = rw (le-leb 2 (length sheet) least, le-leb (length sheet) most_bytes most, ← is, ← known, h)

        pub by_count : t ≡ true → {n : ℕ} → n ≡ column_count sheet → leb n most_columns ≡ is_sheet sheet
        unfolding is_sheet
        by_count h c = rw (le-leb 2 (length sheet) least, le-leb (length sheet) most_bytes most, ← is, ← known, h, c)

-- ---- whether the table holds
module _ (sheet : List ℕ) {columns : ℕ} (n : columns ≡ column_count sheet) {b : ℕ} (is : b ≡ slot_of sheet columns) where
  pub table-short : length sheet < b → false ≡ table_holds sheet
  unfolding table_holds
  table-short h = rw (lt-leb (table_size sheet) (length sheet) (omega (arith, ap (slot_of sheet) n)))

  pub table-whole : b ≤ length sheet → table_size sheet ≤ length sheet
  table-whole h = omega (arith, ap (slot_of sheet) n)

  module _ (whole : b ≤ length sheet) {t : Bool} (held : t ≡ all entry_holds (columns_of sheet)) where
    pub table-broken : t ≡ false → false ≡ table_holds sheet
    unfolding table_holds
    table-broken e =
        let f : all entry_holds (columns_of sheet) ≡ false = sym held ∙ e in
        rw (le-leb (table_size sheet) (length sheet) (table-whole whole), f)

    pub table_filled : t ≡ true → {end : ℕ} → end ≡ body_offset sheet columns → eqb end (length sheet) ≡ table_holds sheet
    unfolding table_holds
    table_filled e {end} q =
        let f : all entry_holds (columns_of sheet) ≡ true = sym held ∙ e in
        let z : end ≡ table_size sheet + sum (map (λ c. c.size) (columns_of sheet)) =
        q ∙ ap (body_offset sheet) n ∙ ap (λ (j : ℕ). table_size sheet + j) (sym (sizes-all sheet)) in
        rw (le-leb (table_size sheet) (length sheet) (table-whole whole), f) (ap (λ (j : ℕ). eqb j (length sheet)) z)

-- ---- each plan in turn: those below k have passed
pub record PlansSo (sheet : List ℕ) (columns k : ℕ) : Type 0 where
  pub counted : Counted sheet columns
  pub below : PassedBelow plan_judged (columns_of sheet) k

module _ {sheet : List ℕ} {columns k : ℕ} (so : PlansSo sheet columns k) where
  pub plans-end : columns ≤ k → passed ≡ in_turn plan_judged 0 (columns_of sheet)
  plans-end h = sym (below_end plan_judged (columns_of sheet) k so.below (past-them so.counted h))

  module _ (h : k < columns) {kind : ℕ} {plan : List ℕ} (ek : kind ≡ (column_at sheet k).kind) (ep : plan ≡ (column_at sheet k).plan) where
    here : judge_plan kind plan ≡ plan_judged (column_at sheet k)
    here = ap₂ judge_plan ek ep

    pub plans-turn : {r : Result (Unit {0}) Refusal} {u : Unit {0}} → says r ≡ judge_plan kind plan → r ≡ Ok u → PlansSo sheet columns (k + 1)
    plans-turn is e =
        let passes = sym (is ∙ here) ∙ ap says e in
        record {
          counted = so.counted;
          below = below-turn plan_judged (columns_of sheet) blank_column k so.below (one-of-them so.counted h) tt passes;
        }

    pub plans-refuse : {r : Result (Unit {0}) Refusal} {z : Refusal} → says r ≡ judge_plan kind plan → r ≡ Err z
        → blamed (refusal_number z) k ≡ in_turn plan_judged 0 (columns_of sheet)
    plans-refuse {z = z} is e =
        let refuses = sym (is ∙ here) ∙ ap says e in
        sym (below-refuse plan_judged (columns_of sheet) blank_column k so.below (one-of-them so.counted h) (refusal_number z) refuses)
