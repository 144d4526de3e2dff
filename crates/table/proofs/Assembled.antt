-- A sheet put together from columns has those columns, and a sheet whose table is whole and whose bodies fill the rest is put together from its own:
-- the two laws of the sheet's format. Assumes nothing.
use Prim.Native.Nat.{ℕ, zero, suc, ◌+◌, ◌*◌, ◌≤◌, ◌<◌}
use mathlib.Core.Path.{◌≡◌, refl, sym, ap, ap₂, ◌∙◌}
use mathlib.Core.List.{List, [], ◌∷◌, ◌++◌, append_assoc, map}
use native.Mathlib.Nat.{mul-zero}
use native.Mathlib.Omega.{arith}
use lib.ListN.{length, get_or, take, drop, length-append, length-drop, take-append-drop}
use lib.Seq.{take_at, drop_at, drop-drop, take-add}
use Rattle.meaning.specs.Lists.{sum, joined}
use Rattle.meaning.specs.Places.{Below}
use Rattle.meaning.specs.Sheet.{Entry, entry_size, entry_bytes, entry_in, Column, entry_of, assemble}
use Rattle.meaning.specs.Sheet.{column_in, columns_in, edition_of, column_count, table_size, columns_of}
use Rattle.meaning.proofs.Bounds.{below-drop}
use Rattle.table.specs.Offsets.{blank_column}
use Rattle.table.proofs.Columns.{column-count}
use Rattle.table.proofs.EntryFormat.{Sized, entry-long, entry-forth, entry-back, past-entry}

-- a column of an edition whose entry can be laid down and says how long its body is
pub record Entered (edition : ℕ) (c : Column) : Type 0 where
  pub made : c.edition ≡ edition
  pub sized : Sized (entry_of c)
  pub whole : length c.body ≡ c.size

abbrev pub AllEntered : ℕ → List Column → Type 0
AllEntered edition cs = (k : ℕ) → k < length cs → Entered edition (get_or cs k blank_column)

-- all entries, and all bodies
abbrev pub entries_of : ℕ → List Column → List ℕ
entries_of edition cs = joined (λ c. entry_bytes edition (entry_of c)) cs

abbrev pub bodies_of : List Column → List ℕ
bodies_of cs = joined (λ c. c.body) cs

-- ---- put together, and read
module _ (edition : ℕ) where
  later : (c : Column) (cs : List Column) → AllEntered edition (c ∷ cs) → AllEntered edition cs
  later c cs all k h = all (suc k) (omega arith)

  -- one column before others
  module _ (c : Column) (rest bodies : List ℕ) (is : Entered edition c) where
    abbrev table : List ℕ
    table = entry_bytes edition (entry_of c) ++ rest

    said : entry_in edition table ≡ entry_of c
    said = entry-forth edition (entry_of c) rest is.sized

    column-in : column_in edition table (c.body ++ bodies) ≡ c
    column-in =
        ap (λ (e : Entry).
        record { edition = edition; kind = e.kind; plan = e.plan; count = e.count; size = e.size; body = take e.size (c.body ++ bodies) }) said
        ∙ ap₂ (λ (n : ℕ) (b : List ℕ). record { edition = n; kind = c.kind; plan = c.plan; count = c.count; size = c.size; body = b })
        (sym is.made) (take_at c.body bodies c.size is.whole)

    past-body : drop (entry_in edition table).size (c.body ++ bodies) ≡ bodies
    past-body = ap (λ (e : Entry). drop e.size (c.body ++ bodies)) said ∙ drop_at c.body bodies c.size is.whole

  columns-in : (cs : List Column) (rest : List ℕ) → AllEntered edition cs → columns_in edition (length cs) (entries_of edition cs ++ rest) (bodies_of cs) ≡ cs
  unfolding columns_in joined
  columns-in [] rest all = refl
  columns-in (c ∷ cs) rest all =
      let is = all 0 (omega arith) in
      let more = entries_of edition cs ++ rest in
      let behind = columns-in cs rest (later c cs all) in
      ap (λ (t : List ℕ). columns_in edition (suc (length cs)) t (c.body ++ bodies_of cs))
      (append_assoc (entry_bytes edition (entry_of c)) (entries_of edition cs) rest)
      ∙ ap₂ (λ (d : Column) (ds : List Column). d ∷ ds) (column-in c more (bodies_of cs) is)
      (ap₂ (columns_in edition (length cs)) (past-entry edition (entry_of c) more is.sized) (past-body c more (bodies_of cs) is) ∙ behind)

  pub entries-long : (cs : List Column) → AllEntered edition cs → length (entries_of edition cs) ≡ entry_size edition * length cs
  unfolding joined
  entries-long [] all = sym (mul-zero (entry_size edition))
  entries-long (c ∷ cs) all =
      omega (
        arith,
        length-append (entry_bytes edition (entry_of c)) (entries_of edition cs),
        entry-long edition (entry_of c) (all 0 (omega arith)).sized.planned,
        entries-long cs (later c cs all),
      )

  module _ (cs : List Column) (all : AllEntered edition cs) where
    pub columns-forth : columns_of (assemble edition cs) ≡ cs
    unfolding columns_of assemble
    columns-forth =
        ap (columns_in edition (length cs) (entries_of edition cs ++ bodies_of cs))
        (sym (drop-drop (entry_size edition * length cs) 2 (assemble edition cs))
        ∙ drop_at (entries_of edition cs) (bodies_of cs) (entry_size edition * length cs) (entries-long cs all))
        ∙ columns-in cs (bodies_of cs) all

    pub assembled-long : length (assemble edition cs) ≡ table_size (assemble edition cs) + length (bodies_of cs)
    unfolding assemble
    assembled-long = omega (arith, length-append (entries_of edition cs) (bodies_of cs), entries-long cs all)

-- ---- read, and put together
module _ (edition : ℕ) where
  entries-back : (n : ℕ) (table bodies : List ℕ) → Below 256 table → entry_size edition * n ≤ length table
      → entries_of edition (columns_in edition n table bodies) ≡ take (entry_size edition * n) table
  unfolding columns_in joined
  entries-back zero table bodies b h = ap (λ (k : ℕ). take k table) (sym (mul-zero (entry_size edition)))
  entries-back (suc n) table bodies b h =
      let size = entry_size edition in
      let e : size + size * n ≡ size * suc n = omega arith in
      ap₂ (λ (l m : List ℕ). l ++ m) (entry-back edition table b (omega arith))
      (entries-back n (drop size table) (drop (entry_in edition table).size bodies) (below-drop 256 size table b) (omega (arith, length-drop size table)))
      ∙ sym (take-add size (size * n) table)
      ∙ ap (λ (k : ℕ). take k table) e

  bodies-back : (n : ℕ) (table bodies : List ℕ) → sum (map (λ (c : Column). c.size) (columns_in edition n table bodies)) ≡ length bodies
      → bodies_of (columns_in edition n table bodies) ≡ bodies
  unfolding columns_in joined sum
  bodies-back zero table bodies h = none bodies h
    where
      none : (bodies : List ℕ) → 0 ≡ length bodies → [] ≡ bodies
      none [] e = refl
      none (x ∷ xs) e = absurd (omega arith)
  bodies-back (suc n) table bodies h =
      let size = (entry_in edition table).size in
      ap (λ (l : List ℕ). take size bodies ++ l)
      (bodies-back n (drop (entry_size edition) table) (drop size bodies) (omega (arith, length-drop size bodies)))
      ∙ take-append-drop size bodies

two-first : (sheet : List ℕ) → 2 ≤ length sheet → edition_of sheet ∷ column_count sheet ∷ drop 2 sheet ≡ sheet
two-first [] h = absurd (omega arith)
two-first (x ∷ []) h = absurd (omega arith)
two-first (x ∷ y ∷ t) h = refl

pub columns-back : (sheet : List ℕ) → Below 256 sheet → 2 ≤ length sheet → table_size sheet ≤ length sheet
    → table_size sheet + sum (map (λ (c : Column). c.size) (columns_of sheet)) ≡ length sheet → assemble (edition_of sheet) (columns_of sheet) ≡ sheet
unfolding assemble columns_of
columns-back sheet bytes least whole filled =
    let edition = edition_of sheet in
    let n = column_count sheet in
    let size = entry_size edition * n in
    let table = drop 2 sheet in
    let bodies = drop (table_size sheet) sheet in
    let fits : size ≤ length table = omega (arith, length-drop 2 sheet) in
    let rest : sum (map (λ (c : Column). c.size) (columns_in edition n table bodies)) ≡ length bodies = omega (arith, length-drop (table_size sheet) sheet) in
    let tail : take size table ++ bodies ≡ table = ap (λ (l : List ℕ). take size table ++ l) (sym (drop-drop size 2 sheet)) ∙ take-append-drop size table in
    ap₂ (λ (m : ℕ) (l : List ℕ). edition ∷ m ∷ l) (column-count sheet)
    (ap₂ (λ (l m : List ℕ). l ++ m) (entries-back edition n table bodies (below-drop 256 2 sheet bytes) fits) (bodies-back edition n table bodies rest) ∙ tail)
    ∙ two-first sheet least
