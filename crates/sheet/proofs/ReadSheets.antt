-- What reading a column of a sheet answers, over plain variables. Assumes only the laws of the codes.
use Rattle.meaning.specs.declared.Refusal.{Refusal}
use Rattle.meaning.specs.declared.Refusal.TheVariants.{ShortWork, NoRoom}
use Rattle.std.specs.Prelude.{Result, Ok, Err}
use Prim.Native.Nat.{ℕ, ◌*◌, ◌≤◌, ◌<◌}
use mathlib.Core.Path.{◌≡◌, sym, ap, ◌∙◌}
use mathlib.Core.List.{List, ◌++◌}
use native.Mathlib.Nat.{zero-add}
use native.Mathlib.Omega.{arith}
use lib.ListN.{length, take, drop, length-take}
use lib.Seq.{sets, sets-eq}
use borrow.Author.Tests.{le-leb, lt-leb}
use Rattle.meaning.specs.Answer.{Answer, given, refused, amount, filled}
use Rattle.meaning.specs.Limits.{no_room, short_work}
use Rattle.meaning.specs.Operations.{column, read_sheet}
use Rattle.meaning.specs.Places.{part, Below, Got}
use Rattle.meaning.specs.Says.{refusal_number, says}
use Rattle.meaning.specs.Sheet.{Column, read_column}
use Rattle.stages.proofs.Gots.{got-given, got-not}
use Rattle.table.specs.Entries.{Opened}
use Rattle.table.specs.declared.Entry.{Entry}
use Rattle.sheet.specs.Opened.{column_of}
use Rattle.sheet.proofs.Entered.{body_bytes, opened-column}
use Rattle.sheet.proofs.ReadColumns.{column-many}

-- what a reading says and leaves in the output
abbrev pub ReadSays : Answer (List ℕ) → List ℕ → List ℕ → Result ℕ Refusal → Type 0
ReadSays a out out' r = (says r ≡ amount a) × (out' ≡ filled a out)

-- a refusal leaves the output as it was
says-refused : (a : Answer (List ℕ)) (out : List ℕ) (z : Refusal) → a ≡ refused (refusal_number z) → ReadSays a out out (Err z)
says-refused a out z e = (ap amount (sym e), sym (ap (λ (b : Answer (List ℕ)). filled b out) e))

-- n numbers were copied to its start
says-whole : (a : Answer (List ℕ)) (w out out' : List ℕ) (n : ℕ) → a ≡ given (take n w) → length (take n w) ≡ n → n ≤ length out → out' ≡ sets out 0 (take n w)
    → ReadSays a out out' (Ok n)
says-whole a w out out' n e many fits is =
    let xs = take n w in
    let put : sets out 0 xs ≡ xs ++ drop (length xs) out =
    sets-eq xs out 0 (omega arith) ∙ ap (λ (j : ℕ). xs ++ drop j out) (zero-add (length xs)) in (
      ap (λ (j : ℕ). given j) (sym many) ∙ ap amount (sym e),
      is ∙ put ∙ sym (ap (λ (b : Answer (List ℕ)). filled b out) e),
    )

module _ (sheet : List ℕ) (k work room : ℕ) where
  read_none : (z : ℕ) → column sheet k ≡ refused z → read_sheet sheet k work room ≡ refused z
  unfolding read_sheet
  read_none z e = rw e

  module _ (c : Column) (told : column sheet k ≡ given c) where
    read_short : work < 7 * c.count → read_sheet sheet k work room ≡ refused short_work
    unfolding read_sheet
    read_short h = rw (told, lt-leb (7 * c.count) work h)

    read-full : 7 * c.count ≤ work → room < c.count → read_sheet sheet k work room ≡ refused no_room
    unfolding read_sheet
    read-full h l = rw (told, le-leb (7 * c.count) work h, lt-leb c.count room l)

    pub read_all : 7 * c.count ≤ work → c.count ≤ room → read_sheet sheet k work room ≡ read_column c
    unfolding read_sheet
    read_all h l = rw (told, le-leb (7 * c.count) work h, le-leb c.count room l)

-- ---- by the entry
-- a column that is not there
pub says_none : (sheet : List ℕ) (k : ℕ) (w out : List ℕ) (z : Refusal) → column sheet k ≡ refused (refusal_number z)
    → ReadSays (read_sheet sheet k (length w) (length out)) out out (Err z)
says_none sheet k w out z e = says-refused (read_sheet sheet k (length w) (length out)) out z (read_none sheet k (length w) (length out) (refusal_number z) e)

module _ {sheet : List ℕ} {k : ℕ} {e : Entry} (o : Opened sheet k e) (w out : List ℕ) where
  abbrev answer : Answer (List ℕ)
  answer = read_sheet sheet k (length w) (length out)

  pub says-short : length w < 7 * e.count → ReadSays answer out out (Err ShortWork)
  says-short h = says-refused answer out ShortWork (read_short sheet k (length w) (length out) (column_of sheet e) (opened-column o) h)

  module _ (room : 7 * e.count ≤ length w) where
    pub says-full : length out < e.count → ReadSays answer out out (Err NoRoom)
    says-full h = says-refused answer out NoRoom (read-full sheet k (length w) (length out) (column_of sheet e) (opened-column o) room h)

    module _ (fits : e.count ≤ length out) {w₁ : List ℕ} {q : Result ℕ Refusal} (so : Got (read_column (column_of sheet e)) 0 w w₁ q) where
      is : answer ≡ read_column (column_of sheet e)
      is = read_all sheet k (length w) (length out) (column_of sheet e) (opened-column o) room fits

      pub says-fault : {z : Refusal} → q ≡ Err z → ReadSays answer out out (Err z)
      says-fault {z} t = says-refused answer out z (is ∙ got-not (read_column (column_of sheet e)) 0 w w₁ q so z t)

      -- the numbers that stand in work are those that the entry counts
      module _ {n : ℕ} (t : q ≡ Ok n) (bytes : Below 256 sheet) where
        got : (read_column (column_of sheet e) ≡ given (part w₁ 0 n)) × (length (part w₁ 0 n) ≡ n)
        got = got-given (read_column (column_of sheet e)) 0 w w₁ q so n t

        counted : n ≡ e.count
        counted = sym got.1 ∙ (column-many (column_of sheet e) (part w₁ 0 n) (body_bytes sheet e bytes) got.0).1

        pub copy-room : (n ≤ length w₁) × (n ≤ length out)
        copy-room = (omega (arith, got.1, length-take n w₁), omega (arith, counted))

        pub says-copied : {out' : List ℕ} → out' ≡ sets out 0 (take n w₁) → ReadSays answer out out' (Ok n)
        says-copied {out'} put = says-whole answer w₁ out out' n (is ∙ got.0) got.1 (omega (arith, counted)) put
