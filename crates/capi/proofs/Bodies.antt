-- Where a body stands in a sheet. Assumes nothing.
use Prim.Native.Nat.{ℕ}
use mathlib.Core.Path.{◌≡◌, sym, ap, ◌∙◌}
use mathlib.Core.List.{List}
use native.Mathlib.Omega.{arith}
use lib.ListN.{length}
use Rattle.meaning.specs.Answer.{given, refused, number, list}
use Rattle.meaning.specs.Operations.{column, fetch}
use Rattle.meaning.specs.Sheet.{column_at, body_begins}
use Rattle.table.specs.Entries.{Opened}
use Rattle.table.specs.declared.Entry.{Entry}
use Rattle.table.proofs.ColumnLaws.{column-here, fetch-refused}
use Rattle.table.proofs.Sounds.{sound-column}
use Rattle.capi.specs.Told.{offset_of, Fetches}

module _ (sheet : List ℕ) (k : ℕ) where
  body-given : (e : Entry) → Opened sheet k e → fetch sheet k ≡ given (column_at sheet k).body
  unfolding fetch
  body-given e o = rw o.told

  pub fetches-body : (e : Entry) → Opened sheet k e → Fetches sheet k 0 e.body.byte e.size
  fetches-body e o =
      let here = column-here sheet k _ o.told in
      let below = here.exists in
      let f = body-given e o in
      record {
        returned = sym (ap number f);
        offset = o.entry.begins ∙ sym (ap (λ a. offset_of a (body_begins sheet k)) f);
        size = o.entry.size ∙ sym (sound-column sheet here.sounds k below).long ∙ sym (ap (λ a. length (list a)) f);
        part = o.entry.body ∙ sym (ap list f);
        inside = o.entry.body_fits;
      }

  pub fetches-none : (e r : ℕ) → column sheet k ≡ refused e → r ≡ e → Fetches sheet k r 0 0
  fetches-none e r q h =
      let f = fetch-refused sheet k e q in
      record {
        returned = h ∙ sym (ap number f);
        offset = sym (ap (λ a. offset_of a (body_begins sheet k)) f);
        size = sym (ap (λ a. length (list a)) f);
        part = sym (ap list f);
        inside = omega arith;
      }
