-- An entry laid down is read back, and one that was read is laid down as it stood: the two laws of its format. Assumes nothing.
use Prim.Native.Nat.{ℕ, ◌≤◌, ◌<◌}
use mathlib.Core.Path.{◌≡◌, sym, ap, ap₂, ◌∙◌}
use mathlib.Core.List.{List, [], ◌∷◌, ◌++◌, append_assoc}
use native.Mathlib.Omega.{arith}
use lib.ListN.{length, get_or, take, drop, length-append}
use lib.Seq.{take_at, drop_at, take-add}
use Rattle.meaning.specs.Bytes.{word, word_at}
use Rattle.meaning.specs.Limits.{number_limit, plan_bytes}
use Rattle.meaning.specs.Places.{Below}
use Rattle.meaning.specs.Sheet.{Entry, entry_size, plan_in, count_in, size_in, entry_bytes, entry_in}
use Rattle.words.proofs.Words.{word-length, word_first, word_next, word-at, word-drop}

-- an entry that can be laid down: its plan has 15 bytes, its count and its body's length are numbers
pub record Sized (e : Entry) : Type 0 where
  pub planned : length e.plan ≡ plan_bytes
  pub counted : e.count < number_limit
  pub short : e.size < number_limit

module _ (edition : ℕ) (e : Entry) where
  pub entry-long : length e.plan ≡ plan_bytes → length (entry_bytes edition e) ≡ entry_size edition
  unfolding entry_size entry_bytes
  entry-long planned =
      let a = length-append e.plan (word e.count ++ word e.size) in
      let b = length-append (word e.count) (word e.size) in
      omega (arith, word-length e.count, word-length e.size)

  -- ---- laid down before other bytes, and read
  module _ (rest : List ℕ) where
    abbrev behind : List ℕ
    behind = word e.count ++ (word e.size ++ rest)

    flat : entry_bytes edition e ++ rest ≡ e.kind ∷ (e.plan ++ behind)
    unfolding entry_bytes
    flat =
        ap (λ (t : List ℕ). e.kind ∷ t)
        (append_assoc e.plan (word e.count ++ word e.size) rest
        ∙ ap (λ (t : List ℕ). e.plan ++ t) (append_assoc (word e.count) (word e.size) rest))

    module _ (sized : Sized e) where
      abbrev bytes : List ℕ
      bytes = entry_bytes edition e ++ rest

      plan-in : take plan_bytes (drop plan_in bytes) ≡ e.plan
      plan-in = ap (λ (t : List ℕ). take plan_bytes (drop plan_in t)) flat ∙ take_at e.plan behind plan_bytes sized.planned

      past-plan : drop count_in bytes ≡ behind
      past-plan = ap (drop count_in) flat ∙ drop_at e.plan behind plan_bytes sized.planned

      count-in : word_at bytes count_in ≡ e.count
      count-in = sym (word-drop bytes count_in 0) ∙ ap (λ (t : List ℕ). word_at t 0) past-plan ∙ word_first e.count (word e.size ++ rest) sized.counted

      size-in : word_at bytes size_in ≡ e.size
      size-in =
          sym (word-drop bytes count_in 4)
          ∙ ap (λ (t : List ℕ). word_at t 4) past-plan
          ∙ word_next e.count (word e.size ++ rest)
          ∙ word_first e.size rest sized.short

      kind-in : get_or bytes 0 0 ≡ e.kind
      kind-in = ap (λ (t : List ℕ). get_or t 0 0) flat

      pub entry-forth : entry_in edition bytes ≡ e
      entry-forth = λ i. record { kind = kind-in i; plan = plan-in i; count = count-in i; size = size-in i }

      pub past-entry : drop (entry_size edition) bytes ≡ rest
      past-entry = drop_at (entry_bytes edition e) rest (entry_size edition) (entry-long sized.planned)

-- ---- read, and laid down
parts : (edition : ℕ) (table : List ℕ) → entry_size edition ≤ length table
    → get_or table 0 0 ∷ (take plan_bytes (drop plan_in table) ++ (take 4 (drop count_in table) ++ take 4 (drop size_in table))) ≡ take
    (entry_size edition) table
unfolding entry_size
parts edition [] h = absurd (omega arith)
parts edition (x ∷ t) h =
    ap (λ (r : List ℕ). x ∷ r)
    (sym (append_assoc (take 15 t) (take 4 (drop 15 t)) (take 4 (drop 19 t)))
    ∙ ap (λ (r : List ℕ). r ++ take 4 (drop 19 t)) (sym (take-add 15 4 t))
    ∙ sym (take-add 19 4 t))

pub entry-back : (edition : ℕ) (table : List ℕ) → Below 256 table → entry_size edition ≤ length table
    → entry_bytes edition (entry_in edition table) ≡ take (entry_size edition) table
unfolding entry_size entry_bytes
entry-back edition table b h =
    ap₂ (λ (m n : List ℕ). get_or table 0 0 ∷ (take plan_bytes (drop plan_in table) ++ (m ++ n)))
    (word-at table count_in b (omega arith)) (word-at table size_in b (omega arith))
    ∙ parts edition table h
