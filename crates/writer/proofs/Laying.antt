-- A sheet laid down column by column: the head, the entries below k and their bodies stand in the output. Assumes nothing.
use Prim.Native.Nat.{ℕ, zero, suc, ◌+◌, ◌*◌, ◌≤◌, ◌<◌}
use mathlib.Core.Path.{◌≡◌, refl, sym, ap, ap₂, ◌∙◌}
use mathlib.Core.List.{List, ◌∷◌, ◌++◌}
use native.Mathlib.Nat.{mul-zero}
use native.Mathlib.Numerals.{add-one}
use native.Mathlib.Omega.{arith}
use lib.ListN.{length, get_or, take, drop, set, length-append, length-map}
use lib.Seq.{sets, take-length, take-add, take_all}
use Rattle.meaning.specs.Limits.{most_columns, most_bytes}
use Rattle.meaning.specs.Lists.{joined}
use Rattle.meaning.specs.Sheet.{Listed, body_of, Column, column_for, entry_of, entry_bytes, assemble, sheet_bytes, entry_size}
use Rattle.meaning.specs.declared.Offset.{Offset}
use Rattle.meaning.proofs.Stores.{sets-append, sets-swap}
use Rattle.leaves.proofs.Joined.{joined-append, joined-next, joined-map}
use Rattle.table.specs.Offsets.{entry_offset}
use Rattle.table.proofs.Slots.{slot-below, slot_small}
use Rattle.writer.specs.Orders.{blank_listed, Laid, ColumnPut, entry_laid}

-- the entries and the bodies of the columns below k
abbrev pub entries_below : ℕ → List Listed → ℕ → List ℕ
entries_below edition ls k = joined (entry_laid edition) (take k ls)

abbrev pub bodies_below : List Listed → ℕ → List ℕ
bodies_below ls k = joined body_of (take k ls)

-- after a head: some entries and some bodies of n columns
abbrev pub laid_by : ℕ → ℕ → List ℕ → List ℕ → List ℕ → List ℕ
laid_by edition n head entries bodies = sets (sets head 2 entries) (entry_offset edition n) bodies

-- every entry has its size
abbrev pub Entries : ℕ → List Listed → Type 0
Entries edition ls = (k : ℕ) → k < length ls → length (entry_laid edition (get_or ls k blank_listed)) ≡ entry_size edition

-- `head` is the output with its head put, n the number of columns
pub record Laying (edition : ℕ) (ls : List Listed) (n : ℕ) (head o : List ℕ) (at k : ℕ) : Type 0 where
  pub all : n ≡ length ls
  pub each : Entries edition ls
  pub most : k ≤ n
  pub ends : at ≡ entry_offset edition n + length (bodies_below ls k)
  pub below : at ≤ most_bytes
  pub bytes : o ≡ laid_by edition n head (entries_below edition ls k) (bodies_below ls k)

pub laying-start : {edition : ℕ} {ls : List Listed} {n : ℕ} {head : List ℕ} {at : ℕ}
    → n ≤ most_columns → n ≡ length ls → Entries edition ls → at ≡ entry_offset edition n → Laying edition ls n head head at 0
unfolding joined
laying-start {edition} {n = n} few is each e =
    record { all = is; each = each; most = omega arith; ends = omega arith; below = omega (arith, slot_small edition n); bytes = refl }

entries-size : (edition : ℕ) (ls : List Listed) → Entries edition ls → (k : ℕ) → k ≤ length ls → length (entries_below edition ls k) ≡ entry_size edition * k
unfolding joined
entries-size edition ls each zero h = sym (mul-zero (entry_size edition))
entries-size edition ls each (suc k) h =
    let c = get_or ls k blank_listed in
    let next : length (entries_below edition ls (suc k)) ≡ length (entries_below edition ls k) + length (entry_laid edition c) =
    ap (λ (j : ℕ). length (entries_below edition ls j)) (sym (add-one k))
    ∙ ap length (joined-next (entry_laid edition) ls blank_listed k h)
    ∙ length-append (entries_below edition ls k) (entry_laid edition c) in
    omega (arith, entries-size edition ls each k (omega arith), each k (omega arith))

-- the whole sheet by its parts and by its length
pub sheet-is : (edition : ℕ) (ls : List Listed) → sheet_bytes edition ls ≡ edition ∷ length ls ∷ (joined (entry_laid edition) ls ++ joined body_of ls)
unfolding sheet_bytes assemble
sheet-is edition ls =
    ap₂ (λ (n : ℕ) (l : List ℕ). edition ∷ n ∷ l) (length-map ls (column_for edition))
    (ap₂ (λ (l m : List ℕ). l ++ m) (joined-map (λ (c : Column). entry_bytes edition (entry_of c)) (column_for edition) ls)
    (joined-map (λ (c : Column). c.body) (column_for edition) ls))

sheet-size : (edition : ℕ) (ls : List Listed) (n : ℕ) → n ≡ length ls → Entries edition ls
    → length (sheet_bytes edition ls) ≡ entry_offset edition n + length (joined body_of ls)
sheet-size edition ls n e each =
    let all : length (joined (entry_laid edition) ls) ≡ entry_size edition * length ls =
    ap (λ (l : List Listed). length (joined (entry_laid edition) l)) (sym (take-length ls)) ∙ entries-size edition ls each (length ls) (omega arith) in
    omega (arith, ap length (sheet-is edition ls), length-append (joined (entry_laid edition) ls) (joined body_of ls), ap (entry_offset edition) e)

bodies-grow : (ls : List Listed) (k : ℕ) → length (bodies_below ls k) ≤ length (joined body_of ls)
bodies-grow ls k =
    let rest = take (length ls) (drop k ls) in
    let whole : ls ≡ take k ls ++ rest = sym (take_all (k + length ls) ls (omega arith)) ∙ take-add k (length ls) ls in
    let parts : joined body_of ls ≡ bodies_below ls k ++ joined body_of rest = ap (joined body_of) whole ∙ joined-append body_of (take k ls) rest in
    omega (arith, ap length parts, length-append (bodies_below ls k) (joined body_of rest))

module _ {edition : ℕ} {ls : List Listed} {n : ℕ} {head o : List ℕ} {at k : ℕ} (so : Laying edition ls n head o at k) where
  -- column k has been put
  module _ (h : k < n) {c : Listed} (ec : get_or ls k blank_listed ≡ c) {slot : ℕ} {o' : List ℕ} {end : Offset}
      (put : ColumnPut edition c slot at o o' end) where
    bodies-next : bodies_below ls (k + 1) ≡ bodies_below ls k ++ body_of c
    bodies-next = joined-next body_of ls blank_listed k (omega arith) ∙ ap (λ (l : Listed). bodies_below ls k ++ body_of l) ec

    entries_next : entries_below edition ls (k + 1) ≡ entries_below edition ls k ++ entry_laid edition c
    entries_next = joined-next (entry_laid edition) ls blank_listed k (omega arith) ∙ ap (λ (l : Listed). entries_below edition ls k ++ entry_laid edition l) ec

    end_is : end.byte ≡ entry_offset edition n + length (bodies_below ls (k + 1))
    end_is = omega (arith, put.ends, so.ends, ap length bodies-next, length-append (bodies_below ls k) (body_of c))

    -- its body passes 65,536, which ends the pass
    pub laying-over : most_bytes < end.byte → {o₀ : List ℕ} → Laid (sheet_bytes edition ls) o₀ o' end.byte
    laying-over b =
        record {
          told = λ l. absurd (omega arith);
          over = λ l. omega (arith, end_is, bodies-grow ls (k + 1), sheet-size edition ls n so.all so.each);
        }

    -- in its slot, and below 65,536
    pub laying-turn : slot ≡ entry_offset edition k → end.byte ≤ most_bytes → Laying edition ls n head o' end.byte (k + 1)
    laying-turn es b =
        record {
          all = so.all;
          each = so.each;
          most = omega arith;
          ends = end_is;
          below = b;
          bytes = put.laid b ∙ ap₂ (λ (l : List ℕ) (j : ℕ). sets l j (entry_laid edition c)) put-body es ∙ put-entry;
        }
      where
        E : List ℕ
        E = entries_below edition ls k

        B : List ℕ
        B = bodies_below ls k

        put-body : sets o at (body_of c) ≡ sets (sets head 2 E) (entry_offset edition n) (B ++ body_of c)
        put-body =
            ap₂ (λ (l : List ℕ) (j : ℕ). sets l j (body_of c)) so.bytes so.ends
            ∙ sets-append B (body_of c) (sets head 2 E) (entry_offset edition n)

        long : length (entry_laid edition c) ≡ entry_size edition
        long = ap (λ (l : Listed). length (entry_laid edition l)) (sym ec) ∙ so.each k (omega arith)

        put-entry : sets (sets (sets head 2 E) (entry_offset edition n) (B ++ body_of c)) (entry_offset edition k) (entry_laid edition c)
            ≡ laid_by edition n head (entries_below edition ls (k + 1)) (bodies_below ls (k + 1))
        put-entry =
            let here : entry_offset edition k ≡ 2 + length E = omega (arith, entries-size edition ls so.each k (omega arith)) in
            sets-swap (entry_laid edition c) (B ++ body_of c) (sets head 2 E) (entry_offset edition k) (entry_offset edition n)
            (omega (arith, long, slot-below edition k n h))
            ∙ ap (λ (l : List ℕ). sets l (entry_offset edition n) (B ++ body_of c))
            (ap (λ (j : ℕ). sets (sets head 2 E) j (entry_laid edition c)) here ∙ sets-append E (entry_laid edition c) head 2)
            ∙ ap₂ (λ (e b : List ℕ). sets (sets head 2 e) (entry_offset edition n) b) (sym entries_next) (sym bodies-next)

  -- all are laid
  pub laying-end : n ≤ k → {o₀ : List ℕ} → head ≡ set (set o₀ 0 edition) 1 n → Laid (sheet_bytes edition ls) o₀ o at
  laying-end h {o₀} eh =
      let e : k ≡ length ls = omega (arith, so.most, so.all) in
      let whole : take k ls ≡ ls = ap (λ (j : ℕ). take j ls) e ∙ take-length ls in
      let bodies : bodies_below ls k ≡ joined body_of ls = ap (joined body_of) whole in
      let entries : entries_below edition ls k ≡ joined (entry_laid edition) ls = ap (joined (entry_laid edition)) whole in
      let end : entry_offset edition n ≡ 2 + length (joined (entry_laid edition) ls) =
      omega (arith, ap length entries, entries-size edition ls so.each k (omega arith), ap (entry_offset edition) (so.all ∙ sym e)) in
      let length-is : at ≡ length (sheet_bytes edition ls) = omega (arith, so.ends, ap length bodies, sheet-size edition ls n so.all so.each) in
      record {
        told = λ l. (
          length-is,
          so.bytes
              ∙ ap₂ (λ (x y : List ℕ). laid_by edition n head x y) entries bodies
              ∙ ap (λ (j : ℕ). sets (sets head 2 (joined (entry_laid edition) ls)) j (joined body_of ls)) end
              ∙ sets-append (joined (entry_laid edition) ls) (joined body_of ls) head 2
              ∙ ap (λ (x : List ℕ). sets x 2 (joined (entry_laid edition) ls ++ joined body_of ls)) (eh ∙ ap (set (set o₀ 0 edition) 1) so.all)
              ∙ ap (sets o₀ 0) (sym (sheet-is edition ls)),
        );
        over = λ l. absurd (omega (arith, so.below));
      }
