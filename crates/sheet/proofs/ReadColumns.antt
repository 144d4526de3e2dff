-- A column read: its plan's reading, and that the list is of its kind. Assumes only the laws of the codes.
use Rattle.meaning.specs.declared.Refusal.{Refusal}
use Rattle.meaning.specs.declared.Refusal.TheVariants.{Broken}
use Rattle.std.specs.Prelude.{Result, Ok, Err}
use Prim.Native.Nat.{ℕ, ◌≤◌}
use mathlib.Core.Path.{◌≡◌, refl, sym, ap, ◌∙◌, subst}
use mathlib.Core.Bool.{true, false}
use mathlib.Core.List.{List}
use native.Mathlib.Omega.{arith}
use lib.ListN.{length, length-take}
use Rattle.meaning.specs.Answer.{Answer, given, need}
use Rattle.meaning.specs.Limits.{broken, plan_bytes}
use Rattle.meaning.specs.Places.{part, Below, Got}
use Rattle.meaning.specs.Plan.{plan_of}
use Rattle.meaning.specs.Sheet.{Column, of_kind, edition_of, read_column}
use Rattle.meaning.specs.Stages.{read}
use Rattle.meaning.proofs.Answers.{bind-given, need-given}
use Rattle.stages.proofs.Back.{back}
use Rattle.stages.proofs.Gots.{got-refused, got-given, got-stop, got-then}
use Rattle.table.specs.declared.Entry.{Entry}
use Rattle.sheet.specs.Opened.{column_of}
use Rattle.sheet.proofs.Entered.{of-column}
use Rattle.codes.proofs.Numbered.{laws}

-- what is asked of a list that was read for a kind, by the edition
abbrev keep : ℕ → ℕ → List ℕ → Answer (List ℕ)
keep edition kind xs = need (of_kind edition kind xs) broken (given xs)

-- a list that stands in work where it is
got-part : (w : List ℕ) (n : ℕ) → length (part w 0 n) ≡ n → Got (given (part w 0 n)) 0 w w (Ok n)
got-part w n many =
    record {
      told = ap (λ (j : ℕ). given j) (sym many);
      here = λ xs i. let x : part w 0 n ≡ xs = cc in rw (← x, many);
      kept = refl;
    }

-- what was read from the parts that are lent for an entry
module _ (sheet : List ℕ) (e : Entry) {plan body w w₁ : List ℕ} {q : Result ℕ Refusal} (ep : plan ≡ part sheet e.plan.byte plan_bytes)
    (eb : body ≡ part sheet e.body.byte e.size) (lent : Got (read (plan_of plan) body e.count) 0 w w₁ q) where
  abbrev all : Answer (List ℕ)
  all = read (plan_of (column_of sheet e).plan) (column_of sheet e).body (column_of sheet e).count

  so : Got all 0 w w₁ q
  so = subst (λ (a : Answer (List ℕ)). Got a 0 w w₁ q) (of-column sheet e read ep eb) lent

  pub column-stop : {z : Refusal} → q ≡ Err z → Got (read_column (column_of sheet e)) 0 w w₁ (Err z)
  unfolding read_column
  column-stop {z} t = got-stop all 0 w w₁ q so (keep (edition_of sheet) e.kind) z t

  module _ {n : ℕ} (t : q ≡ Ok n) where
    module _ {edition : ℕ} (known : edition ≡ edition_of sheet) where
      pub column-kept : true ≡ of_kind edition e.kind (part w₁ 0 n) → Got (read_column (column_of sheet e)) 0 w w₁ (Ok n)
      unfolding read_column
      column-kept y =
          let k : keep (edition_of sheet) e.kind (part w₁ 0 n) ≡ given (part w₁ 0 n) = rw (← known, ← y) in
          got-then all 0 w w₁ q so (keep (edition_of sheet) e.kind) n t w₁ (Ok n)
          (subst (λ (a : Answer (List ℕ)). Got a 0 w₁ w₁ (Ok n)) (sym k) (got-part w₁ n (got-given all 0 w w₁ q so n t).1))

      pub column-other : false ≡ of_kind edition e.kind (part w₁ 0 n) → Got (read_column (column_of sheet e)) 0 w w₁ (Err Broken)
      unfolding read_column
      column-other y =
          got-then all 0 w w₁ q so (keep (edition_of sheet) e.kind) n t w₁ (Err Broken)
          (got-refused (keep (edition_of sheet) e.kind (part w₁ 0 n)) 0 w₁ w₁ Broken (rw (← known, ← y)) refl)

-- a column that was read: its plan's reading, of the declared kind
pub column-given : (c : Column) (xs : List ℕ) → read_column c ≡ given xs
    → (read (plan_of c.plan) c.body c.count ≡ given xs) × (of_kind c.edition c.kind xs ≡ true)
unfolding read_column
column-given c xs e =
    let (ys, er, ek) = bind-given (read (plan_of c.plan) c.body c.count) (keep c.edition c.kind) xs e in
    let (o, g) = need-given (of_kind c.edition c.kind ys) broken (given ys) xs ek in
    let same : ys ≡ xs = cc in
    (er ∙ g, subst (λ (l : List ℕ). of_kind c.edition c.kind l ≡ true) same o)

-- it has as many numbers as its entry says
pub column-many : (c : Column) (xs : List ℕ) → Below 256 c.body → read_column c ≡ given xs
    → (read (plan_of c.plan) c.body c.count ≡ given xs) × (length xs ≡ c.count)
column-many c xs b e =
    let r = (column-given c xs e).0 in
    (r, (back laws (plan_of c.plan) c.body c.count xs b r).1)
