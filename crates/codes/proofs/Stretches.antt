-- What a stretch of units answers: what was taken, or the one unit that was read. Assumes nothing.
use Prim.Native.Nat.{ℕ, ◌≤◌, ◌<◌, min}
use mathlib.Core.Path.{◌≡◌, refl, sym, ap, ◌∙◌}
use mathlib.Core.List.{List, [], ◌∷◌}
use native.Mathlib.Nat.{sub-zero}
use native.Mathlib.Omega.{arith}
use borrow.Author.Tests.{lt-ltb}
use Rattle.std.specs.Prelude.{Result, Ok, Err}
use lib.ListN.{length, get_or, take, length-take}
use lib.Seq.{sets, length-sets, length-take-le, take_all, take-take}
use Rattle.meaning.specs.Answer.{Answer, given, refused}
use Rattle.meaning.specs.Codes.{Code}
use Rattle.meaning.specs.Limits.{unit_places}
use Rattle.meaning.specs.Places.{Below, UnitIs, Took, Spare}
use Rattle.meaning.specs.Says.{refusal_number, says_by, unit_told}
use Rattle.meaning.specs.Units.{none, more}
use Rattle.meaning.specs.declared.Position.{Position}
use Rattle.meaning.specs.declared.Refusal.{Refusal}
use Rattle.meaning.specs.declared.Taken.{Taken}
use Rattle.meaning.specs.declared.UnitRead.{UnitRead}
use Rattle.meaning.proofs.Codes.{length_some}
use Rattle.meaning.proofs.Lawful.{Lawful}
use Rattle.meaning.proofs.Tests.{by_order}
use Rattle.codes.specs.Goes.{Passed, Goes}

-- a unit's answer, by the case that it is
module _ {a : Answer (Position × List ℕ)} {r : Result UnitRead Refusal} (is : UnitIs a r) where
  pub unit-given : {u : UnitRead} → r ≡ Ok u → a ≡ given (u.next, take u.count u.numbers)
  unit-given e = sym is.told ∙ ap (says_by unit_told) e

  pub unit-refused : {e : Refusal} → r ≡ Err e → a ≡ refused (refusal_number e)
  unit-refused e = sym is.told ∙ ap (says_by unit_told) e

shorter : (a b : ℕ) (xs : List ℕ) → take (min a b) xs ≡ take a (take b xs)
shorter a b xs =
    by_order b a
    (λ h. let e : min a b ≡ b = omega arith in rw e (sym (take_all a (take b xs) (omega (arith, length-take b xs)))))
    (λ h. let e : min a b ≡ a = omega arith in rw e (sym (take-take a b xs h)))

module _ {c : Code} {body : List ℕ} {left : ℕ} {p : Position} {room from : ℕ} {w w' : List ℕ} where
  -- numbers that were taken, some of them
  pub passed-taken : {r : Taken} → Took c body left p room from w w' r → 0 < r.count → Passed c body left p room from w w' r
  passed-taken {r} t h =
      record {
        numbers = t.numbers;
        last = t.last;
        are = t.are;
        counted = t.counted;
        some = h;
        few = omega (arith, t.few);
        here = t.here ∙ ap (sets w from) (sym (take_all room t.numbers (omega (arith, t.counted, t.few))));
        leaves = t.leaves;
      }

  -- none was taken, so work is as it was
  pub kept-none : {r : Taken} → Took c body left p room from w w' r → r.count ≤ 0 → w' ≡ w
  kept-none {r} t h = t.here ∙ ap (sets w from) (nothing t.numbers (omega (arith, t.counted)))
    where
      nothing : (xs : List ℕ) → length xs ≤ 0 → xs ≡ []
      nothing [] b = refl
      nothing (x ∷ xs) b = absurd (omega arith)

  -- one unit that was read, of which `m` numbers were laid
  pub passed-one : Lawful c → Below 256 body → 0 < left → {r : Result UnitRead Refusal} → UnitIs (c.unit body left p) r → {u : UnitRead} → r ≡ Ok u
      → length u.numbers ≡ unit_places
      → {m : ℕ} → m ≡ min room u.count → {w₁ : List ℕ} → w₁ ≡ w → w' ≡ sets w₁ from (take m u.numbers) → {s : ℕ}
      → Spare c.joins (take u.count u.numbers) s → Passed c body left p room from w w' (record { count = u.count; units = 1; next = u.next; spare = s })
  passed-one law bytes h is {u} e l {m} em {w₁} kept ew {s} leaves =
      let t = unit-given is e in
      let few = is.few u e in
      let size : length (take u.count u.numbers) ≡ u.count = length-take-le u.count u.numbers (omega arith) in
      let some = (law.good body bytes).some left p (u.next, take u.count u.numbers) h t in
      let first : c.joins [] (take u.count u.numbers) ≡ _ =
      law.fresh (take u.count u.numbers) ∙ lt-ltb _ _ (length_some (get_or (take u.count u.numbers) 0 0)) in
      record {
        numbers = take u.count u.numbers;
        last = take u.count u.numbers;
        are = more none h (u.next, take u.count u.numbers) (rw (sub-zero left) t) first;
        counted = size;
        some = omega arith;
        few = omega arith;
        here = ew ∙ rw (em, kept) (ap (sets w from) (shorter room u.count u.numbers));
        leaves = leaves;
      }

  pub passed-long : {r : Taken} → Passed c body left p room from w w' r → length w' ≡ length w
  passed-long t = ap length t.here ∙ length-sets w from (take room t.numbers)

  -- the answer, by the case that it is
  pub goes_on : {r : Result Taken Refusal} → Goes c body left p room from w w' r → {t : Taken} → r ≡ Ok t → Passed c body left p room from w w' t
  goes_on g e = rw e at g.says

  pub goes-refused : {r : Result Taken Refusal} → Goes c body left p room from w w' r → {e : Refusal} → r ≡ Err e
      → (c.unit body left p ≡ refused (refusal_number e)) × (w' ≡ w)
  goes-refused g q = rw q at g.says
