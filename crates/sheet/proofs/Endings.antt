-- Endings counted one after the other: the tallies of the first endings, each of which is counted once. Assumes nothing.
use Prim.Native.Nat.{ℕ, ◌+◌, ◌≤◌, ◌<◌}
use mathlib.Core.Path.{◌≡◌, refl, sym, ap, ◌∙◌}
use mathlib.Core.Bool.{Bool, true, false}
use mathlib.Core.List.{List, [], ◌∷◌, ◌++◌}
use native.Mathlib.Decide.{ℕ_discrete}
use native.Mathlib.Numerals.{add-one}
use native.Mathlib.Omega.{arith}
use lib.Dec.{leb}
use lib.ListN.{length, get_or, take}
use lib.Seq.{take-suc, take_all}
use borrow.Author.Tests.{le-leb, lt-leb, ne_eqb}
use Rattle.meaning.specs.Answer.{passed, blamed}
use Rattle.meaning.specs.Limits.{bad_board}
use Rattle.meaning.specs.Lists.{all}
use Rattle.meaning.specs.Operations.{count, tally_of, no_tally}
use Rattle.meaning.specs.declared.Tally.{Tally}
use Rattle.table.proofs.Lists.{HoldBelow, hold-turn, hold-fail, hold-end}
use Rattle.sheet.specs.Board.{total, add_tally, with_ending, endings_told}

-- ---- tallies are the same where each is
record Same (t u : Tally) : Type 0 where
  passed : t.passed ≡ u.passed
  failed : t.failed ≡ u.failed
  killed : t.killed ≡ u.killed
  unended : t.unended ≡ u.unended

same : {t u : Tally} → Same t u → t ≡ u
same s = λ i. record { passed = s.passed i; failed = s.failed i; killed = s.killed i; unended = s.unended i }

count-append : (test : ℕ → Bool) (xs ys : List ℕ) → count test (xs ++ ys) ≡ count test xs + count test ys
unfolding count
count-append test [] ys = omega arith
count-append test (x ∷ xs) ys = omega (arith, count-append test xs ys)

-- the tallies of one list and then another
tally-append : (xs ys : List ℕ) → tally_of (xs ++ ys) ≡ add_tally (tally_of xs) (tally_of ys)
unfolding tally_of
tally-append xs ys =
    same (record { passed = count-append _ xs ys; failed = count-append _ xs ys; killed = count-append _ xs ys; unended = count-append _ xs ys })

-- ---- one ending more
module _ (t : Tally) (e : ℕ) where
  pub ends-passed : e ≡ 0 → record { passed = t.passed + 1; failed = t.failed; killed = t.killed; unended = t.unended } ≡ with_ending t e
  unfolding tally_of count
  ends-passed h = rw h (same (omega arith))

  pub ends-killed : e ≡ 124 → record { passed = t.passed; failed = t.failed; killed = t.killed + 1; unended = t.unended } ≡ with_ending t e
  unfolding tally_of count
  ends-killed h = rw h (same (omega arith))

  pub ends-never : e ≡ 256 → record { passed = t.passed; failed = t.failed; killed = t.killed; unended = t.unended + 1 } ≡ with_ending t e
  unfolding tally_of count
  ends-never h = rw h (same (omega arith))

  pub ends-failed : (e ≡ 0 → ⊥) → (e ≡ 124 → ⊥) → (e ≡ 256 → ⊥) → e ≤ 256
      → record { passed = t.passed; failed = t.failed + 1; killed = t.killed; unended = t.unended } ≡ with_ending t e
  unfolding tally_of count
  ends-failed z k n h =
      rw (ne_eqb 0 e (λ q. z (sym q)), ne_eqb 124 e (λ q. k (sym q)), ne_eqb 256 e (λ q. n (sym q)), le-leb 1 e (omega arith), le-leb e 255 (omega arith))
      (same (omega arith))

  -- whichever it is, one job more is counted
  pub one_more : e ≤ 256 → total (with_ending t e) ≡ total t + 1
  one_more h =
      elim (ℕ_discrete e 0) [
        | yes z ↦ ap total (sym (ends-passed z)) ∙ omega arith
        | no z ↦
            elim (ℕ_discrete e 124) [
              | yes k ↦ ap total (sym (ends-killed k)) ∙ omega arith
              | no k ↦
                  elim (ℕ_discrete e 256) [ yes n ↦ ap total (sym (ends-never n)) ∙ omega arith | no n ↦ ap total (sym (ends-failed z k n h)) ∙ omega arith ]
            ]
      ]

-- ---- of some endings the first i are counted
pub record Tallying (xs : List ℕ) (t : Tally) (i : ℕ) : Type 0 where
  pub counted : t ≡ tally_of (take i xs)
  pub many : total t ≡ i
  pub ends : HoldBelow (λ e. leb e 256) xs i

pub tally-first : {xs : List ℕ} → Tallying xs no_tally 0
unfolding tally_of count
tally-first = record { counted = refl; many = refl; ends = refl }

module _ {xs : List ℕ} {t : Tally} {i : ℕ} (so : Tallying xs t i) where
  pub tally-end : length xs ≤ i → (passed, t) ≡ endings_told xs
  tally-end h =
      let yes : all (λ e. leb e 256) xs ≡ true = hold-end (λ e. leb e 256) xs i so.ends h in
      rw yes (ap (λ (r : Tally). (passed, r)) (so.counted ∙ ap tally_of (take_all i xs h)))

  module _ (h : i < length xs) where
    pub tally-turn : get_or xs i 0 ≤ 256 → {t' : Tally} → t' ≡ with_ending t (get_or xs i 0) → Tallying xs t' (i + 1)
    tally-turn l e' =
        let e = get_or xs i 0 in
        let next : take i xs ++ (e ∷ []) ≡ take (i + 1) xs = rw add-one (sym (take-suc xs i 0 h)) in
        rw e'
        (record {
          counted = ap (λ (u : Tally). with_ending u e) so.counted ∙ sym (tally-append (take i xs) (e ∷ [])) ∙ ap tally_of next;
          many = omega (arith, one_more t e l, so.many);
          ends = hold-turn (λ e. leb e 256) xs 0 i so.ends h (le-leb e 256 l);
        })

    pub tally-over : 256 < get_or xs i 0 → (blamed bad_board 0, no_tally) ≡ endings_told xs
    tally-over l =
        let over : leb (get_or xs i 0) 256 ≡ false = lt-leb (get_or xs i 0) 256 l in
        let no : all (λ e. leb e 256) xs ≡ false = hold-fail (λ e. leb e 256) xs 0 i so.ends h over in
        rw no
