-- Call n of an opened reader answers as document 01 says, for every n. Assumes nothing.
use Rattle.meaning.specs.declared.Refusal.{Refusal}
use Rattle.std.specs.Prelude.{Result}
use Prim.Native.Nat.{ℕ, zero, suc, ◌+◌, ◌-◌, ◌≤◌, ◌<◌, min}
use mathlib.Core.Path.{◌≡◌, refl, sym, ap, ◌∙◌}
use mathlib.Core.List.{List, []}
use native.Mathlib.Numerals.{add-one}
use native.Mathlib.Omega.{arith}
use Rattle.meaning.specs.Answer.{Answer, given, refused, list}
use Rattle.meaning.specs.Limits.{most_numbers, no_sheet}
use Rattle.meaning.specs.Operations.{look_sheet, open_reader, call_over, call}
use Rattle.meaning.specs.Says.{says}
use Rattle.meaning.specs.Sheet.{is_sheet, sound}
use Rattle.meaning.proofs.Answers.{not-given}
use Rattle.meaning.proofs.Tests.{by_order}
use Rattle.table.proofs.ColumnLaws.{column-unsound}
use Rattle.sheet.proofs.LookSheets.{look_none}
use Rattle.reader.specs.Steps.{Standing, opened, answer, next_place, next, after, standing, moved}
use Rattle.reader.specs.declared.Reader.{Reader}
use Rattle.reader.proofs.Openings.{found_below}

module _ (part : List ℕ) (k : ℕ) where
  -- s is the reader of call n: it answers as that call, and stands at place n as long as none was refused
  pub record Reached (n : ℕ) (s : Standing) : Type 0 where
    pub here : s.part ≡ part
    pub same : s.column ≡ k
    pub told : answer s ≡ call_over part k n
    pub place : (x : ℕ) → call_over part k n ≡ given x → s.place ≡ n

  -- where a reader starts
  abbrev start : Standing
  start = record { part = part; column = k; place = 0 }

  pub begins : Reached 0 start
  unfolding call_over
  begins = record { here = refl; same = refl; told = refl; place = λ x e. refl }

  -- after a number the next call looks at the next place
  pub onward : (n x : ℕ) → call_over part k n ≡ given x → call_over part k (suc n) ≡ look_sheet part k (suc n)
  unfolding call_over
  onward n x e = rw e

  -- after a refusal the next call gives that refusal again
  pub again : (n z : ℕ) → call_over part k n ≡ refused z → call_over part k (suc n) ≡ refused z
  unfolding call_over
  again n z e = rw e

  -- and so does each later call
  pub later : (n z d : ℕ) → call_over part k n ≡ refused z → call_over part k (d + n) ≡ refused z
  later n z zero e = let same : 0 + n ≡ n = omega arith in ap (call_over part k) same ∙ e
  later n z (suc d) e =
      let same : suc d + n ≡ suc (d + n) = omega arith in
      ap (call_over part k) same ∙ again (d + n) z (later n z d e)

  goes_on : (n : ℕ) (s : Standing) → Reached n s → (a : Answer ℕ) → call_over part k n ≡ a → Reached (suc n) (next s)
  goes_on n s r (given x) e =
      let moves : next_place (answer s) s.place ≡ s.place + 1 = ap (λ (a : Answer ℕ). next_place a s.place) (r.told ∙ e) in
      let at : next_place (answer s) s.place ≡ suc n = moves ∙ (ap (λ (p : ℕ). p + 1) (r.place x e) ∙ add-one n) in
      record {
        here = r.here;
        same = r.same;
        told = (λ i. look_sheet (r.here i) (r.same i) (at i)) ∙ sym (onward n x e);
        place = λ y f. at;
      }
  goes_on n s r (refused z) e =
      let at : next_place (answer s) s.place ≡ s.place = ap (λ (a : Answer ℕ). next_place a s.place) (r.told ∙ e) in
      record {
        here = r.here;
        same = r.same;
        told = ap (λ (p : ℕ). look_sheet s.part s.column p) at ∙ ((r.told ∙ e) ∙ sym (again n z e));
        place = λ y f. absurd (not-given z y (sym (again n z e) ∙ f));
      }

  pub reached : (n : ℕ) → Reached n (after n start)
  unfolding after
  reached zero = begins
  reached (suc n) = goes_on n (after n start) (reached n) (call_over part k n) refl

  -- ---- no more calls than a column can have numbers: by then one was refused
  found-most : (x : ℕ) → call_over part k most_numbers ≡ given x → ⊥
  found-most x e =
      let s = after most_numbers start in
      let r = reached most_numbers in
      let below : s.place < most_numbers = found_below s.part s.column s.place x (r.told ∙ e) in
      omega (arith, below, r.place x e)

  refused-most : (n : ℕ) → most_numbers ≤ n → (a : Answer ℕ) → call_over part k most_numbers ≡ a → call_over part k most_numbers ≡ call_over part k n
  refused-most n h (given x) e = absurd (found-most x e)
  refused-most n h (refused z) e =
      let same : n - most_numbers + most_numbers ≡ n = omega arith in
      e ∙ (sym (later most_numbers z (n - most_numbers) e) ∙ ap (call_over part k) same)

  pub capped : (n : ℕ) → call_over part k (min n most_numbers) ≡ call_over part k n
  capped n = by_order n most_numbers
      (λ h. let same : min n most_numbers ≡ n = omega arith in ap (call_over part k) same)
      (λ h. let same : min n most_numbers ≡ most_numbers = omega arith in ap (call_over part k) same ∙ refused-most n h (call_over part k most_numbers) refl)

module _ (sheet : List ℕ) (k : ℕ) where
  -- the answer of a reader after n calls is call n
  pub call-after : (n : ℕ) → answer (after n (opened sheet k)) ≡ call sheet k n
  unfolding call
  call-after n = (reached (list (open_reader sheet k)) k n).told

  -- where a reader stands: after no call, and after one more
  pub stands-first : (r : Reader) → standing r ≡ opened sheet k → standing r ≡ after 0 (opened sheet k)
  unfolding after
  stands-first r e = e

  pub stands-next : (n : ℕ) (r : Reader) → standing r ≡ after n (opened sheet k) → standing (moved r) ≡ after (suc n) (opened sheet k)
  unfolding after
  stands-next n r e = ap next e

  -- and what it tells there
  pub tells-call : (n : ℕ) (r : Reader) (x : Result ℕ Refusal) → standing r ≡ after n (opened sheet k) → says x ≡ answer (standing r) → says x ≡ call sheet k n
  tells-call n r x e told = told ∙ (ap answer e ∙ call-after n)

  -- a run of calls: what `open` promises of the first reader, and `step` of each answer and of the reader that it leaves
  pub record Run (readers : ℕ → Reader) (answers : ℕ → Result ℕ Refusal) : Type 0 where
    pub opens : standing (readers 0) ≡ opened sheet k
    pub tells : (n : ℕ) → says (answers n) ≡ answer (standing (readers n))
    pub moves : (n : ℕ) → readers (suc n) ≡ moved (readers n)

  stands : (readers : ℕ → Reader) (answers : ℕ → Result ℕ Refusal) → Run readers answers → (n : ℕ) → standing (readers n) ≡ after n (opened sheet k)
  stands readers answers run zero = stands-first (readers 0) run.opens
  stands readers answers run (suc n) = ap standing (run.moves n) ∙ stands-next n (readers n) (stands readers answers run n)

  -- every answer of every run
  pub every_call : (readers : ℕ → Reader) (answers : ℕ → Result ℕ Refusal) → Run readers answers → (n : ℕ) → says (answers n) ≡ call sheet k n
  every_call readers answers run n = tells-call n (readers n) (answers n) (stands readers answers run n) (run.tells n)

  -- so many calls before call n are enough
  pub call-capped : (n : ℕ) → call sheet k (min n most_numbers) ≡ call sheet k n
  unfolding call
  call-capped n = capped (list (open_reader sheet k)) k n

  -- ---- a refused opening: every call answers 1
  empty-answers : (place : ℕ) → look_sheet [] k place ≡ refused no_sheet
  unfolding sound is_sheet
  empty-answers place = look_none [] k place no_sheet (column-unsound [] k no_sheet 0 refl)

  empty-calls : (n : ℕ) → call_over [] k n ≡ refused no_sheet
  unfolding call_over
  empty-calls zero = empty-answers 0
  empty-calls (suc n) = again [] k n no_sheet (empty-calls n)

  pub refused-calls : (z : ℕ) → open_reader sheet k ≡ refused z → (n : ℕ) → call sheet k n ≡ refused no_sheet
  unfolding call
  refused-calls z e n = ap (λ (a : Answer (List ℕ)). call_over (list a) k n) e ∙ empty-calls n
