-- The three demands, and which sort of fault. Assumes nothing.
use Rattle.meaning.specs.declared.Refusal.{Refusal}
use Rattle.meaning.specs.declared.Fault.{Fault}
use Rattle.std.specs.Prelude.{Result, Ok, Err}
use Prim.Native.Nat.{ℕ, ◌*◌, ◌<◌}
use mathlib.Core.Path.{◌≡◌, refl, sym, ap, ◌∙◌, subst}
use mathlib.Core.List.{List, [], ◌∷◌, ◌++◌}
use native.Mathlib.Omega.{arith}
use lib.Dec.{leb}
use lib.ListN.{length, drop}
use Rattle.meaning.specs.Answer.{Answer, given, refused, number, list, amount, filled}
use Rattle.meaning.specs.Limits.{short_work, no_room}
use Rattle.meaning.specs.Lists.{all}
use Rattle.meaning.specs.Operations.{column, numbers_at, no_tally}
use Rattle.meaning.specs.Operations.{write_sheet, write_apart, check, read_sheet, look_sheet, fetch, open_reader, count_board}
use Rattle.meaning.specs.Plan.{judge, worst_size}
use Rattle.meaning.specs.Rank.{rank, select}
use Rattle.meaning.specs.Says.{says, verdict_says, counted_says, says_by, bit_told}
use Rattle.meaning.specs.declared.Tally.{Tally}
use Rattle.meaning.specs.Sheet.{Column, edition_of, column_at, read_column}
use Rattle.meaning.proofs.Answers.{Faulty, bind-given, need-given, not-given}
use Rattle.meaning.proofs.Same.{says-same}
use Rattle.bits.proofs.Unique.{one_rank, one-select}
use Rattle.judge.proofs.Unique.{one-judge, one-worst-size}
use Rattle.codes.proofs.Numbered.{laws}
use Rattle.stages.proofs.Faults.{column-faulty}
use Rattle.stages.proofs.Overruns.{cut-before, broken-behind, stays-broken}
use Rattle.table.proofs.ColumnLaws.{column-here, column-there}
use Rattle.table.proofs.Unique.{one-fetch}
use Rattle.sheet.proofs.Unique.{one-check, one-read, one-lookup, one-board}
use Rattle.reader.specs.Steps.{Standing, answer, next_place, standing, moved, refusal_told}
use Rattle.reader.specs.declared.Reader.{Reader}
use Rattle.reader.proofs.Unique.{one-step, refusal-same}
use Rattle.demands.specs.Promises.{Checks, Counts, Fetches, Opens, Steps}
use Rattle.demands.specs.Demands.{Demand1, Demand2, Demand3, Sorts}
use Rattle.demands.specs.Own.{own_orders, own_numbers, own_kinds, own_plans, own_counts}
use Rattle.demands.specs.Refusals.{refusal}
use Rattle.demands.proofs.Accepted.{accepted}
use Rattle.demands.proofs.Forms.{refused-empty, by-verdict, by_number, by_answer, by-output}
use Rattle.demands.proofs.EndToEnd.{column-holds, carries}
use Rattle.demands.proofs.Outputs.{both, filled-with}
use Rattle.demands.proofs.Refusals.{judge-refusals, worst-refusals, write-refusals, apart-refusals, check-refusals, read-refusals}
use Rattle.demands.proofs.Refusals.{lookup-refusals, fetch-refusals, open-refusals, board-refusals, rank-refusals, select-refusals}
use Rattle.demands.proofs.Rewritten.{apart-is, same-sheet, same-apart}

-- ---- demand 1
-- a refused board has no tallies
bare-board : (r : Result Tally Fault) → 0 < refusal (counted_says r).0 → (counted_says r).1 ≡ no_tally
bare-board (Ok t) h = absurd (omega arith)
bare-board (Err e) h = refl

-- a reader whose call is refused stays where it stands
stays : (m : Answer ℕ) (place : ℕ) → 0 < number m → next_place m place ≡ place
stays (given x) place h = absurd (omega arith)
stays (refused e) place h = refl

stands-still : (r : Reader) → 0 < number (answer (standing r)) → moved r ≡ r
stands-still r l =
    ap (λ (p : ℕ). record { sheet = r.sheet; column = r.column; place = record { number = p } }) (stays (answer (standing r)) r.place.number l)

-- one answer of a reading, whatever is in the output
one-reading : (sheet : List ℕ) (k work : ℕ) (o : List ℕ) (r s : Result ℕ Refusal) → says r ≡ amount (read_sheet sheet k work (length o))
    → says s ≡ amount (read_sheet sheet k work (length o)) → r ≡ s
one-reading sheet k work o r s e f =
    let left = filled (read_sheet sheet k work (length o)) o in
    (one-read sheet k work o left left r s (e, refl) (f, refl)).0

pub demand-1 : Demand1
unfolding all
demand-1 =
    record {
      judging = λ kind plan. by_answer (3 ∷ 4 ∷ 11 ∷ []) refl says (judge kind plan) (judge-refusals kind plan) (one-judge kind plan);
      sizing = λ plan n. by_answer (3 ∷ 11 ∷ []) refl says (worst_size plan n) (worst-refusals plan n) (one-worst-size plan n);
      writing = λ edition orders joined work o.
          let m = write_sheet edition orders joined (length work) (length o) in
          by-output (3 ∷ 4 ∷ 7 ∷ 8 ∷ 10 ∷ 11 ∷ []) refl says m o (write-refusals edition orders joined (length work) (length o))
          (λ r s e f. says-same r s (e ∙ sym f));
      writing_apart = λ edition kinds plans counts joined work o.
          let m = write_apart edition kinds plans counts joined (length work) (length o) in
          by-output (3 ∷ 4 ∷ 7 ∷ 8 ∷ 10 ∷ 11 ∷ []) refl says m o (apart-refusals edition kinds plans counts joined (length work) (length o))
          (λ r s e f. says-same r s (e ∙ sym f));
      checking = λ sheet work.
          by-verdict (1 ∷ 2 ∷ 3 ∷ 4 ∷ 8 ∷ 9 ∷ 13 ∷ []) refl (Checks sheet work) (λ r. refusal (verdict_says r)) (check sheet (length work)) (λ r. Unit {0})
          (check-refusals sheet (length work)) (one-check sheet (length work)) (λ r t. ap refusal t) (λ r t l. tt);
      reading = λ sheet k work o.
          by-output (1 ∷ 2 ∷ 3 ∷ 4 ∷ 5 ∷ 7 ∷ 8 ∷ 9 ∷ 13 ∷ []) refl says (read_sheet sheet k (length work) (length o)) o
          (read-refusals sheet k (length work) (length o)) (one-reading sheet k (length work) o);
      looking = λ sheet k place.
          by_answer (1 ∷ 2 ∷ 3 ∷ 4 ∷ 5 ∷ 6 ∷ 9 ∷ 13 ∷ []) refl says (look_sheet sheet k place) (lookup-refusals sheet k place) (one-lookup sheet k place);
      fetching = λ sheet k.
          by_number (1 ∷ 2 ∷ 3 ∷ 4 ∷ 5 ∷ []) refl (Fetches sheet k) (λ r. number (says r)) (fetch sheet k) (λ r. list (says r) ≡ []) (fetch-refusals sheet k)
          (one-fetch sheet k) (λ r t. ap number t) (λ r t l. ap list t ∙ refused-empty (fetch sheet k) l);
      counting = λ sheet work.
          by-verdict (1 ∷ 2 ∷ 3 ∷ 4 ∷ 8 ∷ 9 ∷ 12 ∷ 13 ∷ []) refl (Counts sheet work) (λ r. refusal (counted_says r).0) (count_board sheet (length work)).0
          (λ r. (counted_says r).1 ≡ no_tally) (board-refusals sheet (length work)) (one-board sheet (length work)) (λ r t. ap (λ x. refusal x.0) t)
          (λ r t l. bare-board r l);
      opening = λ sheet k.
          by_number (1 ∷ 2 ∷ 3 ∷ 4 ∷ 5 ∷ []) refl (Opens sheet k) (λ a. refusal_told a.1) (open_reader sheet k) (λ a. a.0.part ≡ []) (open-refusals sheet k)
          (λ a b s t. both a b (s.0 ∙ sym t.0, refusal-same a.1 b.1 (s.1 ∙ sym t.1))) (λ a t. t.1)
          (λ a t l. ap (λ (s : Standing). s.part) t.0 ∙ refused-empty (open_reader sheet k) l);
      stepping = λ r.
          by_number (1 ∷ 2 ∷ 3 ∷ 4 ∷ 5 ∷ 6 ∷ 9 ∷ 13 ∷ []) refl (Steps r) (λ a. number (says a.0)) (answer (standing r)) (λ a. a.1 ≡ r)
          (lookup-refusals (standing r).part (standing r).column (standing r).place)
          (λ a b s t. both a b (one-step r a.1 b.1 a.0 b.0 s t)) (λ a t. ap number t.0) (λ a t l. t.1 ∙ stands-still r l);
      ranking = λ bytes bit. by_answer (1 ∷ 6 ∷ []) refl says (rank bytes bit) (rank-refusals bytes bit) (one_rank bytes bit);
      selecting = λ bytes k. by_answer (1 ∷ 6 ∷ []) refl (says_by bit_told) (select bytes k) (select-refusals bytes k) (one-select bytes k);
    }

-- ---- demand 2
-- what a column that was read holds
read-given : (sheet : List ℕ) (k work room : ℕ) (xs : List ℕ) → read_sheet sheet k work room ≡ given xs → read_column (column_at sheet k) ≡ given xs
unfolding read_sheet
read-given sheet k work room xs e =
    let (c, found, e₁) = bind-given (column sheet k) _ xs e in
    let here = column-here sheet k c found in
    let there = column-there sheet k here.sounds here.exists in
    let same : c ≡ column_at sheet k = cc in
    let (_, e₂) = need-given (leb (7 * c.count) work) short_work _ xs e₁ in
    let (_, e₃) = need-given (leb c.count room) no_room (read_column c) xs e₂ in
    subst (λ (d : Column). read_column d ≡ given xs) same e₃

-- what was given, of how many and of what is left in the output
fills-given : (m : Answer (List ℕ)) (n : ℕ) (o o' : List ℕ) → given n ≡ amount m → o' ≡ filled m o
    → (xs : List ℕ) × (m ≡ given xs) × (n ≡ length xs) × (o' ≡ xs ++ drop n o)
fills-given (given xs) n o o' e f = let same : n ≡ length xs = cc in (xs, refl, same, f ∙ ap (λ (j : ℕ). xs ++ drop j o) (sym same))
fills-given (refused z) n o o' e f = absurd (not-given z n (sym e))

pub demand-2 : Demand2
unfolding numbers_at
demand-2 =
    record {
      writing = λ edition orders joined work o o' n t.
          let (bytes, e, many, leaves) = fills-given (write_sheet edition orders joined (length work) (length o)) n o o' t.0 t.1 in
          let is = (accepted edition orders joined (length work) (length o) bytes e).is in
          (many ∙ ap length is, leaves ∙ ap (λ (l : List ℕ). l ++ drop n o) is);
      apart = λ edition kinds plans counts joined work o a planned counted t.
          let e = apart-is edition kinds plans counts joined (length work) (length o) planned counted in
          (t.0 ∙ ap amount e, t.1 ∙ ap (λ (m : Answer (List ℕ)). filled m o) e);
      reading = λ sheet k work o o' n t.
          let (xs, e, many, leaves) = fills-given (read_sheet sheet k (length work) (length o)) n o o' t.0 t.1 in
          let read = read-given sheet k (length work) (length o) xs e in
          let is : list (read_column (column_at sheet k)) ≡ xs = ap list read in
          (read ∙ ap (λ (l : List ℕ). given l) (sym is), many ∙ ap length (sym is), leaves ∙ ap (λ (l : List ℕ). l ++ drop n o) (sym is));
      again = λ sheet p work o enough fits a.
          filled-with (write_sheet (edition_of sheet) (own_orders sheet) (own_numbers sheet) (length work) (length o)) sheet o a
          (same-sheet sheet p.bytes (length p.passes.0) (sym p.passes.1) (length work) (length o) enough fits);
      again_apart = λ sheet p work o enough fits a.
          filled-with (write_apart (edition_of sheet) (own_kinds sheet) (own_plans sheet) (own_counts sheet) (own_numbers sheet) (length work)
          (length o)) sheet o a
          (same-apart sheet p.bytes (length p.passes.0) (sym p.passes.1) (length work) (length o) enough fits);
    }

-- ---- demand 3
pub demand-3 : Demand3
demand-3 =
    record {
      never_stuck = carries;
      any_sheet = λ sheet p k there. column-holds sheet p.bytes (length p.passes.0) (sym p.passes.1) k there;
    }

-- ---- which sort of fault
pub sorts : Sorts
sorts =
    record {
      two = λ c e h. subst Faulty h (column-faulty laws c);
      early = λ c xs h k l. cut-before laws c xs k h l;
      onward = λ c xs h b more. broken-behind laws c xs b more h;
      stays = λ c h b more. stays-broken laws c b more h;
    }
