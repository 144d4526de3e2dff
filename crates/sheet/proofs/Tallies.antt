-- The four tallies of a board that keeps the rules sum to the count of its columns 0 and 1. Assumes only the laws of the codes.
use Prim.Native.Nat.{ℕ}
use mathlib.Core.Path.{◌≡◌, refl, sym, ap, ◌∙◌}
use mathlib.Core.Bool.{true}
use mathlib.Core.List.{List, [], ◌∷◌}
use native.Mathlib.Omega.{arith}
use lib.Dec.{leb}
use lib.ListN.{length}
use borrow.Author.Tests.{leb-true}
use Rattle.meaning.specs.Answer.{Verdict, passed, blamed, ask}
use Rattle.meaning.specs.Limits.{bad_board}
use Rattle.meaning.specs.Lists.{all}
use Rattle.meaning.specs.Operations.{check, numbers_at, board_holds, board_verdict, count, tally_of, no_tally, tallied, count_board}
use Rattle.meaning.specs.Places.{Below}
use Rattle.meaning.specs.Sheet.{column_at}
use Rattle.meaning.specs.declared.Tally.{Tally}
use Rattle.meaning.proofs.Tests.{both_true}
use Rattle.table.proofs.InTurn.{not-passed}
use Rattle.table.proofs.Sounds.{ask-passed, then-passed}
use Rattle.sheet.specs.Board.{jobs_hold, total}
use Rattle.sheet.proofs.BoardLaws.{board-apart, board-second}
use Rattle.sheet.proofs.Endings.{one_more}
use Rattle.sheet.proofs.Passing.{numbers-many}

total-length : (xs : List ℕ) → all (λ e. leb e 256) xs ≡ true → total (tally_of xs) ≡ length xs
unfolding all tally_of count
total-length [] h = refl
total-length (x ∷ xs) h =
    let (a, b) = both_true (leb x 256) (all (λ e. leb e 256) xs) h in
    omega (arith, one_more no_tally x (leb-true x 256 a), total-length xs b)

tallied-passed : (v : Verdict) (xs : List ℕ) (t : Tally) → tallied v xs ≡ (passed, t) → (v ≡ passed) × (tally_of xs ≡ t)
tallied-passed passed xs t e = (refl, ap (λ (x : Verdict × Tally). x.1) e)
tallied-passed (blamed z k) xs t e = absurd (not-passed z k (ap (λ (x : Verdict × Tally). x.0) e))

pub tallies-sum : (sheet : List ℕ) → Below 256 sheet → (work : ℕ) (t : Tally)
    → count_board sheet work ≡ (passed, t) → total t ≡ (column_at sheet 1).count
unfolding count_board board_verdict
tallies-sum sheet bytes work t e =
    let (v, is) = tallied-passed (board_verdict sheet work) (numbers_at sheet 1) t e in
    let (c, b) = then-passed (check sheet work) (ask (board_holds sheet) bad_board) v in
    let holds = sym (board-apart sheet) ∙ ask-passed (board_holds sheet) bad_board b in
    let (jobs, ends) = both_true (jobs_hold sheet) (all (λ e. leb e 256) (numbers_at sheet 1)) holds in
    ap total (sym is) ∙ total-length (numbers_at sheet 1) ends ∙ numbers-many sheet bytes work c 1 (board-second sheet jobs)
