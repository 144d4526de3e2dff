-- The board's text by what the board answers. Assumes nothing.
use Rattle.meaning.specs.declared.Fault.{Fault}
use Rattle.std.specs.Prelude.{Result, Ok, Err}
use Prim.Native.Nat.{ℕ}
use mathlib.Core.Path.{◌≡◌, sym, ap, ◌∙◌}
use mathlib.Core.List.{List, []}
use lib.ListN.{length}
use Rattle.meaning.specs.Answer.{Verdict, blamed}
use Rattle.meaning.specs.Operations.{count_board}
use Rattle.meaning.specs.Says.{refusal_number, counted_says}
use Rattle.meaning.specs.Texts.{all_work, refused_or, board_lines, board_text}
use Rattle.meaning.specs.declared.Tally.{Tally}

module _ (sheet work : List ℕ) (all : length work ≡ all_work) (r : Result Tally Fault) (told : counted_says r ≡ count_board sheet (length work)) where
  by_answer : (b : Verdict × Tally) → counted_says r ≡ b → refused_or b.0 (board_lines b.1) ≡ board_text sheet
  unfolding board_text
  by_answer b e = ap (λ (a : Verdict × Tally). refused_or a.0 (board_lines a.1)) (sym e ∙ told ∙ ap (count_board sheet) all)

  pub board-tallies : {t : Tally} → r ≡ Ok t → board_lines t ≡ board_text sheet
  unfolding refused_or
  board-tallies e = by_answer _ (ap counted_says e)

  pub board-refused : {f : Fault} → r ≡ Err f → refused_or (blamed (refusal_number f.refusal) f.column) [] ≡ board_text sheet
  unfolding refused_or
  board-refused e = by_answer _ (ap counted_says e)
