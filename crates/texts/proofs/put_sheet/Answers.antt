-- The number of columns, the columns, and the end. Assumes only the laws of the codes.
use native.Mathlib.Omega.{arith}
use Rattle.meaning.specs.Texts.{text}
use Rattle.texts.proofs.Lines.{line_first, line-last}
use Rattle.texts.proofs.Sheets.{passing-sheet, sheet-lines}
use Rattle.texts.proofs.put_sheet.Goals as goal

pub column_count-columns-requires : goal.column_count-columns-requires
column_count-columns-requires c = (passing-sheet c.requires.0).least

pub returns : goal.returns
unfolding text
returns c =
    let last = line_first c.word.ensures.wrote (line-last c.end.ensures.wrote) in
    record {
      wrote = sheet-lines c.args.sheet.now c.column_count-columns.ensures.0 c.line.ensures.wrote c.put_columns.ensures.wrote last;
      short = omega arith;
      same = omega arith;
    }
