-- The columns that are still to be put, put from here on, make the whole; a turn puts one. Assumes only the laws of the codes.
use mathlib.Core.Path.{refl}
use Rattle.texts.proofs.Putting.{turns-start}
use Rattle.texts.proofs.Sheets.{passing-sheet, listing-room, listing-column, listing-turn, listing-end}
use Rattle.texts.proofs.put_columns.Goals as goal

pub column_count-columns-requires : goal.column_count-columns-requires
column_count-columns-requires c = (passing-sheet c.requires.0).least

pub loop-k-init : goal.loop-k-init
loop-k-init c =
    record {
      passing = c.requires.0;
      counted = c.column_count-columns.ensures.0;
      works = refl;
      lists = refl;
      early = c.requires.1;
      turns = turns-start _ _ _ _;
    }

pub put_column-requires : goal.put_column-requires
put_column-requires c =
    let l = c.loop-k.invariant in
    (listing-column l c.loop-k-test.true, listing-room l)

pub loop-k-preserved : goal.loop-k-preserved
loop-k-preserved c =
    listing-turn c.loop-k.invariant c.loop-k-test.true c.put_column.auto.work c.put_column.auto.list
    c.put_column.ensures

pub shape_of-work : goal.shape_of-work
shape_of-work c = c.loop-k.invariant.works

pub shape_of-list : goal.shape_of-list
shape_of-list c = c.loop-k.invariant.lists

pub returns : goal.returns
returns c = listing-end c.loop-k.invariant c.loop-k-test.false
