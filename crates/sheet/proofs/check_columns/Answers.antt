-- `check_columns` has read the columns below k. Assumes nothing.
use mathlib.Core.Path.{refl}
use Rattle.table.proofs.Sounds.{sound-sheet}
use Rattle.sheet.proofs.Checks.{bodies-here, bodies-readable, bodies-turn, bodies-refuse, bodies-end}
use Rattle.sheet.proofs.check_columns.Goals as goal

pub column_count-column-end-requires : goal.column_count-column-end-requires
column_count-column-end-requires c = (sound-sheet c.args.sheet.now c.requires.sounds).least

pub loop-column-init : goal.loop-column-init
loop-column-init c = record { ready = c.requires; counted = c.column_count-column-end.ensures.0; long = refl; below = refl }

-- ---- a turn
pub entry_at-entry-requires : goal.entry_at-entry-requires
entry_at-entry-requires c = bodies-here c.loop-column.invariant c.loop-column-test.true

pub read_column-requires : goal.read_column-requires
read_column-requires c = bodies-readable c.loop-column.invariant c.loop-column-test.true c.entry_at-entry.ensures

pub returns-in-Err : goal.returns-in-Err
returns-in-Err c =
    bodies-refuse c.loop-column.invariant c.loop-column-test.true c.entry_at-entry.ensures c.read_column.ensures c.in-Err.is

pub loop-column-preserved : goal.loop-column-preserved
loop-column-preserved c =
    bodies-turn c.loop-column.invariant c.loop-column-test.true c.entry_at-entry.ensures c.read_column.ensures c.in_default.is
    c.read_column.auto.work

-- ---- after the loop
pub returns : goal.returns
returns c = bodies-end c.loop-column.invariant c.loop-column-test.false
