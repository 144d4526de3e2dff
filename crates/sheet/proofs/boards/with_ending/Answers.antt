-- `with_ending` counts by one of four. Assumes nothing.
use Rattle.sheet.proofs.Endings.{ends-passed, ends-killed, ends-never, ends-failed}
use Rattle.sheet.proofs.boards.with_ending.Goals as goal

pub returns-then-ending-eq0 : goal.returns-then-ending-eq0
returns-then-ending-eq0 c = ends-passed c.args.tally c.args.ending c.if-ending-eq0.true

pub returns-then-ending-eq-KILLED : goal.returns-then-ending-eq-KILLED
returns-then-ending-eq-KILLED c = ends-killed c.args.tally c.args.ending c.if-ending-eq-KILLED.true

pub returns-then-ending-eq-NEVER_ENDED : goal.returns-then-ending-eq-NEVER_ENDED
returns-then-ending-eq-NEVER_ENDED c = ends-never c.args.tally c.args.ending c.if-ending-eq-NEVER_ENDED.true

pub returns-else-ending-eq-NEVER_ENDED : goal.returns-else-ending-eq-NEVER_ENDED
returns-else-ending-eq-NEVER_ENDED c =
    ends-failed c.args.tally c.args.ending c.if-ending-eq0.false c.if-ending-eq-KILLED.false c.if-ending-eq-NEVER_ENDED.false c.requires.most
