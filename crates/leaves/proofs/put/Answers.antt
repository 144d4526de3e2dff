use mathlib.Core.Path.{sym}
use lib.Seq.{set_out}
use Rattle.leaves.proofs.put.Goals as goal

pub returns-else-here-out : goal.returns-else-here-out
returns-else-here-out c = sym (set_out c.args.out.now c.args.at.byte c.args.b c.if-here-out.false)
