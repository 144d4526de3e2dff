-- Code 8 alone is looked up directly. Assumes nothing.
use mathlib.Core.Path.{sym}
use Rattle.codes.proofs.Numbered.{way-eight}
use Rattle.codes.proofs.dispatch.is_direct.Goals as goal

pub returns : goal.returns
returns c = sym (way-eight c.args.code)
