-- `used_plan` answers the default for 15 zeros, else a copy. Assumes nothing.
use mathlib.Core.Path.{sym, ◌∙◌}
use Rattle.writer.proofs.Entries.{used-blank, used-given}
use Rattle.writer.proofs.plans.used_plan.Goals as goal

pub returns-then-blank_from : goal.returns-then-blank_from
returns-then-blank_from c =
    c.default_plan.ensures ∙ used-blank c.args.kind c.args.ordered.now c.requires (sym c.blank_from.ensures ∙ c.if-blank_from.true)

pub returns : goal.returns
returns c = c.copy_from_slice.ensures.after ∙ used-given c.args.kind c.args.ordered.now (sym c.blank_from.ensures ∙ c.if-blank_from.false)
