-- `spread_runs`: what is laid, and why no more is. Assumes nothing.
use Rattle.plan_look.proofs.Spreads.{runs-turned}
use Rattle.plan_look.proofs.firsts.spread_runs.Goals as goal

pub returns : goal.returns
returns c =
    rw c.ended.ensures
    (runs-turned c.args.runs c.requires.0 c.requires.1 c.requires.2 _ c.min-both.ensures
    c.spread-laid.ensures _ c.next_refusal-refusal.ensures)
