-- `copy_list` has copied those before i. Assumes nothing.
use mathlib.Core.Path.{sym, ap, ◌∙◌}
use native.Mathlib.Nat.{zero-add}
use lib.ListN.{get_or, set, take}
use lib.Seq.{sets, take_all}
use Rattle.stages.proofs.Parts.{stored_next}
use Rattle.stages.proofs.copy_list.Goals as goal

pub loop-i-preserved : goal.loop-i-preserved
loop-i-preserved c =
    let l = c.loop-i in
    let list = c.args.list.now in
    rw (l.invariant, sym (ap (λ k. set (sets c.args.out.now 0 (take l.i list)) k (get_or list l.i 0)) (zero-add l.i)))
    (stored_next list c.args.out.now 0 l.i c.loop-i-test.true)

pub returns : goal.returns
returns c = c.loop-i.invariant ∙ ap (sets c.args.out.now 0) (take_all c.loop-i.i c.args.list.now c.loop-i-test.false)
