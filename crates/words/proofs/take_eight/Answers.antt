-- `take_eight` reads eight bytes and then stores them (`Straight`). Assumes nothing.
use mathlib.Core.Path.{refl}
use lib.ListN.{length-set}
use borrow.Author.Rules.{rules}
use Rattle.words.proofs.Straight.{eight-stored}
use Rattle.words.proofs.take_eight.Goals as goal

pub bounds-out-first-2 : goal.bounds-out-first-2
bounds-out-first-2 c = simp length-set (search rules)

pub bounds-out-first-3 : goal.bounds-out-first-3
bounds-out-first-3 c = simp length-set (search rules)

pub bounds-out-first-4 : goal.bounds-out-first-4
bounds-out-first-4 c = simp length-set (search rules)

pub bounds-out-first-5 : goal.bounds-out-first-5
bounds-out-first-5 c = simp length-set (search rules)

pub bounds-out-first-6 : goal.bounds-out-first-6
bounds-out-first-6 c = simp length-set (search rules)

pub bounds-out-first-7 : goal.bounds-out-first-7
bounds-out-first-7 c = simp length-set (search rules)

pub bounds-out-first-8 : goal.bounds-out-first-8
bounds-out-first-8 c = simp length-set (search rules)

pub shape_of-out : goal.shape_of-out
shape_of-out c = simp length-set refl

pub returns : goal.returns
returns c =
    eight-stored _ _ _ _ c.requires.0 c.from-a.ensures c.from-b.ensures c.from-c.ensures c.from-d.ensures
    c.from-e.ensures c.from-f.ensures c.from-g.ensures c.from-h.ensures
