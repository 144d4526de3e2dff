-- One control byte, and its four numbers. Assumes nothing.
use Prim.Native.Nat.{◌<◌}
use mathlib.Core.Path.{◌≡◌}
use lib.ListN.{length, get_or}
use borrow.Author.Rules.{rules}
use Rattle.groups.proofs.Taking.{group-taken}
use Rattle.groups.proofs.whole.Bounds.take_group.Goals as goal

pub returns : goal.returns
returns c =
    let body = c.args.body.now in
    let at = c.args.at in
    let there : at.head.byte < length body = search rules in
    let byte : c.from-c.result ≡ get_or body at.head.byte 0 = search rules in
    group-taken c.args.form body at c.requires.1 there byte (rw c.data.ensures at c.in_ok-end.ensures) c.next.ensures
