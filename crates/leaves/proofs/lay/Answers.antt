-- The numbers stand in their part of work. Assumes nothing.
use Rattle.std.proofs.Common.{rules, arith, ◌+◌, ◌-◌, length, take, ◌≡◌}
use Rattle.std.proofs.Math.Seq.{length-take-le}
use Rattle.meaning.proofs.Stores.{mid-sets}
use Rattle.leaves.proofs.lay.Goals as goal

pub returns : goal.returns
returns c =
    let a = c.args in
    let few : length (take a.k a.numbers) ≡ a.k = length-take-le a.k a.numbers (omega arith) in
    let so : c.copy_from_slice.new.self ≡ take a.k a.numbers = search rules in
    rw so (mid-sets a.work.now (take a.k a.numbers) a.from.number (a.from.number + a.k - a.from.number) (omega arith) (omega arith))
