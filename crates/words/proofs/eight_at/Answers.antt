-- `eight_at` reads eight bytes that are there. Assumes nothing.
use Rattle.std.proofs.lemmas.Result.{MatchResult-at_ok}
use Rattle.words.proofs.Straight.{eight-there}
use Rattle.words.proofs.eight_at.Goals as goal

pub returns : goal.returns
returns c =
    let whole = MatchResult-at_ok _ _ _ c.unwrap.ensures c.try_from.ensures.1 in
    eight-there c.args.bytes.now c.args.at.byte c.requires whole.same c.from_le_bytes.ensures
