-- `spare_after` is what the numbers' bytes leave of 8 (`Spares`). Assumes nothing.
use Rattle.std.proofs.Common.{◌≡◌, ◌<◌, ◌-◌, length, sym, arith, eqb-true}
use Rattle.std.proofs.lemmas.Bool.{eqb-false}
use Rattle.meaning.specs.DataBytes.{data_bytes}
use Rattle.g8iu.proofs.Spares.{spare_none, spare_of}
use Rattle.g8iu.proofs.spare_after.Goals as goal

pub returns-then-is_empty : goal.returns-then-is_empty
returns-then-is_empty c = spare_none c.args.numbers.now (eqb-true _ _ (sym c.if-is_empty.ensures))

pub returns : goal.returns
returns c =
    let xs = c.args.numbers.now in
    let e = eqb-false (length xs) 0 (sym c.if-is_empty.ensures) in
    let some : 0 < length xs = omega arith in
    let so : c.saturating_sub.result ≡ 8 - length (data_bytes xs) = omega (arith, c.saturating_sub.ensures, c.data_length.ensures) in
    rw so (spare_of xs some)
