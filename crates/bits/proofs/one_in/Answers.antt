-- `one_in` passes words, and finds the bit in the one behind them (`Passes`). Assumes nothing.
use mathlib.Core.Path.{sym}
use native.Mathlib.Omega.{arith}
use Rattle.bits.proofs.Finding.{none_in, word_holds, one-small, one_found}
use Rattle.bits.proofs.one_in.Goals as goal

pub returns-in_default : goal.returns-in_default
returns-in_default c =
    sym (none_in c.args.bytes.now c.args.from.byte c.args.words c.args.k (rw c.in_default.is at c.pass_words.ensures))

pub bit_in-requires : goal.bit_in-requires
bit_in-requires c = word_holds _ _ (λ i. (c.type_inv.bytes i).fits) c.in-Ok.ensures c.word_near-word.ensures

pub overflow_add-index : goal.overflow_add-index
overflow_add-index c =
    let so = c.in-Ok.ensures in
    omega (arith, c.requires, so.less, one-small _ _ (λ i. (c.type_inv.bytes i).fits) so c.word_near-word.ensures c.bit_in.ensures)

pub returns : goal.returns
returns c = one_found _ _ (λ i. (c.type_inv.bytes i).fits) c.in-Ok.ensures c.word_near-word.ensures c.bit_in.ensures
