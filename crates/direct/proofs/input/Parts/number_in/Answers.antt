-- `number_in` meets its contract: the data bytes lie within the body. Assumes nothing.
use mathlib.Core.Path.{sym, ◌∙◌}
use native.Mathlib.Omega.{arith}
use Rattle.meaning.specs.Direct.{flag_bytes, sum_count, sums_at, data_at}
use Rattle.direct.proofs.Fits.{standing, data-few}
use Rattle.direct.proofs.Nexts.{in-long, in-given, in-refused}
use Rattle.direct.proofs.input.Parts.number_in.Goals as goal

pub returns-then-len-gt4 : goal.returns-then-len-gt4
returns-then-len-gt4 c = sym (in-long _ _ _ c.if-len-gt4.true)

pub data_at-requires : goal.data_at-requires
data_at-requires c = omega (arith, data-few c.args.self.now.fit c.args.self.now.small)

pub overflow_add-byte : goal.overflow_add-byte
unfolding data_at sums_at flag_bytes sum_count
overflow_add-byte c = omega (arith, data-few c.args.self.now.fit c.args.self.now.small, c.requires.1, c.data_at.ensures)

pub number_at-x-requires : goal.number_at-x-requires
unfolding data_at sums_at flag_bytes sum_count
number_at-x-requires c =
    (c.requires.0, c.if-len-gt4.false, omega (arith, (standing c.args.self.now.fit).ends, c.requires.1, c.data_at.ensures))

pub returns : goal.returns
returns c =
    in-given c.args.self.now.fit _ _ c.if-len-gt4.false (c.number_at-x.ensures ∙ rw c.data_at.ensures)
    (sym c.byte_length.ensures ∙ c.if-byte_length-len.false)

pub returns-then-byte_length-len : goal.returns-then-byte_length-len
returns-then-byte_length-len c =
    in-refused c.args.self.now.fit _ _ c.if-len-gt4.false (c.number_at-x.ensures ∙ rw c.data_at.ensures)
    (λ e. c.if-byte_length-len.true (c.byte_length.ensures ∙ e))
