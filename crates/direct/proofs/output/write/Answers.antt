-- The number of data bytes, and then the bits, the sums and the data. Assumes nothing.
use native.Mathlib.Omega.{arith}
use Rattle.direct.proofs.Writing.{data-few, sums-near, data-near, parts-past, parts-written}
use Rattle.direct.proofs.output.write.Goals as goal

pub data_at-requires : goal.data_at-requires
data_at-requires c = omega (arith, data-few c.requires c.data_length-d.ensures, c.requires.short)

pub overflow_add-data : goal.overflow_add-data
overflow_add-data c = omega (arith, c.data_at.ensures, data-near c.requires c.data_length-d.ensures)

pub overflow_add-end : goal.overflow_add-end
overflow_add-end c =
    omega (arith, c.data_at.ensures, data-near c.requires c.data_length-d.ensures, data-few c.requires c.data_length-d.ensures)

pub returns-then-out-start : goal.returns-then-out-start
returns-then-out-start c =
    let a = c.args in
    rw c.data_at.ensures (parts-past a.list.now c.data_length-d.ensures c.if-out-start.true)

pub sums_at-requires : goal.sums_at-requires
sums_at-requires c = omega (arith, data-few c.requires c.data_length-d.ensures, c.requires.short)

pub overflow_add-sums : goal.overflow_add-sums
overflow_add-sums c = omega (arith, c.sums_at.ensures, sums-near c.requires c.data_length-d.ensures)

pub put_sums-requires : goal.put_sums-requires
put_sums-requires c = omega (arith, c.sums_at.ensures, sums-near c.requires c.data_length-d.ensures)

pub put_data-requires : goal.put_data-requires
put_data-requires c = omega (arith, c.data_at.ensures, data-near c.requires c.data_length-d.ensures)

pub returns : goal.returns
returns c =
    let a = c.args in
    parts-written a.list.now c.data_length-d.ensures c.put_number.ensures c.put_flags.ensures
    (rw c.sums_at.ensures at c.put_sums.ensures) (rw c.data_at.ensures at c.put_data.ensures)
