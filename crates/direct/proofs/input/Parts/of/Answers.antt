-- `of` meets its contract: each test is a law's premise. Assumes nothing.
use native.Mathlib.Omega.{arith}
use Rattle.meaning.specs.Direct.{flag_bytes, sum_count, sums_at, data_at}
use Rattle.direct.proofs.Fits.{head-short, head-cut, head-fits}
use Rattle.direct.proofs.input.Parts.of.Goals as goal

pub returns-then-len-lt4-clause-told : goal.returns-then-len-lt4-clause-told
returns-then-len-lt4-clause-told c = rw (head-short _ c.if-len-lt4.true)

pub overflow_add-data_at : goal.overflow_add-data_at
unfolding data_at sums_at flag_bytes sum_count
overflow_add-data_at c = omega (arith, c.data_at.ensures)

pub returns-then-len-data_at-clause-told : goal.returns-then-len-data_at-clause-told
returns-then-len-data_at-clause-told c =
    rw (head-cut _ c.word_at-data_bytes.ensures c.if-len-lt4.false (rw (← c.data_at.ensures) c.if-len-data_at.true))

pub invariant_of-result : goal.invariant_of-result
invariant_of-result c =
    record {
      fit = record {
        fits = head-fits _ c.word_at-data_bytes.ensures c.if-len-lt4.false (rw (← c.data_at.ensures) c.if-len-data_at.false);
        is = c.word_at-data_bytes.ensures;
      };
      small = λ i. (c.type_inv.body i).fits;
    }
