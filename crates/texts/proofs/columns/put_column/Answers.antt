-- A column of a sheet that passed is read whole, and its numbers are the list's first. Assumes only the laws of the codes.
use Prim.Native.Nat.{◌≤◌}
use mathlib.Core.Path.{sym, ◌∙◌}
use native.Mathlib.Omega.{arith}
use lib.ListN.{length-take}
use lib.Seq.{length-take-le}
use Rattle.meaning.specs.Limits.{most_numbers}
use Rattle.meaning.specs.Places.{Below}
use Rattle.table.proofs.ColumnLaws.{within}
use Rattle.texts.proofs.ColumnLines.{listed_here, listed-few, listed-numbers, column-lines}
use Rattle.texts.proofs.columns.put_column.Goals as goal

pub count_at-count-requires : goal.count_at-count-requires
count_at-count-requires c = within (listed_here c.requires.0)

pub put_head-requires : goal.put_head-requires
put_head-requires c = (listed_here c.requires.0, omega (arith, c.requires.1))

pub slice_bounds-put_numbers-end : goal.slice_bounds-put_numbers-end
slice_bounds-put_numbers-end c = omega (arith, c.count_at-count.ensures, listed-few c.requires.0, c.requires.0.passing.lists)

pub slice_bounds-put_numbers-end-2 : goal.slice_bounds-put_numbers-end-2
slice_bounds-put_numbers-end-2 c =
    sym (length-take-le _ _ (omega (arith, c.count_at-count.ensures, listed-few c.requires.0, c.requires.0.passing.lists)))

pub put_numbers-requires : goal.put_numbers-requires
put_numbers-requires c =
    let few : c.count_at-count.result ≤ most_numbers = omega (arith, c.count_at-count.ensures, listed-few c.requires.0) in
    (simp length-take (omega arith), omega (arith, c.put_head.ensures.short, c.requires.1))

pub returns : goal.returns
returns c =
    let a = c.args in
    let few : c.count_at-count.result ≤ most_numbers = omega (arith, c.count_at-count.ensures, listed-few c.requires.0) in
    let bytes : Below 256 a.sheet.now = λ i. (c.type_inv.sheet i).fits in
    let are = listed-numbers c.requires.0 bytes a.list.now c.count_at-count.ensures c.read.ensures.1 in
    let long = length-take c.count_at-count.result c.read.new.out in
    record {
      wrote = column-lines a.sheet.now a.column are c.put_head.ensures.wrote c.put_numbers.ensures.wrote;
      short = omega (arith, few, long, c.put_head.ensures.short, c.put_numbers.ensures.short);
      same = c.put_numbers.ensures.same ∙ c.put_head.ensures.same;
    }
