-- `read` reads into work, and copies what is whole; every refusal leaves the output. Assumes only the laws of the codes.
use native.Mathlib.Omega.{arith}
use lib.ListN.{length-take}
use Rattle.std.proofs.lemmas.Result.{err_from_is_err_and}
use Rattle.sheet.proofs.Entered.{count-few, readable, opened-here}
use Rattle.sheet.proofs.ReadSheets.{says_none, says-short, says-full, says-fault, copy-room, says-copied}
use Rattle.sheet.proofs.read.Goals as goal

pub overflow_mul-entry : goal.overflow_mul-entry
overflow_mul-entry c =
    let opened = c.in_ok-entry.ensures in
    omega (arith, count-few opened.entry (opened-here opened))

pub returns-then-work-entry : goal.returns-then-work-entry
returns-then-work-entry c =
    let opened = c.in_ok-entry.ensures in
    says-short opened c.args.work.now c.args.out.now c.if-work-entry.true

pub returns-then-out-entry : goal.returns-then-out-entry
returns-then-out-entry c =
    let opened = c.in_ok-entry.ensures in
    says-full opened c.args.work.now c.args.out.now c.if-work-entry.false c.if-out-entry.true

pub read_column-requires : goal.read_column-requires
read_column-requires c =
    let opened = c.in_ok-entry.ensures in
    readable opened.entry (opened-here opened) c.if-work-entry.false

pub copy_list-requires : goal.copy_list-requires
copy_list-requires c =
    let opened = c.in_ok-entry.ensures in
    let room = copy-room opened c.args.work.now c.args.out.now c.if-work-entry.false c.if-out-entry.false c.read_column.ensures
    c.in_ok-n.was (λ i. (c.type_inv.sheet i).fits) in
    omega (arith, length-take c.in_ok-n.n c.read_column.new.work)

pub slice_bounds-copy_list-end : goal.slice_bounds-copy_list-end
slice_bounds-copy_list-end c =
    let opened = c.in_ok-entry.ensures in
    (copy-room opened c.args.work.now c.args.out.now c.if-work-entry.false c.if-out-entry.false c.read_column.ensures
    c.in_ok-n.was (λ i. (c.type_inv.sheet i).fits)).0

pub returns-in_err-entry : goal.returns-in_err-entry
returns-in_err-entry c =
    let a = c.args in
    let p = err_from_is_err_and c.from_residual.result c.from_residual.ensures.1 in
    rw (p.1, p.2) (says_none a.sheet.now a.column a.work.now a.out.now _ c.in_err-entry.ensures)

pub returns-in_err-n : goal.returns-in_err-n
returns-in_err-n c =
    let opened = c.in_ok-entry.ensures in
    let p = err_from_is_err_and c.from_residual-in_err-n.result c.from_residual-in_err-n.ensures.1 in
    rw (p.1, p.2) (says-fault opened c.args.work.now c.args.out.now c.if-work-entry.false c.if-out-entry.false c.read_column.ensures
    c.in_err-n.was)

pub returns : goal.returns
returns c =
    let opened = c.in_ok-entry.ensures in
    says-copied opened c.args.work.now c.args.out.now c.if-work-entry.false c.if-out-entry.false c.read_column.ensures
    c.in_ok-n.was (λ i. (c.type_inv.sheet i).fits) c.copy_list.ensures
