-- `write` refuses in the definition's order, and writes once all is known to fit. Assumes nothing.
use mathlib.Core.Path.{sym, ◌∙◌}
use native.Mathlib.Omega.{arith}
use Rattle.std.proofs.lemmas.Result.{err_from_is_err_and}
use Rattle.writer.specs.declared.orders.Orders.{Orders}
use Rattle.writer.proofs.Order.{refuse-edition, refuse-orders, past-orders, refuse-plan, refuse-list, past-lists}
use Rattle.writer.proofs.Order.{refuse-work, past_work, refuse-large, refuse-room, accepted}
use Rattle.writer.proofs.write.Goals as goal

-- ---- 11
pub returns-then-not-is_edition : goal.returns-then-not-is_edition
returns-then-not-is_edition c =
    let a = c.args in
    let o : Orders = record { kinds = a.kinds; plans = a.plans; counts = a.counts; joined = a.joined } in
    refuse-edition a.edition o a.work.now a.out.now (sym c.is_edition.ensures ∙ c.if-not-is_edition.true)

pub returns-then-not-hold : goal.returns-then-not-hold
returns-then-not-hold c =
    let a = c.args in
    let o : Orders = record { kinds = a.kinds; plans = a.plans; counts = a.counts; joined = a.joined } in
    refuse-orders a.edition o a.work.now a.out.now (sym c.is_edition.ensures ∙ c.if-not-is_edition.false) (sym c.hold.ensures ∙ c.if-not-hold.true)

-- ---- each plan in turn
pub returns-in_err-judge : goal.returns-in_err-judge
returns-in_err-judge c =
    let a = c.args in
    let o : Orders = record { kinds = a.kinds; plans = a.plans; counts = a.counts; joined = a.joined } in
    let past = past-orders a.edition o a.work.now a.out.now (sym c.is_edition.ensures ∙ c.if-not-is_edition.false) (sym c.hold.ensures ∙ c.if-not-hold.false) in
    let p = err_from_is_err_and c.from_residual.result c.from_residual.ensures.1 in
    rw (p.1, p.2) (refuse-plan past _ c.in_err-judge.ensures)

-- ---- 10
pub rise-requires : goal.rise-requires
rise-requires c =
    let a = c.args in
    let o : Orders = record { kinds = a.kinds; plans = a.plans; counts = a.counts; joined = a.joined } in
    let past = past-orders a.edition o a.work.now a.out.now (sym c.is_edition.ensures ∙ c.if-not-is_edition.false) (sym c.hold.ensures ∙ c.if-not-hold.false) in
    (past.ordered.counted, past.ordered.whole)

pub returns-then-not-rise : goal.returns-then-not-rise
returns-then-not-rise c =
    let a = c.args in
    let o : Orders = record { kinds = a.kinds; plans = a.plans; counts = a.counts; joined = a.joined } in
    let past = past-orders a.edition o a.work.now a.out.now (sym c.is_edition.ensures ∙ c.if-not-is_edition.false) (sym c.hold.ensures ∙ c.if-not-hold.false) in
    refuse-list past c.in_ok-judge.ensures (sym c.rise.ensures ∙ c.if-not-rise.true)

-- ---- 8
pub returns-then-work-largest : goal.returns-then-work-largest
returns-then-work-largest c =
    let a = c.args in
    let o : Orders = record { kinds = a.kinds; plans = a.plans; counts = a.counts; joined = a.joined } in
    let past = past-orders a.edition o a.work.now a.out.now (sym c.is_edition.ensures ∙ c.if-not-is_edition.false) (sym c.hold.ensures ∙ c.if-not-hold.false) in
    let risen = past-lists past c.in_ok-judge.ensures (sym c.rise.ensures ∙ c.if-not-rise.false) in
    refuse-work risen c.largest.ensures.0 c.if-work-largest.true

-- ---- 7, told by the first pass
pub put_sheet-size-requires : goal.put_sheet-size-requires
put_sheet-size-requires c =
    let a = c.args in
    let o : Orders = record { kinds = a.kinds; plans = a.plans; counts = a.counts; joined = a.joined } in
    let past = past-orders a.edition o a.work.now a.out.now (sym c.is_edition.ensures ∙ c.if-not-is_edition.false) (sym c.hold.ensures ∙ c.if-not-hold.false) in
    let risen = past-lists past c.in_ok-judge.ensures (sym c.rise.ensures ∙ c.if-not-rise.false) in
    let done = past_work risen c.largest.ensures.0 c.if-work-largest.false in
    (done.ordered, done.serves)

pub returns-then-size-gt-MOST_BYTES : goal.returns-then-size-gt-MOST_BYTES
returns-then-size-gt-MOST_BYTES c =
    let a = c.args in
    let o : Orders = record { kinds = a.kinds; plans = a.plans; counts = a.counts; joined = a.joined } in
    let past = past-orders a.edition o a.work.now a.out.now (sym c.is_edition.ensures ∙ c.if-not-is_edition.false) (sym c.hold.ensures ∙ c.if-not-hold.false) in
    let risen = past-lists past c.in_ok-judge.ensures (sym c.rise.ensures ∙ c.if-not-rise.false) in
    let done = past_work risen c.largest.ensures.0 c.if-work-largest.false in
    refuse-large done c.put_sheet-size.ensures c.if-size-gt-MOST_BYTES.true

pub returns-then-out-size : goal.returns-then-out-size
returns-then-out-size c =
    let a = c.args in
    let o : Orders = record { kinds = a.kinds; plans = a.plans; counts = a.counts; joined = a.joined } in
    let past = past-orders a.edition o a.work.now a.out.now (sym c.is_edition.ensures ∙ c.if-not-is_edition.false) (sym c.hold.ensures ∙ c.if-not-hold.false) in
    let risen = past-lists past c.in_ok-judge.ensures (sym c.rise.ensures ∙ c.if-not-rise.false) in
    let done = past_work risen c.largest.ensures.0 c.if-work-largest.false in
    refuse-room done c.put_sheet-size.ensures c.if-size-gt-MOST_BYTES.false c.if-out-size.true

-- ---- the second pass
pub put_sheet-requires : goal.put_sheet-requires
put_sheet-requires c =
    let a = c.args in
    let o : Orders = record { kinds = a.kinds; plans = a.plans; counts = a.counts; joined = a.joined } in
    let past = past-orders a.edition o a.work.now a.out.now (sym c.is_edition.ensures ∙ c.if-not-is_edition.false) (sym c.hold.ensures ∙ c.if-not-hold.false) in
    let risen = past-lists past c.in_ok-judge.ensures (sym c.rise.ensures ∙ c.if-not-rise.false) in
    let done = past_work risen c.largest.ensures.0 c.if-work-largest.false in
    (done.ordered, λ k. omega (arith, done.serves k, c.put_sheet-size.auto.work))

pub returns : goal.returns
returns c =
    let a = c.args in
    let o : Orders = record { kinds = a.kinds; plans = a.plans; counts = a.counts; joined = a.joined } in
    let past = past-orders a.edition o a.work.now a.out.now (sym c.is_edition.ensures ∙ c.if-not-is_edition.false) (sym c.hold.ensures ∙ c.if-not-hold.false) in
    let risen = past-lists past c.in_ok-judge.ensures (sym c.rise.ensures ∙ c.if-not-rise.false) in
    let done = past_work risen c.largest.ensures.0 c.if-work-largest.false in
    accepted done c.put_sheet-size.ensures c.if-size-gt-MOST_BYTES.false c.if-out-size.false c.put_sheet.ensures
