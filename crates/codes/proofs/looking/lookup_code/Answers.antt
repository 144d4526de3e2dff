-- `passed` numbers have been passed, none of them at the place. Assumes nothing.
use borrow.Author.Rules.{rules}
use Prim.Native.Nat.{ℕ}
use mathlib.Core.Path.{sym, ap, ◌∙◌}
use native.Mathlib.Omega.{arith}
use Rattle.meaning.specs.Answer.{Answer}
use Rattle.std.proofs.lemmas.Result.{err_from_is_err_and}
use Rattle.codes.proofs.Lookings.{looking-start, start-refuses, refuses, passes, looking-on, found}
use Rattle.codes.proofs.Numbered.{way-units, look-eight}
use Rattle.codes.proofs.Stretches.{goes_on, passed-long}
use Rattle.codes.proofs.looking.lookup_code.Goals as goal

pub returns-then-is_direct : goal.returns-then-is_direct
returns-then-is_direct c =
    let a = c.args in
    let eight = look-eight a.code (sym c.is_direct.ensures ∙ c.if-is_direct.true) a.body.now a.n in
    c.lookup.ensures ∙ sym (ap (λ (at : ℕ → Answer ℕ). at a.place.number) eight)

pub returns-in_err-at : goal.returns-in_err-at
returns-in_err-at c =
    let a = c.args in
    let units = way-units a.code (sym c.is_direct.ensures ∙ c.if-is_direct.false) in
    let p = err_from_is_err_and c.from_residual.result c.from_residual.ensures.1 in
    rw (p.1, p.2) (sym (start-refuses a.code a.body.now a.n units c.start_at.ensures c.in_err-at.was a.place.number))

pub loop-taken-init : goal.loop-taken-init
loop-taken-init c =
    let a = c.args in
    let units = way-units a.code (sym c.is_direct.ensures ∙ c.if-is_direct.false) in (
      looking-start a.code a.body.now a.n units c.start_at.ensures
          (λ i. (c.type_inv.body i).fits) c.requires.short
          c.in_ok-at.was,
      omega arith,
      c.requires.inside,
      c.requires.few,
      search rules,
      c.unit_most-most.ensures.0,
      c.unit_most-most.ensures.1,
    )

pub overflow_add-here : goal.overflow_add-here
overflow_add-here c = omega (arith, c.loop-taken.invariant)

pub stretch-requires : goal.stretch-requires
stretch-requires c =
    let (l, most, inside, few, long, one, eight) = c.loop-taken.invariant in
    (record { inside = omega (arith, c.min-room.ensures, long); short = l.short }, omega arith)

pub returns-in_err-taken : goal.returns-in_err-taken
returns-in_err-taken c =
    let (l, most, inside, few, long, one, eight) = c.loop-taken.invariant in
    let p = err_from_is_err_and c.from_residual-in_err-taken.result c.from_residual-in_err-taken.ensures.1 in
    rw (p.1, p.2) (sym (refuses l c.stretch.ensures c.in_err-taken.was _ most inside))

pub offset_bounds-numbers-here : goal.offset_bounds-numbers-here
offset_bounds-numbers-here c =
    let (l, most, inside, few, long, one, eight) = c.loop-taken.invariant in
    omega arith

pub bounds-numbers-here : goal.bounds-numbers-here
bounds-numbers-here c =
    let (l, most, inside, few, long, one, eight) = c.loop-taken.invariant in
    let g = goes_on c.stretch.ensures c.in_ok-taken.was in
    omega (arith, c.min-room.ensures, g.few, c.if-here-taken.true)

pub returns-then-here-taken : goal.returns-then-here-taken
returns-then-here-taken c =
    let (l, most, inside, few, long, one, eight) = c.loop-taken.invariant in
    let g = goes_on c.stretch.ensures c.in_ok-taken.was in
    sym (found l g (omega (arith, c.min-room.ensures, long)) _ most c.if-here-taken.true (omega (arith, c.min-room.ensures, g.few, c.if-here-taken.true)))

pub overflow_add-passed : goal.overflow_add-passed
overflow_add-passed c =
    let (l, most, inside, few, long, one, eight) = c.loop-taken.invariant in
    let g = goes_on c.stretch.ensures c.in_ok-taken.was in
    omega (arith, passes l g (omega arith))

pub loop-taken-smaller : goal.loop-taken-smaller
loop-taken-smaller c =
    let (l, most, inside, few, long, one, eight) = c.loop-taken.invariant in
    let g = goes_on c.stretch.ensures c.in_ok-taken.was in
    omega (arith, passes l g (omega arith), g.some)

pub loop-taken-preserved : goal.loop-taken-preserved
loop-taken-preserved c =
    let (l, most, inside, few, long, one, eight) = c.loop-taken.invariant in
    let g = goes_on c.stretch.ensures c.in_ok-taken.was in
    (looking-on l g, omega (arith, c.if-here-taken.false), inside, few, passed-long g ∙ long, one, eight)
