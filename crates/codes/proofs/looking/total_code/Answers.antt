-- `passed` numbers have been passed and added up, none of them at the place. Assumes nothing.
use borrow.Author.Rules.{rules}
use Prim.Native.Nat.{ℕ, ◌+◌, ◌-◌}
use mathlib.Core.Path.{sym, ap, ◌∙◌}
use native.Mathlib.Omega.{arith}
use lib.ListN.{length-take}
use Rattle.meaning.specs.Answer.{Answer, given}
use Rattle.meaning.specs.Codes.{code_of, look_code}
use Rattle.std.proofs.lemmas.Result.{err_from_is_err_and}
use Rattle.codes.specs.Firsts.{total}
use Rattle.codes.proofs.Lookings.{looking-start, start-refuses, refuses, passes, looking-on}
use Rattle.codes.proofs.Numbered.{way-units, look-eight}
use Rattle.codes.proofs.Stretches.{goes_on, passed-long}
use Rattle.codes.proofs.Totals.{total-none, total-refused, total-went, total-found}
use Rattle.codes.proofs.looking.total_code.Goals as goal

pub returns-then-is_direct : goal.returns-then-is_direct
returns-then-is_direct c =
    let a = c.args in
    let eight = look-eight a.code (sym c.is_direct.ensures ∙ c.if-is_direct.true) a.body.now a.n in
    c.total_direct.ensures ∙ ap (λ (at : ℕ → Answer ℕ). total at (a.place.number + 1)) (sym eight)

pub returns-in_err-at : goal.returns-in_err-at
returns-in_err-at c =
    let a = c.args in
    let units = way-units a.code (sym c.is_direct.ensures ∙ c.if-is_direct.false) in
    let at = look_code (code_of a.code) a.body.now a.n in
    let p = err_from_is_err_and c.from_residual.result c.from_residual.ensures.1 in
    rw (p.1, p.2) (sym (total-refused at 0 (a.place.number + 1) 0 _ (omega arith) (total-none at)
    (start-refuses a.code a.body.now a.n units c.start_at.ensures c.in_err-at.was 0)))

pub loop-taken-init : goal.loop-taken-init
loop-taken-init c =
    let a = c.args in
    let units = way-units a.code (sym c.is_direct.ensures ∙ c.if-is_direct.false) in (
      looking-start a.code a.body.now a.n units c.start_at.ensures (λ i. (c.type_inv.body i).fits) c.requires.short
          c.in_ok-at.was,
      omega arith,
      c.requires.inside,
      c.requires.few,
      search rules,
      c.unit_most-most.ensures.0,
      c.unit_most-most.ensures.1,
      total-none (look_code (code_of a.code) a.body.now a.n),
      omega arith,
    )

pub overflow_add-here : goal.overflow_add-here
overflow_add-here c = omega (arith, c.loop-taken.invariant)

pub stretch-requires : goal.stretch-requires
stretch-requires c =
    let (l, most, inside, few, long, one, eight, sum, low) = c.loop-taken.invariant in
    (record { inside = omega (arith, c.min-room.ensures, long); short = l.short }, omega arith)

pub returns-in_err-taken : goal.returns-in_err-taken
returns-in_err-taken c =
    let (l, most, inside, few, long, one, eight, sum, low) = c.loop-taken.invariant in
    let p = err_from_is_err_and c.from_residual-in_err-taken.result c.from_residual-in_err-taken.ensures.1 in
    rw (p.1, p.2) (sym (total-refused _ _ _ _ _ (omega arith) sum (refuses l c.stretch.ensures c.in_err-taken.was _ (omega arith) (omega arith))))

pub total_of-requires : goal.total_of-requires
total_of-requires c =
    let (l, most, inside, few, long, one, eight, sum, low) = c.loop-taken.invariant in
    omega (arith, length-take (c.args.place.number - c.loop-taken.passed + 1) c.stretch.new.work)

pub overflow_add-through : goal.overflow_add-through
overflow_add-through c =
    let (l, most, inside, few, long, one, eight, sum, low) = c.loop-taken.invariant in
    omega (arith, low, c.total_of.ensures.1, length-take (c.args.place.number - c.loop-taken.passed + 1) c.stretch.new.work)

pub returns-then-here-taken : goal.returns-then-here-taken
returns-then-here-taken c =
    let (l, most, inside, few, long, one, eight, sum, low) = c.loop-taken.invariant in
    let g = goes_on c.stretch.ensures c.in_ok-taken.was in
    ap (λ (x : ℕ). given (c.loop-taken.s + x)) c.total_of.ensures.0
    ∙ total-found l g (omega (arith, c.min-room.ensures, long)) sum _ most c.if-here-taken.true
    (omega (arith, g.few, c.min-room.ensures, c.if-here-taken.true))

pub total_of-s-requires : goal.total_of-s-requires
total_of-s-requires c =
    let (l, most, inside, few, long, one, eight, sum, low) = c.loop-taken.invariant in
    let g = goes_on c.stretch.ensures c.in_ok-taken.was in
    omega (arith, passes l g (omega arith), length-take c.in_ok-taken.taken.count c.stretch.new.work)

pub overflow_add-s : goal.overflow_add-s
overflow_add-s c =
    let (l, most, inside, few, long, one, eight, sum, low) = c.loop-taken.invariant in
    let g = goes_on c.stretch.ensures c.in_ok-taken.was in
    omega (arith, low, c.total_of-s.ensures.1, passes l g (omega arith), length-take c.in_ok-taken.taken.count c.stretch.new.work)

pub overflow_add-passed : goal.overflow_add-passed
overflow_add-passed c =
    let (l, most, inside, few, long, one, eight, sum, low) = c.loop-taken.invariant in
    let g = goes_on c.stretch.ensures c.in_ok-taken.was in
    omega (arith, passes l g (omega arith))

pub loop-taken-smaller : goal.loop-taken-smaller
loop-taken-smaller c =
    let (l, most, inside, few, long, one, eight, sum, low) = c.loop-taken.invariant in
    let g = goes_on c.stretch.ensures c.in_ok-taken.was in
    omega (arith, passes l g (omega arith), g.some)

pub loop-taken-preserved : goal.loop-taken-preserved
loop-taken-preserved c =
    let (l, most, inside, few, long, one, eight, sum, low) = c.loop-taken.invariant in
    let g = goes_on c.stretch.ensures c.in_ok-taken.was in (
      looking-on l g,
      omega (arith, c.if-here-taken.false),
      inside,
      few,
      passed-long g ∙ long,
      one,
      eight,
      total-went l g (omega (arith, c.min-room.ensures, long)) sum _ (omega arith) (omega (arith, g.few, c.min-room.ensures, c.if-here-taken.false))
          ∙ ap (λ (x : ℕ). given (c.loop-taken.s + x)) (sym c.total_of-s.ensures.0),
      omega (arith, low, c.total_of-s.ensures.1, length-take c.in_ok-taken.taken.count c.stretch.new.work),
    )
