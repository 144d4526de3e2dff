-- The numbers at the first `passed` places stand in work. Assumes nothing.
use mathlib.Core.Path.{◌≡◌, refl, sym, ◌∙◌}
use native.Mathlib.Omega.{arith}
use Rattle.codes.proofs.Lookings.{looking-start, start-refuses, refuses, looking-on}
use Rattle.codes.proofs.Lookings.{those, laid_none, laid-went, firsts-stop, firsts-all, firsts_same}
use Rattle.codes.proofs.Numbered.{way-units, look-eight}
use Rattle.codes.proofs.Stretches.{goes_on, goes-refused}
use Rattle.codes.proofs.looking.firsts_code.Goals as goal

pub returns-then-is_direct : goal.returns-then-is_direct
returns-then-is_direct c =
    let a = c.args in
    let eight = look-eight a.code (sym c.is_direct.ensures ∙ c.if-is_direct.true) a.body.now a.n in
    firsts_same eight c.firsts_direct.ensures

pub returns-then-k-eq0 : goal.returns-then-k-eq0
returns-then-k-eq0 c =
    let e = c.if-k-eq0.true in
    rw e (firsts-all laid_none refl)

pub returns-in-Err : goal.returns-in-Err
returns-in-Err c =
    let a = c.args in
    let units = way-units a.code (sym c.is_direct.ensures ∙ c.if-is_direct.false) in
    firsts-stop laid_none (omega (arith, c.if-k-eq0.false)) (start-refuses a.code a.body.now a.n units c.start_at.ensures c.in-Err.is 0)

pub loop-passed-init : goal.loop-passed-init
loop-passed-init c =
    let a = c.args in
    let units = way-units a.code (sym c.is_direct.ensures ∙ c.if-is_direct.false) in (
      λ h. looking-start a.code a.body.now a.n units c.start_at.ensures (λ i. (c.type_inv.body i).fits) c.requires.short
          c.in-Ok.is,
      laid_none,
      omega arith,
      c.requires,
    )

pub overflow_add-place : goal.overflow_add-place
overflow_add-place c =
    let (l, laid, most, space) = c.loop-passed.invariant in
    omega (arith, space.room)

pub overflow_sub-n : goal.overflow_sub-n
overflow_sub-n c =
    let (l, laid, most, space) = c.loop-passed.invariant in
    omega (arith, space.inside)

pub stretch-went-requires : goal.stretch-went-requires
stretch-went-requires c =
    let (looking, laid, most, space) = c.loop-passed.invariant in
    let l = looking c.loop-passed-test.true in
    (record { inside = omega (arith, laid.long, space.room); short = l.short }, omega (arith, space.inside, c.loop-passed-test.true))

pub returns-in-Err-went : goal.returns-in-Err-went
returns-in-Err-went c =
    let (looking, laid, most, space) = c.loop-passed.invariant in
    let l = looking c.loop-passed-test.true in
    let (stops, same) = goes-refused c.stretch-went.ensures c.in-Err-went.is in
    rw same
    (firsts-stop laid c.loop-passed-test.true
    (refuses l c.stretch-went.ensures c.in-Err-went.is _ (omega arith) (omega (arith, space.inside, c.loop-passed-test.true))))

pub overflow_add-passed : goal.overflow_add-passed
overflow_add-passed c =
    let (looking, laid, most, space) = c.loop-passed.invariant in
    let l = looking c.loop-passed-test.true in
    omega (arith, c.min-passed.ensures, space.room)

pub loop-passed-smaller : goal.loop-passed-smaller
loop-passed-smaller c =
    let g = goes_on c.stretch-went.ensures c.in-Ok-went.is in
    omega (arith, c.min-passed.ensures, g.some, c.loop-passed-test.true)

pub loop-passed-preserved : goal.loop-passed-preserved
loop-passed-preserved c =
    let (looking, laid, most, space) = c.loop-passed.invariant in
    let l = looking c.loop-passed-test.true in
    let g = goes_on c.stretch-went.ensures c.in-Ok-went.is in (
      λ h. let all : c.min-passed.result ≡ c.in-Ok-went.taken.count = omega (arith, c.min-passed.ensures, h) in rw all (looking-on l g),
      laid-went laid space.room most g c.min-passed.ensures (those l g),
      omega (arith, c.min-passed.ensures),
      space,
    )

pub shape_of-work : goal.shape_of-work
shape_of-work c = c.loop-passed.invariant.1.long

pub returns : goal.returns
returns c =
    let (l, laid, most, space) = c.loop-passed.invariant in
    firsts-all laid (omega (arith, c.loop-passed-test.false))
