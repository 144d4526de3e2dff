-- The bytes up to the plan's end are put. Assumes nothing.
use Prim.Native.Nat.{ℕ}
use mathlib.Core.Path.{◌≡◌, sym, ap}
use mathlib.Core.List.{map}
use native.Mathlib.Omega.{arith}
use lib.ListN.{take, length-take}
use lib.Seq.{length-take-le}
use Rattle.meaning.specs.Plan.{plan_size, plan_of}
use Rattle.meaning.specs.Texts.{digits, unfilled}
use Rattle.texts.specs.Listing.{words}
use Rattle.texts.proofs.Plans.{plan-within}
use Rattle.leaves.proofs.Putting.{wrote_as}
use Rattle.texts.proofs.columns.put_plan.Goals as goal

pub slice_bounds-put_smalls-end : goal.slice_bounds-put_smalls-end
slice_bounds-put_smalls-end c =
    let (fits, long) = plan-within c.args.plan.now c.requires.0 in
    sym (length-take-le _ _ (omega (arith, fits, long, c.plan_end-end.ensures)))

pub put_smalls-requires : goal.put_smalls-requires
put_smalls-requires c =
    let (fits, long) = plan-within c.args.plan.now c.requires.0 in
    (rw length-take (omega (arith, long)), c.requires.1)

pub returns : goal.returns
unfolding unfilled plan_of
returns c =
    let plan = c.args.plan.now in
    let (fits, long) = plan-within plan c.requires.0 in
    let size : c.plan_end-end.result.byte ≡ plan_size (plan_of plan) = omega (arith, c.plan_end-end.ensures) in
    let few = length-take c.plan_end-end.result.byte plan in
    let is = ap (λ (n : ℕ). words (map digits (take n plan))) size in
    record { wrote = wrote_as is c.put_smalls.ensures.wrote; short = omega (arith, c.put_smalls.ensures.short, few, long); same = c.put_smalls.ensures.same }
