-- `look` meets its contract: the stretch by the sums, the bit by the words that hold the stretch. Assumes nothing.
use mathlib.Core.Path.{◌∙◌}
use native.Mathlib.Omega.{arith}
use Rattle.direct.proofs.Fits.{standing}
use Rattle.direct.proofs.Looks.{stretch-within, look_none, found-few, look-behind, look-here}
use Rattle.direct.proofs.input.Parts.look.Goals as goal

pub overflow_mul-first : goal.overflow_mul-first
overflow_mul-first c = omega (arith, stretch-within c.args.self.now.fit c.stretch_of-stretch.ensures)

pub overflow_sub-d : goal.overflow_sub-d
overflow_sub-d c = omega (arith, stretch-within c.args.self.now.fit c.stretch_of-stretch.ensures)

pub overflow_mul-byte : goal.overflow_mul-byte
overflow_mul-byte c = omega (arith, stretch-within c.args.self.now.fit c.stretch_of-stretch.ensures)

pub overflow_add-byte : goal.overflow_add-byte
overflow_add-byte c = omega (arith, stretch-within c.args.self.now.fit c.stretch_of-stretch.ensures)

pub one_in-requires : goal.one_in-requires
one_in-requires c =
    let within = stretch-within c.args.self.now.fit c.stretch_of-stretch.ensures in
    omega (arith, within, c.min.ensures, c.div_ceil-words.ensures, (standing c.args.self.now.fit).ends, c.requires)

pub returns-in_default : goal.returns-in_default
returns-in_default c =
    look_none c.args.self.now.fit c.stretch_of-stretch.ensures c.min.ensures c.div_ceil-words.ensures
    _ c.one_in.ensures c.in_default.is

pub overflow_add-index : goal.overflow_add-index
overflow_add-index c =
    let few = found-few c.args.self.now.fit c.stretch_of-stretch.ensures c.min.ensures c.div_ceil-words.ensures
    _ c.one_in.ensures c.in-Ok.is in
    omega (
      arith,
      few,
      c.min.ensures,
      c.div_ceil-words.ensures,
      stretch-within c.args.self.now.fit c.stretch_of-stretch.ensures,
      (standing c.args.self.now.fit).ends,
      c.requires,
    )

pub returns-then-d-index : goal.returns-then-d-index
returns-then-d-index c =
    look-behind c.args.self.now.fit c.stretch_of-stretch.ensures c.min.ensures c.div_ceil-words.ensures
    _ c.one_in.ensures c.in-Ok.is c.if-d-index.true

pub returns : goal.returns
returns c =
    c.ending_at.ensures
    ∙ look-here c.args.self.now.fit c.stretch_of-stretch.ensures c.min.ensures c.div_ceil-words.ensures
    _ c.one_in.ensures c.in-Ok.is c.if-d-index.false
