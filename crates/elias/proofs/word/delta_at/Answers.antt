-- `delta_at` meets its contract: by what a length in gamma is, and what follows it. Assumes nothing.
use Prim.Native.Nat.{ℕ, ◌+◌, ◌-◌, ◌*◌, ◌%◌, ◌^◌, ◌≤◌, ◌<◌}
use mathlib.Core.Path.{◌≡◌, sym, ap, ◌∙◌}
use mathlib.Core.List.{List}
use native.Mathlib.Omega.{arith}
use lib.ListN.{length, drop, take, length-drop}
use Rattle.std.proofs.lemmas.Result.{err_from_is_err_and}
use Rattle.meaning.specs.Answer.{given}
use Rattle.meaning.specs.Bits.{bits_high, bits_of, number_high}
use Rattle.meaning.specs.Elias.{gamma_in}
use Rattle.meaning.proofs.Bounds.{below-drop}
use Rattle.elias.specs.Padded.{padded}
use Rattle.elias.proofs.Gamma.{gamma-back, gamma-size}
use Rattle.elias.proofs.Pack.{bits_left, bits_below}
use Rattle.elias.proofs.Seen.{delta-refused, delta-short, delta-value, shifted-list, one-before, one-before-fits}
use Rattle.elias.proofs.word.delta_at.Goals as goal

-- the length that was read in gamma, how many bits it takes, and how many there are
record Bounds (body : List ℕ) (p long size : ℕ) : Type 0 where
  pub some : 0 < long
  pub few : long ≤ 33
  pub short : size ≤ 11
  pub within : size ≤ 8 * length body - p
  pub rest : length (drop size (drop p (bits_of body))) ≡ 8 * length body - p - size

bounds : (body : List ℕ) (p : ℕ) {long size : ℕ} → given (long, size) ≡ gamma_in 5 33 (drop p (bits_of body)) → Bounds body p long size
bounds body p {long} {size} e =
    let bits = drop p (bits_of body) in
    let b = gamma-back 5 33 bits (long, size) (omega arith) (below-drop 2 p (bits_of body) (bits_below body)) (sym e) in
    let left = bits_left p body in
    record {
      some = b.some;
      few = b.few;
      short = gamma-size 5 33 bits (long, size) (sym e);
      within = omega (arith, b.within);
      rest = omega (arith, length-drop size bits);
    }

-- the rest is seen behind it
rest-is : (body : List ℕ) (p s : ℕ) {long size v : ℕ} → Bounds body p long size → size + (long - 1) ≤ 8 * length body - p
    → take 57 (bits_high 64 s) ≡ padded 57 (drop p (bits_of body)) → v ≡ number_high 0 (take (long - 1) (bits_high 64 ((s * 2 ^ size) % 2 ^ 64)))
    → v ≡ number_high 0 (take (long - 1) (drop size (drop p (bits_of body))))
rest-is body p s {long} {size} b h seen e =
    e ∙ ap (number_high 0) (shifted-list s size (long - 1) (drop p (bits_of body)) (omega (arith, b.few, b.short)) (omega (arith, bits_left p body)) seen)

pub returns-in_err-long : goal.returns-in_err-long
returns-in_err-long g c =
    let p = err_from_is_err_and c.from_residual.result c.from_residual.ensures.1 in
    rw (p.1, p.2) (delta-refused (drop c.args.at.index (bits_of c.args.body.now)) _ (sym c.in_err-long.ensures))

pub overflow_sub-rest : goal.overflow_sub-rest
overflow_sub-rest g c = (bounds c.args.body.now c.args.at.index c.in_ok-long.ensures).some

pub overflow_add-size : goal.overflow_add-size
overflow_add-size g c = let b = bounds c.args.body.now c.args.at.index c.in_ok-long.ensures in record { fits = omega arith }

pub is_short-requires : goal.is_short-requires
is_short-requires g c i =
    let b = bounds c.args.body.now c.args.at.index c.in_ok-long.ensures in
    let far = c.requires.1 i in
    omega arith

pub returns-then-is_short : goal.returns-then-is_short
returns-then-is_short g c =
    let w = c.in_ok-long.long in
    let b = bounds c.args.body.now c.args.at.index c.in_ok-long.ensures in
    delta-short (drop c.args.at.index (bits_of c.args.body.now)) w.value w.size (sym c.in_ok-long.ensures) (omega (arith, b.rest))

pub overflow_shl-behind : goal.overflow_shl-behind
overflow_shl-behind g c = let b = bounds c.args.body.now c.args.at.index c.in_ok-long.ensures in omega arith

pub overflow_shl-rest : goal.overflow_shl-rest
overflow_shl-rest g c = let b = bounds c.args.body.now c.args.at.index c.in_ok-long.ensures in omega arith

pub top-requires : goal.top-requires
top-requires g c = let b = bounds c.args.body.now c.args.at.index c.in_ok-long.ensures in omega arith

pub overflow_add-rest : goal.overflow_add-rest
overflow_add-rest g c =
    let body = c.args.body.now in
    let p = c.args.at.index in
    let w = c.in_ok-long.long in
    let b = bounds body p c.in_ok-long.ensures in
    record {
      fits = one-before-fits (w.value - 1) c.top.result (drop w.size (drop p (bits_of body))) (omega (arith, b.few)) (omega (arith, b.rest))
          (rest-is body p c.peek.result b (omega arith) c.peek.ensures c.top.ensures)
          (below-drop 2 w.size (drop p (bits_of body)) (below-drop 2 p (bits_of body) (bits_below body)));
    }

pub returns : goal.returns
returns g c =
    let body = c.args.body.now in
    let p = c.args.at.index in
    let w = c.in_ok-long.long in
    let bits : List ℕ = drop p (bits_of body) in
    let b = bounds body p c.in_ok-long.ensures in
    let there : w.value - 1 ≤ length (drop w.size bits) = omega (arith, b.rest) in
    c.within.ensures ∙ delta-value bits w.value w.size (sym c.in_ok-long.ensures) _ there
    (one-before (w.value - 1) c.top.result (drop w.size bits) (omega (arith, b.few)) there
    (rest-is body p c.peek.result b (omega arith) c.peek.ensures c.top.ensures))
