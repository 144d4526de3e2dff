-- Numbers of one byte each, eight at a time: a byte of eight ones ends a number with each of eight data bytes. Assumes nothing.
use Prim.Native.Nat.{ℕ, zero, suc, ◌+◌, ◌-◌, ◌/◌, ◌%◌, ◌^◌, ◌≤◌, ◌<◌, min}
use mathlib.Core.Path.{◌≡◌, refl, sym, ap, ◌∙◌}
use mathlib.Core.List.{List, []}
use native.Mathlib.Nat.{add-zero}
use native.Mathlib.Omega.{arith}
use lib.ListN.{length, get_or, set, drop}
use lib.Seq.{sets, drop-cons}
use Rattle.std.specs.Prelude.{Ok}
use Rattle.meaning.specs.Answer.{given}
use Rattle.meaning.specs.Bits.{zeros_first}
use Rattle.meaning.specs.Codes.{code_direct}
use Rattle.meaning.specs.Direct.{flag_bytes, sum_count, sums_at, data_at, flags}
use Rattle.meaning.specs.Places.{Below, Target, Ends, part}
use Rattle.meaning.specs.declared.Position.{Position}
use Rattle.meaning.specs.declared.Taken.{Taken}
use Rattle.meaning.proofs.Codes.{spare-always}
use Rattle.meaning.proofs.Stores.{sets-snoc}
use Rattle.meaning.proofs.Taking.{took-none}
use Rattle.leaves.proofs.Parts.{part_length, part-snoc}
use Rattle.words.proofs.Straight.{number-1, fewest-1}
use Rattle.direct.specs.Parts.{Fit, next_in, Begun}
use Rattle.direct.proofs.Fits.{standing, data-few, flags_long, flag-get}
use Rattle.direct.proofs.Nexts.{in-given, next-given, Taking, taking-start, taking-turn}
use Rattle.direct.proofs.Zeros.{no_zero}

-- ---- elements stored one by one
pub stored_next : (list : List ℕ) (from : ℕ) (out : List ℕ) (to k : ℕ) → from + k < length list
    → set (sets out to (part list from k)) (to + k) (get_or list (from + k) 0) ≡ sets out to (part list from (k + 1))
stored_next list from out to k h =
    let n : length (part list from k) ≡ k = part_length list from k (omega arith) in
    rw (part-snoc list from k h) (rw n at (sets-snoc (part list from k) (get_or list (from + k) 0) out to))

-- ---- eight ones
each-one : (k : ℕ) → k < 8 → 255 / 2 ^ k % 2 ≡ 1
each-one zero h = refl
each-one (suc zero) h = refl
each-one (suc (suc zero)) h = refl
each-one (suc (suc (suc zero))) h = refl
each-one (suc (suc (suc (suc zero)))) h = refl
each-one (suc (suc (suc (suc (suc zero))))) h = refl
each-one (suc (suc (suc (suc (suc (suc zero)))))) h = refl
each-one (suc (suc (suc (suc (suc (suc (suc zero))))))) h = refl
each-one (suc (suc (suc (suc (suc (suc (suc (suc k)))))))) h = absurd (omega arith)

module _ {body : List ℕ} {d : ℕ} (fit : Fit body d) (bound : Below 256 body) (b : ℕ) (whole : b % 8 ≡ 0) (inside : b + 8 ≤ d)
    (full : get_or body (4 + b / 8) 0 ≡ 255) where
  pub eight-inside : data_at d + b + 8 ≤ length body
  unfolding data_at sums_at flag_bytes sum_count
  eight-inside = omega (arith, (standing fit).ends)

  module _ (k : ℕ) (few : k < 8) where
    one-flag : get_or (flags body) (b + k) 0 ≡ 1
    one-flag =
        let q : (b + k) / 8 ≡ b / 8 = omega arith in
        let r : (b + k) % 8 ≡ k = omega arith in
        flag-get fit (b + k) (omega arith) ∙ rw (q, r, full) (each-one k few)

    no-zeros : zeros_first (drop (b + k) (flags body)) ≡ 0
    no-zeros =
        ap zeros_first (drop-cons (flags body) (b + k) 0 (omega (arith, flags_long fit)))
        ∙ no_zero (get_or (flags body) (b + k) 0) (drop (suc (b + k)) (flags body)) (rw one-flag refl)

    one-next : given (get_or body (data_at d + (b + k)) 0, b + k + 1) ≡ next_in body (b + k)
    one-next =
        let x = get_or body (data_at d + (b + k)) 0 in
        let z = no-zeros in
        let is : x ≡ _ = sym (number-1 body (data_at d + (b + k)) (omega (arith, eight-inside))) in
        let short = (fewest-1 [] 0 x (bound (data_at d + (b + k)))).0 in
        next-given fit (b + k) {len = 1} (omega arith) (omega arith) (Ok x)
        (in-given fit (b + k) 1 (omega arith) is (omega arith)) refl

  module _ {left : ℕ} {at : Position} {w₀ : List ℕ} {from most : ℕ} {w : List ℕ} {n : ℕ} (t : Taking body d left at w₀ from most w n b)
      (room : n + 8 ≤ most) where
    next_one : (k : ℕ) → k < 8 → Taking body d left at w₀ from most (sets w (from + n) (part body (data_at d + b) k)) (n + k) (b + k)
        → Taking body d left at w₀ from most (sets w (from + n) (part body (data_at d + b) (k + 1))) (n + (k + 1)) (b + (k + 1))
    next_one k few s =
        let x = get_or body (data_at d + (b + k)) 0 in
        let there : data_at d + (b + k) ≡ data_at d + b + k = omega arith in
        let place : from + (n + k) ≡ from + n + k = omega arith in
        let i : n + k + 1 ≡ n + (k + 1) = omega arith in
        let j : b + k + 1 ≡ b + (k + 1) = omega arith in
        let stored : set (sets w (from + n) (part body (data_at d + b) k)) (from + (n + k)) x ≡ sets w (from + n) (part body (data_at d + b) (k + 1)) =
        rw (there, place) (stored_next body (data_at d + b) w (from + n) k (omega (arith, eight-inside))) in
        rw (stored, i, j) at (taking-turn s (omega arith) (Ok (record { number = x; end = record { index = b + k + 1 } })) (one-next k few) refl)

    none_yet : Taking body d left at w₀ from most (sets w (from + n) (part body (data_at d + b) 0)) (n + 0) (b + 0)
    none_yet = rw (add-zero n, add-zero b) t

    four-taken : Taking body d left at w₀ from most (sets w (from + n) (part body (data_at d + b) 4)) (n + 4) (b + 4)
    four-taken = next_one 3 (omega arith) (next_one 2 (omega arith) (next_one 1 (omega arith) (next_one 0 (omega arith) none_yet)))

    pub eight-taken : Taking body d left at w₀ from most (sets w (from + n) (part body (data_at d + b) 8)) (n + 8) (b + 8)
    eight-taken = next_one 7 (omega arith) (next_one 6 (omega arith) (next_one 5 (omega arith) (next_one 4 (omega arith) four-taken)))

-- ---- the loop: n numbers have been taken, at most `limit`, which are all within the data, and the next begins with data byte b
pub record OnesSo (body : List ℕ) (d left : ℕ) (at : Position) (w₀ : List ℕ) (from begin limit most : ℕ) (w : List ℕ) (n b : ℕ) : Type 0 where
  pub taking : Taking body d left at w₀ from most w n b
  pub bound : Below 256 body
  pub begins : begin ≡ data_at d
  pub near : limit - n ≤ d - b
  pub within : limit ≤ most
  pub reach : n ≤ limit
  pub short : limit < 2 ^ 32
  pub whole : b % 8 ≡ 0
  pub few : d < 2 ^ 32

pub ones-start : {body : List ℕ} {d left : ℕ} {at : Position} {w₀ : List ℕ} {from begin limit most room : ℕ} → Fit body d → Below 256 body
    → Target body w₀ from room → most ≡ min left room → begin ≡ data_at d → {rest : ℕ} → rest ≡ d - at.bit.index → limit ≡ min most rest
    → at.bit.index % 8 ≡ 0 → OnesSo body d left at w₀ from begin limit most w₀ 0 at.bit.index
ones-start fit bound t m begins p l whole =
    record {
      taking = taking-start fit t m;
      bound = bound;
      begins = begins;
      near = omega arith;
      within = omega arith;
      reach = omega arith;
      short = omega (arith, data-few fit bound);
      whole = whole;
      few = data-few fit bound;
    }

module _ {body : List ℕ} {d left : ℕ} {at : Position} {w₀ : List ℕ} {from begin limit most : ℕ} {w : List ℕ} {n b : ℕ}
    (so : OnesSo body d left at w₀ from begin limit most w n b) where
  pub ones-few : n < 2 ^ 32
  ones-few = omega (arith, so.reach, so.short)

  module _ (more : n + 8 ≤ limit) where
    pub ones-near : b + 8 ≤ d
    ones-near = omega (arith, so.near)

    pub ones-byte : 4 + b / 8 < length body
    ones-byte = omega (arith, ones-near, (standing so.taking.fit).ends)

    pub ones-far : begin + b + 8 < 2 ^ 63
    unfolding data_at sums_at flag_bytes sum_count
    ones-far = omega (arith, ones-near, so.begins, so.few)

    pub ones-room : from + n + 8 ≤ length w
    ones-room = omega (arith, so.within, so.taking.inside, so.taking.long)

    module _ (full : get_or body (4 + b / 8) 0 ≡ 255) where
      pub ones-inside : begin + b + 8 ≤ length body
      ones-inside = rw so.begins (eight-inside so.taking.fit so.bound b so.whole ones-near full)

      pub ones-turn : {w' : List ℕ} → w' ≡ sets w (from + n) (part body (begin + b) 8)
          → OnesSo body d left at w₀ from begin limit most w' (n + 8) (b + 8)
      ones-turn e =
          record {
            taking = rw (e, so.begins) (eight-taken so.taking.fit so.bound b so.whole ones-near full so.taking (omega (arith, so.within)));
            bound = so.bound;
            begins = so.begins;
            near = omega (arith, so.near);
            within = so.within;
            reach = omega arith;
            short = so.short;
            whole = omega (arith, so.whole);
            few = so.few;
          }

-- none is taken
pub ones_none : {body : List ℕ} {left : ℕ} {at : Position} {room from : ℕ} {w : List ℕ} {r : Taken} → Ends at 0 0 0 at r → Begun body left at room from w w r
ones_none {body} {left} {at} {room} {from} {w} {r} ends =
    record {
      took = took-none code_direct body left at room from w (spare-always []) r ends;
      ends = record {
        counted = refl;
        passed = ends.passed ∙ sym ends.counted;
        leaves = ends.leaves;
        stays = λ z. ends.stays refl;
        goes = λ h. absurd (omega (arith, ends.counted));
      };
    }
