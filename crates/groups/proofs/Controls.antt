-- Fields, for every grouping: the lengths in them and the fields of lengths, each from the other. Assumes nothing.
use Prim.Native.Nat.{ℕ, zero, suc, ◌+◌, ◌-◌, ◌*◌, ◌/◌, ◌%◌, ◌^◌, ◌≤◌, ◌<◌}
use mathlib.Core.Path.{◌≡◌, refl, sym, ap, ap₂, ◌∙◌}
use mathlib.Core.List.{List, [], ◌∷◌, map}
use native.Mathlib.Nat.{pow-suc, div-div-eq-div-mul, div-eq_of_lt, mul_comm, mul_assoc, lt_of_lt_of_le, pow-le-pow_right}
use native.Mathlib.Omega.{arith}
use lib.ListN.{length, length-map}
use Rattle.meaning.specs.DataBytes.{byte_length}
use Rattle.meaning.specs.Groups.{Grouping, fours, batches, control_of, lengths_in, control}
use Rattle.words.proofs.DataBytes.{held}

-- a full group fills its control bytes; each length from 1 to 4 has a field of two bits, and each field such a length
pub record Fields (g : Grouping) : Type 0 where
  pub any : 0 < g.most
  pub full : g.most % 4 ≡ 0
  pub low : (l : ℕ) → 1 ≤ l → l ≤ 4 → g.field l < 4
  pub forth : (l : ℕ) → 1 ≤ l → l ≤ 4 → g.bytes (g.field l) ≡ l
  pub back : (f : ℕ) → f < 4 → g.field (g.bytes f) ≡ f
  pub some : (f : ℕ) → f < 4 → 1 ≤ g.bytes f
  pub few : (f : ℕ) → f < 4 → g.bytes f ≤ 4

-- the length minus one
pub fours-fields : Fields fours
fours-fields = omega arith

-- four minus the length
pub batches-fields : Fields batches
batches-fields = omega arith

-- the lengths that a field can say
abbrev pub Lengths : List ℕ → Type 0
Lengths [] = Unit {0}
Lengths (l ∷ ls) = (1 ≤ l) × (l ≤ 4) × Lengths ls

pub lengths-of : (xs : List ℕ) → Lengths (map byte_length xs)
lengths-of [] = tt
lengths-of (x ∷ xs) = ((held x).least, (held x).most, lengths-of xs)

pub quarter : (c k : ℕ) → c / 4 ^ suc k ≡ c / 4 / 4 ^ k
quarter c k = rw (pow-suc 4 k, mul_comm (4 ^ k) 4) (sym (div-div-eq-div-mul c 4 (4 ^ k)))

pub power-more : (k q : ℕ) → 4 ^ suc k * q ≡ 4 * (4 ^ k * q)
power-more k q = rw (pow-suc 4 k, mul_comm (4 ^ k) 4) (mul_assoc 4 (4 ^ k) q)

pub lengths-many : (g : Grouping) (k c : ℕ) → length (lengths_in g k c) ≡ k
unfolding lengths_in
lengths-many g zero c = refl
lengths-many g (suc k) c = ap suc (lengths-many g k (c / 4))

module _ {g : Grouping} (by : Fields g) where
  -- ---- lengths, their fields, and back
  pub control-lengths : (ls : List ℕ) → Lengths ls → lengths_in g (length ls) (control_of g ls) ≡ ls
  unfolding lengths_in control_of
  control-lengths [] h = refl
  control-lengths (l ∷ ls) h =
      let lt = by.low l h.0 h.1 in
      let low : (g.field l + 4 * control_of g ls) % 4 ≡ g.field l = omega arith in
      let high : (g.field l + 4 * control_of g ls) / 4 ≡ control_of g ls = omega arith in
      rw (low, high, by.forth l h.0 h.1, control-lengths ls h.2)

  pub control-small : (ls : List ℕ) → Lengths ls → control_of g ls < 4 ^ length ls
  unfolding control_of
  control-small [] h = omega arith
  control-small (l ∷ ls) h = rw (pow-suc 4 (length ls)) (omega (arith, by.low l h.0 h.1, control-small ls h.2))

  -- no field after the lengths is used
  pub control-unused : (ls : List ℕ) → Lengths ls → control_of g ls / 4 ^ length ls ≡ 0
  control-unused ls h = div-eq_of_lt (control-small ls h)

  -- ---- fields, their lengths, and back
  pub lengths-control : (k c : ℕ) → c / 4 ^ k ≡ 0 → control_of g (lengths_in g k c) ≡ c
  unfolding lengths_in control_of
  lengths-control zero c h = omega arith
  lengths-control (suc k) c h =
      let ih = lengths-control k (c / 4) (sym (quarter c k) ∙ h) in
      rw (ih, by.back (c % 4) (omega arith)) (omega arith)

  pub lengths-in : (k c : ℕ) → Lengths (lengths_in g k c)
  unfolding lengths_in
  lengths-in zero c = tt
  lengths-in (suc k) c = (by.some (c % 4) (omega arith), by.few (c % 4) (omega arith), lengths-in k (c / 4))

  -- ---- the fields of numbers
  pub control-in : (xs : List ℕ) → lengths_in g (length xs) (control g xs) ≡ map byte_length xs
  unfolding control
  control-in xs =
      ap (λ (k : ℕ). lengths_in g k (control_of g (map byte_length xs))) (sym (length-map xs byte_length))
      ∙ control-lengths (map byte_length xs) (lengths-of xs)

  pub control-none : (xs : List ℕ) → control g xs / 4 ^ length xs ≡ 0
  unfolding control
  control-none xs =
      ap (λ (k : ℕ). control_of g (map byte_length xs) / 4 ^ k) (sym (length-map xs byte_length)) ∙ control-unused (map byte_length xs) (lengths-of xs)

  -- those of four numbers at most are a byte
  pub control-byte : (xs : List ℕ) → length xs ≤ 4 → control g xs < 256
  unfolding control
  control-byte xs h =
      lt_of_lt_of_le (control-small (map byte_length xs) (lengths-of xs))
      (pow-le-pow_right {n = 4} (omega arith) {j = 4} (rw (length-map xs byte_length) h))

-- the first k fields are not touched by those after them
lengths-first : (g : Grouping) (k c q : ℕ) → lengths_in g k (c + 4 ^ k * q) ≡ lengths_in g k c
unfolding lengths_in
lengths-first g zero c q = refl
lengths-first g (suc k) c q =
    let e = power-more k q in
    let low : (c + 4 ^ suc k * q) % 4 ≡ c % 4 = omega arith in
    let high : (c + 4 ^ suc k * q) / 4 ≡ c / 4 + 4 ^ k * q = omega arith in
    rw (low, high, lengths-first g k (c / 4) q)

-- the first four are in the lowest byte
pub lengths-low : (g : Grouping) (c : ℕ) → lengths_in g 4 c ≡ lengths_in g 4 (c % 256)
lengths-low g c =
    let e : c ≡ c % 256 + 256 * (c / 256) = omega arith in
    ap (lengths_in g 4) e ∙ lengths-first g 4 (c % 256) (c / 256)

-- ---- a mask's fields are what a control byte's leave of 3
pub mask-of : (ls : List ℕ) → Lengths ls → control_of batches ls + control_of fours ls + 1 ≡ 4 ^ length ls
unfolding control_of
mask-of [] h = refl
mask-of (l ∷ ls) h = rw (pow-suc 4 (length ls)) (omega (arith, h.0, h.1, mask-of ls h.2))

-- so the one read by the other gives the same lengths
pub mask-lengths : (k c : ℕ) → c < 4 ^ k → lengths_in fours k (4 ^ k - 1 - c) ≡ lengths_in batches k c
mask-lengths k c h =
    let ls = lengths_in batches k c in
    let many = lengths-many batches k c in
    let few = lengths-in batches-fields k c in
    let e = lengths-control batches-fields k c (div-eq_of_lt h) in
    let is : control_of fours ls ≡ 4 ^ k - 1 - c = omega (arith, mask-of ls few, ap (λ (n : ℕ). 4 ^ n) many) in
    ap₂ (λ (n m : ℕ). lengths_in fours n m) (sym many) (sym is) ∙ control-lengths fours-fields ls few
