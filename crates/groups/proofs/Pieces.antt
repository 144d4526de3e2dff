-- A list in pieces, its control bytes, and what is written group by group, for every grouping. Assumes nothing.
use Prim.Native.Nat.{ℕ, zero, suc, ◌+◌, ◌*◌, ◌≤◌, ◌<◌, min}
use mathlib.Core.Path.{◌≡◌, refl, sym, ap, ap₂, ◌∙◌}
use mathlib.Core.List.{List, [], ◌∷◌, ◌++◌, append-nil, append_assoc}
use native.Mathlib.Omega.{arith}
use lib.ListN.{length, take, drop, drop_of_length-le, length-append, length-take, length-drop, take-append-drop}
use lib.Seq.{take_at, drop_at, take_all}
use Rattle.meaning.specs.Bytes.{bytes_of, number_of}
use Rattle.meaning.specs.DataBytes.{data_bytes}
use Rattle.meaning.specs.Groups.{Grouping, fours, pieces_from, pieces, group_count, control_of, control, controls, write_groups, write_stream}
use Rattle.meaning.specs.Lists.{joined}
use Rattle.meaning.specs.Places.{Below}
use Rattle.meaning.proofs.Bounds.{below-nil, below-cons, below-append}
use Rattle.meaning.proofs.Tests.{by_order}
use Rattle.words.proofs.Bytes.{bytes-number}
use Rattle.words.proofs.DataBytes.{data-append, data-small}
use Rattle.groups.proofs.Controls.{Fields, control-byte}

-- ---- pieces of a length
module _ (most : ℕ) (some : 0 < most) where
  -- any count that is large enough cuts the same
  enough : (f k : ℕ) (xs : List ℕ) → length xs ≤ f → length xs ≤ k → pieces_from f most xs ≡ pieces_from k most xs
  unfolding pieces_from
  enough zero zero xs hf hk = refl
  enough zero (suc k) [] hf hk = refl
  enough zero (suc k) (x ∷ xs) hf hk = absurd (omega arith)
  enough (suc f) zero [] hf hk = refl
  enough (suc f) zero (x ∷ xs) hf hk = absurd (omega arith)
  enough (suc f) (suc k) [] hf hk = refl
  enough (suc f) (suc k) (x ∷ xs) hf hk =
      let l = length-drop most (x ∷ xs) in
      ap (λ (ps : List (List ℕ)). take most (x ∷ xs) ∷ ps) (enough f k (drop most (x ∷ xs)) (omega arith) (omega arith))

  -- the first piece, and those of the rest: each is full but the last
  pub pieces-next : (xs : List ℕ) → 0 < length xs → pieces most xs ≡ take most xs ∷ pieces most (drop most xs)
  unfolding pieces pieces_from
  pieces-next [] h = absurd (omega arith)
  pieces-next (x ∷ xs) h =
      let l = length-drop most (x ∷ xs) in
      ap (λ (ps : List (List ℕ)). take most (x ∷ xs) ∷ ps)
      (enough (length xs) (length (drop most (x ∷ xs))) (drop most (x ∷ xs)) (omega arith) (omega arith))

  -- piece by piece
  cut : (P : List ℕ → Type 0) → P [] → ((xs : List ℕ) → 0 < length xs → P (drop most xs) → P xs) → (f : ℕ) (xs : List ℕ) → length xs ≤ f → P xs
  cut P none more zero [] h = none
  cut P none more zero (x ∷ xs) h = absurd (omega arith)
  cut P none more (suc f) [] h = none
  cut P none more (suc f) (x ∷ xs) h =
      more (x ∷ xs) (omega arith) (cut P none more f (drop most (x ∷ xs)) (omega (arith, length-drop most (x ∷ xs))))

  pub by-pieces : (P : List ℕ → Type 0) → P [] → ((xs : List ℕ) → 0 < length xs → P (drop most xs) → P xs) → (xs : List ℕ) → P xs
  by-pieces P none more xs = cut P none more (length xs) xs (omega arith)

pub none_left : (xs : List ℕ) → length xs ≡ 0 → xs ≡ []
none_left [] h = refl
none_left (x ∷ xs) h = absurd (omega arith)

-- a piece that is full, or after which nothing comes, is the first
pub first_piece : (most : ℕ) (ys zs : List ℕ) → length ys ≡ min most (length ys + length zs) → (take most (ys ++ zs) ≡ ys) × (drop most (ys ++ zs) ≡ zs)
first_piece most ys zs h =
    by_order (length ys) most
    (λ t. let z : zs ≡ [] = none_left zs (omega arith) in
    rw (z, append-nil) (take_all most ys (omega arith), drop_of_length-le ys {i = most} (omega arith)))
    (λ t. let f : length ys ≡ most = omega arith in (take_at ys zs most f, drop_at ys zs most f))

pub data-next : (most : ℕ) (xs : List ℕ) → data_bytes xs ≡ data_bytes (take most xs) ++ data_bytes (drop most xs)
data-next most xs = ap data_bytes (sym (take-append-drop most xs)) ∙ data-append (take most xs) (drop most xs)

-- ---- control bytes, one for every four numbers
pub controls-next : (g : Grouping) (xs : List ℕ) → 0 < length xs → controls g xs ≡ control g (take 4 xs) ∷ controls g (drop 4 xs)
unfolding controls
controls-next g xs h = rw (pieces-next 4 (omega arith) xs h)

pub controls-none : (g : Grouping) → controls g [] ≡ []
unfolding controls pieces pieces_from
controls-none g = refl

-- those of the first four numbers, and of the rest
pub controls-split : (g : Grouping) (xs : List ℕ) → controls g xs ≡ controls g (take 4 xs) ++ controls g (drop 4 xs)
unfolding controls pieces pieces_from
controls-split g [] = refl
controls-split g (a ∷ []) = refl
controls-split g (a ∷ b ∷ []) = refl
controls-split g (a ∷ b ∷ c ∷ []) = refl
controls-split g (a ∷ b ∷ c ∷ d ∷ xs) = controls-next g (a ∷ b ∷ c ∷ d ∷ xs) (omega arith)

pub controls-count : (g : Grouping) (xs : List ℕ) → length (controls g xs) ≡ group_count (length xs)
unfolding group_count
controls-count g =
    by-pieces 4 (omega arith) (λ (xs : List ℕ). length (controls g xs) ≡ group_count (length xs))
    (ap length (controls-none g))
    (λ xs h ih. ap length (controls-next g xs h) ∙ omega (arith, ih, length-drop 4 xs))

-- the fields of the first four numbers stand in the lowest byte
control-four : (g : Grouping) (xs : List ℕ) → control g xs ≡ control g (take 4 xs) + 256 * control g (drop 4 xs)
unfolding control control_of
control-four g [] = refl
control-four g (a ∷ []) = omega arith
control-four g (a ∷ b ∷ []) = omega arith
control-four g (a ∷ b ∷ c ∷ []) = omega arith
control-four g (a ∷ b ∷ c ∷ d ∷ xs) = omega arith

number-none : (g : Grouping) → number_of (controls g []) ≡ control g []
unfolding controls pieces pieces_from control control_of number_of
number-none g = refl

-- so all of them are one number, least significant byte first
pub controls-number : (g : Grouping) (xs : List ℕ) → number_of (controls g xs) ≡ control g xs
unfolding number_of
controls-number g =
    by-pieces 4 (omega arith) (λ (xs : List ℕ). number_of (controls g xs) ≡ control g xs)
    (number-none g)
    (λ xs h ih. ap number_of (controls-next g xs h) ∙ omega (arith, ih, control-four g xs))

module _ {g : Grouping} (by : Fields g) where
  pub controls-small : (xs : List ℕ) → Below 256 (controls g xs)
  controls-small =
      by-pieces 4 (omega arith) (λ (xs : List ℕ). Below 256 (controls g xs))
      (rw (controls-none g) (below-nil 256 (omega arith)))
      (λ xs h ih. rw (controls-next g xs h)
      (below-cons 256 (control g (take 4 xs)) (controls g (drop 4 xs)) (control-byte by (take 4 xs) (omega (arith, length-take 4 xs))) ih))

  -- those of a list are its fields as one number, in so many bytes
  pub controls-bytes : (xs : List ℕ) → bytes_of (group_count (length xs)) (control g xs) ≡ controls g xs
  controls-bytes xs = ap₂ bytes_of (sym (controls-count g xs)) (sym (controls-number g xs)) ∙ bytes-number (controls g xs) (controls-small xs)

  -- bytes that are the fields of a list as one number are its control bytes
  pub controls-back : (bs xs : List ℕ) → Below 256 bs → length bs ≡ group_count (length xs) → number_of bs ≡ control g xs → bs ≡ controls g xs
  controls-back bs xs low many is = sym (bytes-number bs low) ∙ ap₂ bytes_of many is ∙ controls-bytes xs

  -- ---- what is written, group by group
  pub groups-next : (xs : List ℕ) → 0 < length xs
      → write_groups g xs ≡ controls g (take g.most xs) ++ (data_bytes (take g.most xs) ++ write_groups g (drop g.most xs))
  unfolding write_groups joined
  groups-next xs h = rw (pieces-next g.most by.any xs h) (append_assoc (controls g (take g.most xs)) (data_bytes (take g.most xs)) _)

  pub groups_none : write_groups g [] ≡ []
  unfolding write_groups joined pieces pieces_from
  groups_none = refl

  pub groups-small : (xs : List ℕ) → Below 256 (write_groups g xs)
  groups-small =
      by-pieces g.most by.any (λ (xs : List ℕ). Below 256 (write_groups g xs))
      (rw groups_none (below-nil 256 (omega arith)))
      (λ xs h ih. let ys = take g.most xs in
      rw (groups-next xs h)
      (below-append 256 (controls g ys) (data_bytes ys ++ write_groups g (drop g.most xs)) (controls-small ys)
      (below-append 256 (data_bytes ys) (write_groups g (drop g.most xs)) (data-small ys) ih)))

  -- a control byte for every four numbers, and the data: a full group leaves no field unused
  groups-more : (xs : List ℕ) → 0 < length xs
      → length (write_groups g (drop g.most xs)) ≡ group_count (length (drop g.most xs)) + length (data_bytes (drop g.most xs))
      → length (write_groups g xs) ≡ group_count (length xs) + length (data_bytes xs)
  unfolding group_count
  groups-more xs h ih =
      let ys = take g.most xs in
      let zs = drop g.most xs in
      let w = ap length (groups-next xs h) ∙ length-append (controls g ys) (data_bytes ys ++ write_groups g zs) in
      let v = length-append (data_bytes ys) (write_groups g zs) in
      let f = ap length (data-next g.most xs) ∙ length-append (data_bytes ys) (data_bytes zs) in
      let m = controls-count g ys in
      let t = length-take g.most xs in
      let d = length-drop g.most xs in
      let full = by.full in
      omega arith

  pub groups-size : (xs : List ℕ) → length (write_groups g xs) ≡ group_count (length xs) + length (data_bytes xs)
  unfolding group_count data_bytes joined
  groups-size =
      by-pieces g.most by.any (λ (xs : List ℕ). length (write_groups g xs) ≡ group_count (length xs) + length (data_bytes xs))
      (ap length groups_none) groups-more

pub stream-size : (xs : List ℕ) → length (write_stream xs) ≡ group_count (length xs) + length (data_bytes xs)
unfolding write_stream
stream-size xs = length-append (controls fours xs) (data_bytes xs) ∙ ap (λ (n : ℕ). n + length (data_bytes xs)) (controls-count fours xs)
