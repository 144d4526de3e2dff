-- How many zeros come first in a list of bits. Assumes nothing.
use mathlib.Core.Path.{◌≡◌, refl, sym, ap, ap₂, ◌∙◌}
use Prim.Native.Nat.{ℕ, zero, suc, ◌+◌, ◌^◌, ◌≤◌, ◌<◌}
use native.Mathlib.Nat.{div-eq_of_lt}
use native.Mathlib.Omega.{arith}
use mathlib.Core.List.{List, [], ◌∷◌, ◌++◌}
use lib.Count.{count_leading_zeros, leading_of_zero, leading_top}
use lib.ListN.{length, take, replicate}
use Rattle.meaning.specs.Bits.{bits_high, zeros_first}
use Rattle.meaning.specs.Places.{Below}
use Rattle.elias.specs.Padded.{padded}
use Rattle.elias.proofs.Length.{first_one}
use Rattle.elias.proofs.Numbers.{high-split, high-zeros}

pub zeros-then : (k : ℕ) (r : List ℕ) → zeros_first (replicate k 0 ++ (1 ∷ r)) ≡ k
unfolding zeros_first
zeros-then zero r = refl
zeros-then (suc k) r = ap suc (zeros-then k r)

-- the zeros, and what follows them: a one
pub record Led (l : List ℕ) : Type 0 where
  pub after : List ℕ
  pub is : l ≡ replicate (zeros_first l) 0 ++ (1 ∷ after)

pub led : (l : List ℕ) → Below 2 l → zeros_first l < length l → Led l
unfolding zeros_first
led [] h k = absurd (omega arith)
led (zero ∷ bs) h k =
    let d = led bs (λ i. h (suc i)) (omega arith) in
    record { after = d.after; is = ap (λ (l : List ℕ). 0 ∷ l) d.is }
led (suc b ∷ bs) h k =
    let e : suc b ≡ 1 = omega (arith, h 0) in
    record { after = bs; is = ap (λ (x : ℕ). x ∷ bs) e }

-- two lists that begin alike have as many zeros first, where what stands behind them is seen
pub zeros-agree : (n : ℕ) (k l : List ℕ) → padded n k ≡ padded n l → zeros_first k < n → zeros_first k < length k
    → (zeros_first l ≡ zeros_first k) × (zeros_first k < length l)
unfolding zeros_first padded
zeros-agree zero k l e h m = absurd (omega arith)
zeros-agree (suc n) [] l e h m = absurd (omega arith)
zeros-agree (suc n) (zero ∷ k) [] e h m =
    let t : padded n k ≡ padded n [] = cc in
    let r = zeros-agree n k [] t (omega arith) (omega arith) in
    absurd (omega arith)
zeros-agree (suc n) (zero ∷ k) (zero ∷ l) e h m =
    let t : padded n k ≡ padded n l = cc in
    let r = zeros-agree n k l t (omega arith) (omega arith) in
    (ap suc r.0, omega arith)
zeros-agree (suc n) (zero ∷ k) (suc b ∷ l) e h m = let z : ◌≡◌ {A = ℕ} 0 (suc b) = cc in absurd (omega arith)
zeros-agree (suc n) (suc a ∷ k) [] e h m = let z : ◌≡◌ {A = ℕ} (suc a) 0 = cc in absurd (omega arith)
zeros-agree (suc n) (suc a ∷ k) (zero ∷ l) e h m = let z : ◌≡◌ {A = ℕ} (suc a) 0 = cc in absurd (omega arith)
zeros-agree (suc n) (suc a ∷ k) (suc b ∷ l) e h m = (refl, omega arith)

-- the zeros themselves
pub zeros-are : (l : List ℕ) → take (zeros_first l) l ≡ replicate (zeros_first l) 0
unfolding zeros_first
zeros-are [] = refl
zeros-are (zero ∷ bs) = ap (λ (l : List ℕ). 0 ∷ l) (zeros-are bs)
zeros-are (suc b ∷ bs) = refl

pub zeros_within : (l : List ℕ) → zeros_first l ≤ length l
unfolding zeros_first
zeros_within [] = omega arith
zeros_within (zero ∷ bs) = omega (arith, zeros_within bs)
zeros_within (suc b ∷ bs) = omega arith

-- ---- with bits added
-- zeros that end at a one are as many
pub zeros-ended : (l more : List ℕ) → zeros_first l < length l → zeros_first (l ++ more) ≡ zeros_first l
unfolding zeros_first
zeros-ended [] more h = absurd (omega arith)
zeros-ended (zero ∷ bs) more h = ap suc (zeros-ended bs more (omega arith))
zeros-ended (suc b ∷ bs) more h = refl

-- none is lost
pub zeros-added : (l more : List ℕ) → zeros_first l ≤ zeros_first (l ++ more)
unfolding zeros_first
zeros-added [] more = omega arith
zeros-added (zero ∷ bs) more = omega (arith, zeros-added bs more)
zeros-added (suc b ∷ bs) more = omega arith

-- ---- the machine counts them
zeros-only : (n : ℕ) → zeros_first (replicate n 0) ≡ n
unfolding zeros_first
zeros-only zero = refl
zeros-only (suc n) = ap suc (zeros-only n)

zeros-high : (n z j s : ℕ) → n ≡ z + suc j → 2 ^ j ≤ s → s < 2 ^ suc j → zeros_first (bits_high n s) ≡ z
zeros-high n z j s e lo hi =
    ap (λ (k : ℕ). zeros_first (bits_high k s)) e
    ∙ ap zeros_first (high-split z (suc j) s ∙ ap₂ (λ (a b : List ℕ). a ++ b) (ap (bits_high z) (div-eq_of_lt hi) ∙ high-zeros z) (first_one j s lo hi))
    ∙ zeros-then z (bits_high j s)

pub zeros-leading : (s : ℕ) → s < 2 ^ 64 → zeros_first (bits_high 64 s) ≡ count_leading_zeros 64 s
zeros-leading zero h = ap zeros_first (high-zeros 64) ∙ zeros-only 64 ∙ sym (leading_of_zero 64)
zeros-leading (suc n) h =
    let (j, e, lo, hi) = leading_top 64 (suc n) (omega arith) h in
    zeros-high 64 (count_leading_zeros 64 (suc n)) j (suc n) (sym e) lo hi
