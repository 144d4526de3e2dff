-- Loops that make a list of another, number by number, behind it or in its place: what is still to be stored, stored from here, is the whole.
-- Assumes nothing.
use Prim.Native.Nat.{ℕ, suc, ◌+◌, ◌-◌, ◌≤◌, ◌<◌}
use mathlib.Core.Path.{◌≡◌, refl, sym, ap, ap₂, ◌∙◌, subst}
use mathlib.Core.List.{List, [], ◌∷◌, map}
use native.Mathlib.Numerals.{add-one}
use native.Mathlib.Omega.{arith}
use lib.ListN.{length, get_or, take, drop, set, length-take}
use lib.Seq.{sets, take_all, drop-cons}
use borrow.Author.Tests.{lt-ltb, le-ltb}
use Rattle.std.proofs.lemmas.List.{get_or-map}
use Rattle.meaning.specs.Limits.{number_limit}
use Rattle.meaning.specs.Places.{part}
use Rattle.meaning.specs.Stages.{less_before, sums_from}
use Rattle.meaning.proofs.Stores.{get_d_sets, get_d_past}
use Rattle.leaves.proofs.Parts.{part_length}
use Rattle.stages.specs.Firsts.{first_small, Stored}
use Rattle.stages.proofs.Parts.{part_at, part_end, stored_next}

-- each number x becomes f s x, where s is a state that x takes to g s x
pub record Scan (F : ℕ → List ℕ → List ℕ) (f g : ℕ → ℕ → ℕ) : Type 0 where
  pub none : (s : ℕ) → F s [] ≡ []
  pub next : (s x : ℕ) (xs : List ℕ) → F s (x ∷ xs) ≡ f s x ∷ F (g s x) xs

-- ---- the four: a list less m, its differences, a list raised by m, its sums
abbrev pub less_by : ℕ → List ℕ → List ℕ
less_by m xs = map (λ (x : ℕ). x - m) xs

abbrev pub raised_by : ℕ → List ℕ → List ℕ
raised_by m xs = map (λ (x : ℕ). m + x) xs

pub less-scan : Scan less_by (λ m x. x - m) (λ m x. m)
less-scan = record { none = λ m. refl; next = λ m x xs. refl }

pub raise-scan : Scan raised_by (λ m x. m + x) (λ m x. m)
raise-scan = record { none = λ m. refl; next = λ m x xs. refl }

pub gaps-scan : Scan less_before (λ s x. x - s) (λ s x. x)
unfolding less_before
gaps-scan = record { none = λ s. refl; next = λ s x xs. refl }

pub sums-scan : Scan sums_from (λ s x. s + x) (λ s x. s + x)
unfolding sums_from
sums-scan = record { none = λ s. refl; next = λ s x xs. refl }

pub scan-length : (F : ℕ → List ℕ → List ℕ) (f g : ℕ → ℕ → ℕ) → Scan F f g → (s : ℕ) (xs : List ℕ) → length (F s xs) ≡ length xs
scan-length F f g is s [] = ap length (is.none s)
scan-length F f g is s (x ∷ xs) = ap length (is.next s x xs) ∙ ap suc (scan-length F f g is (g s x) xs)

pub raised_at : (m : ℕ) (xs : List ℕ) (i : ℕ) → i < length xs → m + get_or xs i 0 ≡ get_or (raised_by m xs) i 0
raised_at m xs i h = sym (get_or-map (λ (x : ℕ). m + x) xs i 0 0 h)

-- ---- the loop: the list of n numbers stands from `from` on, what is made of it from b on; i numbers have been taken, the last led to the state s
pub record Scanning (F : ℕ → List ℕ → List ℕ) (w₀ : List ℕ) (b from n s₀ : ℕ) (w : List ℕ) (s i : ℕ) : Type 0 where
  pub room : from + n ≤ length w₀
  pub most : i ≤ n
  pub here : w ≡ sets w₀ b (take i (F s₀ (part w₀ from n)))
  pub rest : drop i (F s₀ (part w₀ from n)) ≡ F s (drop i (part w₀ from n))

module _ {F : ℕ → List ℕ → List ℕ} {f g : ℕ → ℕ → ℕ} (is : Scan F f g) {w₀ : List ℕ} {b from n s₀ : ℕ} where
  module _ {w : List ℕ} {s i : ℕ} (so : Scanning F w₀ b from n s₀ w s i) where
    abbrev all_made : List ℕ
    all_made = F s₀ (part w₀ from n)

    made-long : length all_made ≡ n
    made-long = scan-length F f g is s₀ (part w₀ from n) ∙ part_length w₀ from n so.room

    -- the number at place i is what it was
    module _ (h : i < n) (same : get_or w (from + i) 0 ≡ get_or w₀ (from + i) 0) where
      next-made : F s (drop i (part w₀ from n)) ≡ f s (get_or w (from + i) 0) ∷ F (g s (get_or w (from + i) 0)) (drop (i + 1) (part w₀ from n))
      next-made =
          ap (F s) (part_at w₀ from n so.room i h ∙ ap (λ (x : ℕ). x ∷ drop (i + 1) (part w₀ from n)) (sym same))
          ∙ is.next s (get_or w (from + i) 0) (drop (i + 1) (part w₀ from n))

      scanning-turn : (y : ℕ) → y ≡ f s (get_or w (from + i) 0) → Scanning F w₀ b from n s₀ (set w (b + i) y) (g s (get_or w (from + i) 0)) (i + 1)
      scanning-turn y e =
          let zs = F (g s (get_or w (from + i) 0)) (drop (i + 1) (part w₀ from n)) in
          let below : i < length all_made = omega (arith, made-long) in
          let split : get_or all_made i 0 ∷ drop (suc i) all_made ≡ f s (get_or w (from + i) 0) ∷ zs =
          sym (drop-cons all_made i 0 below) ∙ so.rest ∙ next-made in
          let here : get_or all_made i 0 ≡ y = cc in
          let after : drop (suc i) all_made ≡ zs = cc in
          record {
            room = so.room;
            most = omega arith;
            here = ap₂ (λ (l : List ℕ) (x : ℕ). set l (b + i) x) so.here (sym here) ∙ stored_next all_made w₀ b i below;
            rest = ap (λ (k : ℕ). drop k all_made) (add-one i) ∙ after;
          }

    -- all has been taken: the whole is stored
    pub scanning-end : n ≤ i → w ≡ sets w₀ b all_made
    scanning-end h = so.here ∙ ap (sets w₀ b) (take_all i all_made (omega (arith, made-long)))

-- what is made stands behind the list
module _ {F : ℕ → List ℕ → List ℕ} {f g : ℕ → ℕ → ℕ} (is : Scan F f g) {w₀ : List ℕ} {from n s₀ : ℕ} {w : List ℕ} {s i : ℕ}
    (so : Scanning F w₀ (from + n) from n s₀ w s i) where
  pub behind-turn : i < n → {y : ℕ} → y ≡ f s (get_or w (from + i) 0)
      → Scanning F w₀ (from + n) from n s₀ (set w (from + n + i) y) (g s (get_or w (from + i) 0)) (i + 1)
  behind-turn h {y} e =
      let made = take i (F s₀ (part w₀ from n)) in
      let same : get_or w (from + i) 0 ≡ get_or w₀ (from + i) 0
      = ap (λ (l : List ℕ). get_or l (from + i) 0) so.here ∙ get_d_sets made w₀ (from + i) (from + n) 0 (omega arith) in
      scanning-turn is so h same y e

-- ---- the same in the list's own place, up to the first number that is too large
pub record Tested (F : ℕ → List ℕ → List ℕ) (w₀ : List ℕ) (from n s₀ : ℕ) (w : List ℕ) (s i : ℕ) : Type 0 where
  pub scan : Scanning F w₀ from from n s₀ w s i
  pub many : first_small (F s₀ (part w₀ from n)) ≡ i + first_small (F s (drop i (part w₀ from n)))

module _ {F : ℕ → List ℕ → List ℕ} {f g : ℕ → ℕ → ℕ} (is : Scan F f g) {w₀ : List ℕ} {from n s₀ : ℕ} where
  module _ {w : List ℕ} {s i : ℕ} (so : Tested F w₀ from n s₀ w s i) where
    same_here : get_or w (from + i) 0 ≡ get_or w₀ (from + i) 0
    same_here =
        let made = take i (F s₀ (part w₀ from n)) in
        ap (λ (l : List ℕ). get_or l (from + i) 0) so.scan.here ∙ get_d_past made w₀ from (from + i) 0 (omega (arith, length-take i (F s₀ (part w₀ from n))))

    pub tested-turn : i < n → f s (get_or w (from + i) 0) < number_limit → {y t : ℕ} → y ≡ f s (get_or w (from + i) 0) → t ≡ g s (get_or w (from + i) 0)
        → Tested F w₀ from n s₀ (set w (from + i) y) t (i + 1)
    unfolding first_small
    tested-turn h k {y} ey et =
        let z = f s (get_or w (from + i) 0) in
        let zs = F (g s (get_or w (from + i) 0)) (drop (i + 1) (part w₀ from n)) in
        let first : first_small (z ∷ zs) ≡ suc (first_small zs) = rw (lt-ltb z number_limit k) in
        rw et
        (record {
          scan = scanning-turn is so.scan h same_here y ey;
          many = omega (arith, so.many, ap first_small (next-made is so.scan h same_here), first);
        })

    tested-stop : first_small (F s (drop i (part w₀ from n))) ≡ 0 → Stored (F s₀ (part w₀ from n)) from w₀ w i
    tested-stop z = record { many = omega (arith, so.many); here = so.scan.here }

    -- a number is too large, or there is none more
    pub tested-over : i < n → (f s (get_or w (from + i) 0) < number_limit → ⊥) → Stored (F s₀ (part w₀ from n)) from w₀ w i
    unfolding first_small
    tested-over h k =
        tested-stop (ap first_small (next-made is so.scan h same_here) ∙ rw (le-ltb (f s (get_or w (from + i) 0)) number_limit (omega (arith, k))))

    pub tested-end : n ≤ i → Stored (F s₀ (part w₀ from n)) from w₀ w n
    unfolding first_small
    tested-end h =
        let e : i ≡ n = omega (arith, so.scan.most) in
        subst (Stored (F s₀ (part w₀ from n)) from w₀ w) e
        (tested-stop (ap (λ (l : List ℕ). first_small (F s l)) (part_end w₀ from n i h) ∙ ap first_small (is.none s)))
