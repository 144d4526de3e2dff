-- What the loops of `take_ones` and `take` know: numbers of one byte, and then numbers of any length (`Taking` of `meaning`). Assumes nothing.
use Prim.Native.Nat.{ℕ, zero, suc, ◌+◌, ◌-◌, ◌≤◌, ◌<◌}
use mathlib.Core.Path.{◌≡◌, refl, ◌∙◌}
use mathlib.Core.List.{List, [], ◌∷◌, ◌++◌}
use native.Mathlib.Nat.{add-zero}
use native.Mathlib.Numerals.{add-one, towards_suc}
use native.Mathlib.Omega.{arith}
use Rattle.std.specs.Prelude.{Result, Ok}
use lib.ListN.{length, get_or, drop, set, length-drop, length-set}
use lib.Seq.{sets, length-take-le, take-add, drop-drop, get_or-take, get_or-drop}
use Rattle.meaning.specs.Codes.{code_vbyte}
use Rattle.meaning.specs.Places.{part, Took, Ends}
use Rattle.meaning.specs.Positions.{at_byte}
use Rattle.meaning.specs.VByte.{unit_vbyte}
use Rattle.meaning.specs.Says.{says_by}
use Rattle.meaning.specs.declared.Position.{Position}
use Rattle.meaning.specs.declared.Refusal.{Refusal}
use Rattle.meaning.specs.declared.Taken.{Taken}
use Rattle.meaning.proofs.Bounds.{below-nil, below-cons, below-append}
use Rattle.meaning.proofs.Codes.{spare-always}
use Rattle.meaning.proofs.Stores.{sets-append, sets-snoc}
use Rattle.meaning.proofs.Taking.{Takes, takes-start, takes-next, takes-end}
use Rattle.leaves.proofs.Parts.{part-snoc, part-each}
use Rattle.vbyte.specs.Numbers.{number_told, number_at, Ones}
use Rattle.vbyte.specs.declared.Number.{Number}
use Rattle.vbyte.proofs.Steps.{number-one, number-given}

-- ---- numbers of one byte: four at a time
pub ones-four : (body : List ℕ) (at from : ℕ) (work : List ℕ) {a b c d : ℕ} → at + 4 ≤ length body
    → a ≡ get_or body at 0 → b ≡ get_or body (at + 1) 0 → c ≡ get_or body (at + 2) 0 → d ≡ get_or body (at + 3) 0 → a < 128 → b < 128 → c < 128 → d < 128
    → Ones body at 4 from work (set (set (set (set work from a) (from + 1) b) (from + 2) c) (from + 3) d) 4
ones-four body at from work {a} {b} {c} {d} h ea eb ec ed la lb lc ld =
    let is : part body at 4 ≡ a ∷ b ∷ c ∷ d ∷ [] = rw (ea, eb, ec, ed, part-each 4 body at h) (simp towards_suc refl) in
    record {
      few = omega arith;
      there = omega arith;
      low = rw is
          (below-cons 128 a (b ∷ c ∷ d ∷ []) la
          (below-cons 128 b (c ∷ d ∷ []) lb (below-cons 128 c (d ∷ []) lc (below-cons 128 d [] ld (below-nil 128 (omega arith))))));
      here = rw is (simp towards_suc refl);
    }

part-long : (s : List ℕ) (at n : ℕ) → n ≤ length s - at → length (part s at n) ≡ n
part-long s at n h = length-take-le n (drop at s) (simp length-drop h)

module _ {body : List ℕ} {at most from : ℕ} {work work' : List ℕ} {n : ℕ} (ones : Ones body at most from work work' n) where
  -- some more that take one byte
  pub ones-more : {k m sum : ℕ} {work'' : List ℕ} → n + k ≤ most → Ones body (at + n) k (from + n) work' work'' m → sum ≡ n + m
      → Ones body at most from work work'' sum
  ones-more {k} {m} h next e =
      let these = part body at n in
      let those = part body (at + n) m in
      let is : part body at (n + m) ≡ these ++ those = rw (← (drop-drop n at body)) (take-add n m (drop at body)) in
      let stored : sets (sets work from these) (from + n) those ≡ sets work from (these ++ those) =
      rw (part-long body at n ones.there) at (sets-append these those work from) in
      rw e
      (record {
        few = omega (arith, next.few);
        there = omega (arith, ones.there, next.there);
        low = rw is (below-append 128 these those ones.low next.low);
        here = rw is (next.here ∙ rw ones.here stored);
      })

-- ---- taking: i numbers stand in work, a unit each, and the next is at an offset
abbrev TakesTo : List ℕ → ℕ → Position → List ℕ → ℕ → List ℕ → ℕ → ℕ → Type 0
TakesTo body left p w₀ from w i to = Takes code_vbyte body left p w₀ from w i i 0 (at_byte to)

-- the same where k bytes are the numbers
abbrev TakesOnes : List ℕ → ℕ → Position → List ℕ → ℕ → ℕ → Type 0
TakesOnes body left p w₀ from k = TakesTo body left p w₀ from (sets w₀ from (part body p.head.byte k)) k (p.head.byte + k)

module _ {body : List ℕ} {left : ℕ} {p : Position} {w₀ : List ℕ} {from : ℕ} where
  take-start : TakesTo body left p w₀ from w₀ 0 p.head.byte
  unfolding unit_vbyte
  take-start = takes-start code_vbyte body left p w₀ from (at_byte p.head.byte) (spare-always []) (λ k. refl)

  take-turn : {w : List ℕ} {i to : ℕ} → TakesTo body left p w₀ from w i to → i < left → (r : Result Number Refusal)
      → says_by number_told r ≡ number_at body to → {x : Number} → r ≡ Ok x → TakesTo body left p w₀ from (set w (from + i) x.value) (i + 1) x.next.byte
  take-turn {w} {i} {to} t h r told {x} e =
      takes-next code_vbyte body left p w₀ from w i i 0 (at_byte to) t refl _ _ h (number-given body (left - i) (at_byte to) r told e) (omega arith)
      (spare-always (x.value ∷ [])) refl

  -- numbers of one byte, one by one
  module _ {most : ℕ} {w : List ℕ} {n : ℕ} (ones : Ones body p.head.byte most from w₀ w n) (h : n ≤ left) where
    take-one : (k : ℕ) → k < n → TakesOnes body left p w₀ from k → TakesOnes body left p w₀ from (suc k)
    take-one k l t =
        let at = p.head.byte in
        let x = get_or body (at + k) 0 in
        let inside : at + k < length body = omega (arith, ones.there) in
        let low : x < 128 = rw (get_or-take n (drop at body) k 0 l, get_or-drop at body k 0) at (ones.low k) in
        let read = number-one body (at + k) (record { inside = inside; is = refl; small = omega arith }) refl low in
        let stored : set (sets w₀ from (part body at k)) (from + k) x ≡ sets w₀ from (part body at (k + 1)) =
        rw (part-snoc body at k inside) (rw (part-long body at k (omega (arith, ones.there))) at (sets-snoc (part body at k) x w₀ from)) in
        let next : at + k + 1 ≡ at + suc k = omega arith in
        rw (stored, next, add-one k) at (take-turn t (omega arith) (Ok (record { value = x; next = record { byte = at + k + 1 } })) read refl)

    upto : (k : ℕ) → k ≤ n → TakesOnes body left p w₀ from k
    upto zero l = rw add-zero take-start
    upto (suc k) l = take-one k l (upto k (omega arith))

    take-ones : TakesTo body left p w₀ from w n (p.head.byte + n)
    take-ones = rw ones.here (upto n (omega arith))

-- ---- the loop of `take`, which begins where i₁ numbers stand in w₁: whatever they were stored over, i stand in w now
pub record Onward (body : List ℕ) (left : ℕ) (p : Position) (from most : ℕ) (w₁ : List ℕ) (i₁ to₁ : ℕ) (w : List ℕ) (i to : ℕ) : Type 0 where
  pub many : i ≤ most
  pub within : most ≤ left
  pub fits : from + most ≤ length w
  pub long : length w ≡ length w₁
  pub on : (w₀ : List ℕ) → TakesTo body left p w₀ from w₁ i₁ to₁ → TakesTo body left p w₀ from w i to

module _ {body : List ℕ} {left : ℕ} {p : Position} {from most : ℕ} {w₁ : List ℕ} {i₁ to₁ : ℕ} {w : List ℕ} {i to : ℕ}
    (s : Onward body left p from most w₁ i₁ to₁ w i to) where
  pub onward-turn : i < most → (r : Result Number Refusal) → says_by number_told r ≡ number_at body to → {x : Number} → r ≡ Ok x
      → Onward body left p from most w₁ i₁ to₁ (set w (from + i) x.value) (i + 1) x.next.byte
  onward-turn h r told e =
      record {
        many = omega arith;
        within = s.within;
        fits = simp length-set s.fits;
        long = simp length-set s.long;
        on = λ w₀ t. take-turn (s.on w₀ t) (omega (arith, s.within)) r told e;
      }

  pub onward-end : {w₀ : List ℕ} → Ones body p.head.byte most from w₀ w₁ i₁ → to₁ ≡ p.head.byte + i₁ → {room : ℕ} → most ≤ room
      → {next : Position} → next ≡ at_byte to → {r : Taken} → Ends p i i 0 next r → Took code_vbyte body left p room from w₀ w r
  onward-end {w₀} ones e {room} h is {r} ends =
      let t = s.on w₀ (rw e (take-ones ones (omega (arith, ones.few, s.within)))) in
      takes-end code_vbyte body left p w₀ from w i i 0 (at_byte to) t room r (omega (arith, s.many)) (rw is at ends)
