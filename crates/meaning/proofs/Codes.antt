-- The one case analysis over a code's number. Assumes nothing.
use Prim.Native.Nat.{ℕ, ◌<◌}
use mathlib.Core.Path.{◌≡◌, sym}
use mathlib.Core.Bool.{Bool, true, false, cond}
use mathlib.Core.List.{List, ◌∷◌, ◌++◌}
use native.Mathlib.Omega.{arith}
use lib.Dec.{ltb, leb, eqb}
use lib.ListN.{length, get_or, length-append}
use borrow.Author.Tests.{lt-ltb, le-leb, eqb-true, ne_eqb, leb-true}
use Rattle.meaning.specs.Codes.{from_first, to_last}
use Rattle.meaning.specs.Codes.{Code, always, code_vbyte, code_groups, code_g8iu, code_stream, code_gamma, code_delta, code_batches, code_direct, code_of}
use Rattle.meaning.specs.DataBytes.{byte_length}
use Rattle.meaning.specs.Places.{Spare}
use Rattle.meaning.specs.Positions.{at_byte}
use Rattle.meaning.specs.declared.Position.{Position}
use Rattle.meaning.proofs.Lasting.{Lasts, lasts-given}
use Rattle.meaning.proofs.Tests.{by-test}

-- what holds of each code by its number holds of the code that a number is
pub by_number {ℓ} : (P : Code → Type ℓ) (c : ℕ) → (c ≡ 1 → P code_vbyte) → (c ≡ 2 → P code_groups) → (c ≡ 3 → P code_g8iu) → (c ≡ 4 → P code_stream) →
    (c ≡ 5 → P code_gamma) → (c ≡ 6 → P code_delta)
    → P code_batches → (c ≡ 8 → P code_direct) → P (code_of c)
unfolding code_of
by_number P c one two three four five six seven eight =
    by-test (eqb c 1) (λ t. rw t (one (eqb-true c 1 t))) (λ f.
    rw f
    (by-test (eqb c 2) (λ t. rw t (two (eqb-true c 2 t))) (λ f.
    rw f
    (by-test (eqb c 3) (λ t. rw t (three (eqb-true c 3 t))) (λ f.
    rw f
    (by-test (eqb c 4) (λ t. rw t (four (eqb-true c 4 t))) (λ f.
    rw f
    (by-test (eqb c 5) (λ t. rw t (five (eqb-true c 5 t))) (λ f.
    rw f
    (by-test (eqb c 6) (λ t. rw t (six (eqb-true c 6 t))) (λ f.
    rw f
    (by-test (eqb c 8) (λ t. rw t (eight (eqb-true c 8 t))) (λ f. rw f seven)))))))))))))

pub by_code {ℓ} : (P : Code → Type ℓ) → P code_vbyte → P code_groups → P code_g8iu → P code_stream → P code_gamma → P code_delta → P code_batches
    → P code_direct → (c : ℕ) → P (code_of c)
by_code P one two three four five six seven eight c =
    by_number P c (λ e. one) (λ e. two) (λ e. three) (λ e. four) (λ e. five) (λ e. six) seven (λ e. eight)

-- an offset within a body is not the end of a longer one
pub past_end : (k : ℕ) (body : List ℕ) (b : ℕ) (more : List ℕ) → leb k (length body) ≡ true → eqb k (length (body ++ (b ∷ more))) ≡ false
past_end k body b more h =
    ne_eqb k (length (body ++ (b ∷ more))) (λ e. let l = leb-true k (length body) h in omega (arith, length-append body (b ∷ more)))

-- a number takes a byte at least
pub length_some : (x : ℕ) → 0 < byte_length x
unfolding byte_length
length_some x = go (ltb x (256)) (ltb x 65536) (ltb x 16777216)
  where
    go : (a b d : Bool) → 0 < cond a 1 (cond b 2 (cond d 3 4))
    go true b d = omega arith
    go false true d = omega arith
    go false false true = omega arith
    go false false false = omega arith

-- where a unit may follow any other, nothing is left spare
pub spare-always : (before : List ℕ) → Spare always before 0
spare-always before xs = sym (lt-ltb 0 (byte_length (get_or xs 0 0)) (length_some (get_or xs 0 0)))

-- ---- codes whose first unit begins with the body and whose last ends with it: bytes added behind the body
abbrev pub byte_inside : List ℕ → Position → Bool
byte_inside body p = leb p.head.byte (length body)

pub first-lasts : (body more : List ℕ) (n : ℕ) → Lasts (λ p. byte_inside body p ≡ true) (from_first body n) (from_first (body ++ more) n)
first-lasts body more n = lasts-given (at_byte 0) (le-leb 0 (length body) (omega arith))

pub left_over : (body : List ℕ) (b : ℕ) (more : List ℕ) (p : Position) → byte_inside body p ≡ true → to_last (body ++ (b ∷ more)) p ≡ false
left_over body b more p h = past_end p.head.byte body b more h
