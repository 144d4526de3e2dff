-- Writing one number byte by byte, on plain values. Assumes nothing.
use Prim.Native.Nat.{ℕ, zero, suc, ◌+◌, ◌-◌, ◌*◌, ◌/◌, ◌%◌, ◌^◌, ◌≤◌, ◌<◌}
use mathlib.Core.Path.{◌≡◌, refl, ap, ◌∙◌}
use native.Mathlib.Nat.{add-zero, add_assoc}
use mathlib.Core.List.{List, [], ◌∷◌, ◌++◌}
use native.Mathlib.Omega.{arith}
use lib.ListN.{set}
use borrow.Author.Tests.{lt-ltb, le-ltb}
use Rattle.meaning.specs.Places.{Wrote}
use Rattle.meaning.specs.VByte.{sevens, vbyte}
use Rattle.leaves.proofs.Putting.{Left, left-start, left-turn, left_end}
use Rattle.vbyte.proofs.Sevens.{limit}

sevens-last : (k x : ℕ) → x < 128 → sevens k x ≡ x ∷ []
unfolding sevens
sevens-last zero x h = refl
sevens-last (suc k) x h = rw (lt-ltb x 128 h)

sevens-more : (k x : ℕ) → 128 ≤ x → sevens (suc k) x ≡ ((x % 128 + 128) ∷ []) ++ sevens k (x / 128)
unfolding sevens
sevens-more k x h = rw (le-ltb x 128 h)

-- i bytes that others follow are put, and the rest of the number is still to come
pub record PutSo (x at : ℕ) (out₀ out : List ℕ) (rest i : ℕ) : Type 0 where
  pub small : rest < limit (4 - i)
  pub left : Left (vbyte x) at out₀ (sevens (4 - i) rest) out (at + i)

pub put-start : {x : ℕ} (at : ℕ) (out : List ℕ) → x < 2 ^ 32 → PutSo x at out out x 0
unfolding vbyte
put-start {x} at out h = record { small = h; left = rw add-zero (left-start (vbyte x) at out) }

module _ {x at : ℕ} {out₀ out : List ℕ} {rest i : ℕ} (so : PutSo x at out₀ out rest i) where
  -- the last byte
  pub put-end : rest < 128 → {out' : List ℕ} → out' ≡ set out (at + i) rest → Wrote (vbyte x) at out₀ out' (record { byte = at + i + 1 })
  put-end h e = left_end (left-turn so.left {front = rest ∷ []} (sevens-last (4 - i) rest h) (record { ends = refl; here = e })) refl

  -- a byte that others follow
  pub put-turn : i < 4 → 128 ≤ rest → {out' : List ℕ} → out' ≡ set out (at + i) (rest % 128 + 128) → PutSo x at out₀ out' (rest / 128) (i + 1)
  put-turn l h {out'} e =
      let k : 4 - i ≡ suc (4 - (i + 1)) = omega arith in
      let small : rest < 128 * limit (4 - (i + 1)) = rw k at so.small in
      record {
        small = omega arith;
        left = rw (← (add_assoc at i 1))
            (left-turn so.left {front = (rest % 128 + 128) ∷ []} (ap (λ (n : ℕ). sevens n rest) k ∙ sevens-more (4 - (i + 1)) rest h)
            (record { ends = refl; here = e }));
      }

-- four bytes are followed by another, and that is the last
pub put-fifth : {x at : ℕ} {out₀ out : List ℕ} {rest i : ℕ} → PutSo x at out₀ out rest i → i ≡ 4 → {out' : List ℕ} → out' ≡ set out (at + 4) rest
    → Wrote (vbyte x) at out₀ out' (record { byte = at + 5 })
put-fifth {x} {at} {out₀} {out} {rest} so is e =
    let last : PutSo x at out₀ out rest 4 = rw is at so in
    let five : at + 4 + 1 ≡ at + 5 = omega arith in
    rw five at (put-end last (omega (arith, last.small)) e)
