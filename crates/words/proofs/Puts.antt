-- What the loops that put bytes know: the bytes of numbers of a list, and a number in so many bytes. Assumes nothing.
use Prim.Native.Nat.{ℕ, suc, ◌+◌, ◌-◌, ◌/◌, ◌%◌, ◌≤◌, ◌<◌}
use mathlib.Core.Path.{◌≡◌, refl, sym, ap, ◌∙◌}
use mathlib.Core.List.{List, [], ◌∷◌, ◌++◌}
use native.Mathlib.Nat.{add-zero, add_assoc, sub-zero}
use native.Mathlib.Omega.{arith}
use lib.ListN.{length, set}
use lib.Seq.{sets}
use Rattle.meaning.specs.Bytes.{bytes_of}
use Rattle.meaning.specs.DataBytes.{byte_length, fewest}
use Rattle.meaning.specs.Places.{Wrote}
use Rattle.meaning.specs.declared.Offset.{Offset}
use Rattle.words.proofs.DataBytes.{few-length}
use Rattle.leaves.proofs.Putting.{Left, left-start, left-long, left-turn, left_end}

-- ---- the bytes of n numbers, `bytes place count`, of which those from number i on are still to be put: putting them makes the whole
module _ (bytes : ℕ → ℕ → List ℕ) (from n at : ℕ) (out₀ : List ℕ) where
  pub record PutSo (out : List ℕ) (to i : ℕ) : Type 0 where
    pub most : i ≤ n
    pub left : Left (bytes from n) at out₀ (bytes (from + i) (n - i)) out to

  pub put-start : PutSo out₀ at 0
  put-start = record { most = omega arith; left = rw (add-zero from, sub-zero n) (left-start (bytes from n) at out₀) }

module _ {bytes : ℕ → ℕ → List ℕ} {from n at : ℕ} {out₀ out : List ℕ} {to i : ℕ} (so : PutSo bytes from n at out₀ out to i) where
  -- those of k numbers have been put
  pub put-turn : (k : ℕ) {front out' : List ℕ} {to' : Offset} → i + k ≤ n → bytes (from + i) (n - i) ≡ front ++ bytes (from + i + k) (n - i - k)
      → Wrote front to out out' to' → PutSo bytes from n at out₀ out' to'.byte (i + k)
  put-turn k {front} h e p =
      let m : n - i - k ≡ n - (i + k) = omega arith in
      let e' : bytes (from + i) (n - i) ≡ front ++ bytes (from + (i + k)) (n - (i + k)) = e ∙ rw (add_assoc from i k, m) in
      record { most = h; left = left-turn so.left e' p }

  pub put-end : n ≤ i → ((place : ℕ) → bytes place 0 ≡ []) → Wrote (bytes from n) at out₀ out (record { byte = to })
  put-end h none = let m : n - i ≡ 0 = omega arith in left_end so.left (rw m (none (from + i)))

-- one byte put, and one number
pub put_one : {b v at : ℕ} {out out' : List ℕ} → out' ≡ set out at b → b ≡ v → Wrote (v ∷ []) at out out' (record { byte = at + 1 })
put_one {at = at} {out = out} e is = record { ends = refl; here = e ∙ ap (set out at) is }

pub put-few : (x : ℕ) {at end : ℕ} {out out' : List ℕ} → (end ≡ at + byte_length x) × (out' ≡ sets out at (fewest x))
    → Wrote (fewest x) at out out' (record { byte = end })
put-few x {at = at} e = record { ends = e.0 ∙ ap (λ (m : ℕ). at + m) (sym (few-length x)); here = e.1 }

-- ---- a number in so many bytes
pub record NumberSo (x bytes at : ℕ) (out₀ out : List ℕ) (rest i : ℕ) : Type 0 where
  pub most : i ≤ bytes
  pub left : Left (bytes_of bytes x) at out₀ (bytes_of (bytes - i) rest) out (at + i)

pub number-start : (x bytes at : ℕ) (out₀ : List ℕ) → NumberSo x bytes at out₀ out₀ x 0
number-start x bytes at out₀ = record { most = omega arith; left = rw (sub-zero bytes, add-zero at) (left-start (bytes_of bytes x) at out₀) }

module _ {x bytes at : ℕ} {out₀ out : List ℕ} {rest i : ℕ} (t : NumberSo x bytes at out₀ out rest i) where
  pub number-long : length out ≡ length out₀
  number-long = left-long t.left

  pub number-turn : {b : ℕ} {out' : List ℕ} → i < bytes → b ≡ rest % 256 → out' ≡ set out (at + i) b → NumberSo x bytes at out₀ out' (rest / 256) (i + 1)
  unfolding bytes_of
  number-turn more eb here =
      let less : bytes - i ≡ suc (bytes - (i + 1)) = omega arith in
      record {
        most = omega arith;
        left = rw (← (add_assoc at i 1)) (left-turn (rw less at t.left) refl (put_one here eb));
      }

  pub number-end : bytes ≤ i → out ≡ sets out₀ at (bytes_of bytes x)
  unfolding bytes_of
  number-end all = let none : bytes - i ≡ 0 = omega arith in (left_end t.left (rw none)).here
