-- What a block leaves spare of its 8 data bytes: the next may follow where its first number takes more. Assumes nothing.
use Prim.Native.Nat.{ℕ, ◌+◌, ◌-◌, ◌<◌}
use mathlib.Core.Path.{◌≡◌, sym}
use mathlib.Core.List.{List, [], ◌∷◌}
use native.Mathlib.Omega.{arith}
use lib.ListN.{length, get_or}
use borrow.Author.Tests.{le-leb, lt-leb, lt-ltb, le-ltb}
use Rattle.meaning.specs.DataBytes.{byte_length, data_bytes}
use Rattle.meaning.specs.G8IU.{fits, joins_g8iu}
use Rattle.meaning.specs.Places.{Spare}
use Rattle.meaning.proofs.Codes.{length_some}
use Rattle.meaning.proofs.Tests.{by_order}

-- any block may be the first
pub fresh : Spare joins_g8iu [] 0
unfolding joins_g8iu
fresh xs = sym (lt-ltb 0 (byte_length (get_or xs 0 0)) (length_some (get_or xs 0 0)))

pub spare_none : (ys : List ℕ) → length ys ≡ 0 → Spare joins_g8iu ys 0
spare_none [] e = fresh
spare_none (y ∷ ys) e = absurd (omega arith)

pub spare_of : (ys : List ℕ) → 0 < length ys → Spare joins_g8iu ys (8 - length (data_bytes ys))
unfolding joins_g8iu fits
spare_of [] some xs = absurd (omega arith)
spare_of (y ∷ ys) some xs =
    let used = length (data_bytes (y ∷ ys)) in
    let more = byte_length (get_or xs 0 0) in
    by_order 8 (used + more)
    (λ h. rw (lt-leb (used + more) 8 h, lt-ltb (8 - used) more (omega (arith, length_some (get_or xs 0 0)))))
    (λ h. rw (le-leb (used + more) 8 h, le-ltb (8 - used) more (omega arith)))
