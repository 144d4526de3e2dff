-- The number in the last bytes of a slice, taken from its end. Assumes nothing.
use Prim.Native.Nat.{ℕ, suc, ◌+◌, ◌-◌, ◌*◌, ◌^◌, ◌≤◌, ◌<◌, min}
use mathlib.Core.Path.{◌≡◌, sym, ap, ◌∙◌}
use mathlib.Core.List.{List, ◌∷◌}
use native.Mathlib.Omega.{arith}
use lib.ListN.{length, get_or, take, drop, length-drop, drop_of_length-le}
use lib.Pow.{pow-add, pow_mono}
use lib.Seq.{take_all, drop-cons, drop-length}
use Rattle.meaning.specs.Bytes.{number_of}
use Rattle.meaning.proofs.Tests.{by_order}

-- the bytes from i on make x, and there are at most 7 of them
pub record EndSo (bytes : List ℕ) (start i x : ℕ) : Type 0 where
  pub near : length bytes < start + 8
  pub inside : i ≤ length bytes
  pub reached : min start (length bytes) ≤ i
  pub small : x < 2 ^ (8 * (length bytes - i))
  pub so : x ≡ number_of (drop i bytes)

pub end-start : (bytes : List ℕ) (start : ℕ) → length bytes < start + 8 → EndSo bytes start (length bytes) 0
unfolding number_of
end-start bytes start h =
    let none : 8 * (length bytes - length bytes) ≡ 0 = omega arith in
    record { near = h; inside = omega arith; reached = omega arith; small = rw none (omega arith); so = rw (drop-length bytes) }

module _ {bytes : List ℕ} {start i x : ℕ} (so : EndSo bytes start i x) where
  -- before a turn at most 6 bytes have been taken
  pub end_fits : start < i → x < 2 ^ 48
  end_fits more =
      let most : 8 * (length bytes - i) ≤ 48 = omega (arith, so.near) in
      omega (arith, pow_mono most, so.small)

  pub end-turn : {b : ℕ} → start < i → b < 256 → b ≡ get_or bytes (i - 1) 0 → EndSo bytes start (i - 1) (256 * x + b)
  unfolding number_of
  end-turn {b} more byte e =
      let one : suc (i - 1) ≡ i = omega arith in
      let next : drop (i - 1) bytes ≡ get_or bytes (i - 1) 0 ∷ drop i bytes =
      drop-cons bytes (i - 1) 0 (omega (arith, so.inside)) ∙ ap (λ (n : ℕ). get_or bytes (i - 1) 0 ∷ drop n bytes) one in
      let long : 8 * (length bytes - (i - 1)) ≡ 8 * (length bytes - i) + 8 = omega (arith, so.inside) in
      record {
        near = so.near;
        inside = omega (arith, so.inside);
        reached = omega (arith, so.reached);
        small = rw (long, pow-add 2 (8 * (length bytes - i)) 8) (omega (arith, so.small));
        so = rw next (omega (arith, so.so));
      }

  pub end-end : i ≤ start → x ≡ number_of (take 8 (drop start bytes))
  end-end done =
      so.so ∙ ap number_of (from ∙ sym (take_all 8 (drop start bytes) (omega (arith, length-drop start bytes, so.near))))
    where
      -- past the end there is nothing
      from : drop i bytes ≡ drop start bytes
      from =
          by_order start (length bytes)
          (λ h. let here : i ≡ start = omega (arith, so.reached) in rw here)
          (λ h. drop_of_length-le bytes {i = i} (omega (arith, so.reached)) ∙ sym (drop_of_length-le bytes {i = start} h))
