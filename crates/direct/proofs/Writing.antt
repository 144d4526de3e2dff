-- The parts of a list, written one after the other. Assumes nothing.
use Prim.Native.Nat.{ℕ, ◌+◌, ◌*◌, ◌^◌, ◌≤◌, ◌<◌}
use mathlib.Core.Path.{◌≡◌, ap, ◌∙◌}
use mathlib.Core.List.{List}
use native.Mathlib.Omega.{arith}
use lib.ListN.{length}
use lib.Seq.{sets}
use Rattle.meaning.specs.Bytes.{bytes_of, word}
use Rattle.meaning.specs.DataBytes.{data_bytes}
use Rattle.meaning.specs.Direct.{flag_bytes, sum_count, sums_at, data_at, last_bits, direct_parts, write_direct}
use Rattle.meaning.specs.Lists.{joined}
use Rattle.meaning.specs.Places.{Source, Wrote}
use Rattle.meaning.specs.declared.Offset.{Offset}
use Rattle.leaves.proofs.Putting.{wrote_after, wrote-past}
use Rattle.words.proofs.Bytes.{bytes-length}
use Rattle.words.proofs.LowBits.{pack-length}
use Rattle.words.proofs.DataBytes.{data-most}
use Rattle.direct.specs.Parts.{flags_of, sums_of}
use Rattle.direct.proofs.Sums.{sums-length}
use Rattle.direct.proofs.Written.{parts-length}

module _ {xs : List ℕ} {at d : ℕ} (asked : Source xs at) (is : d ≡ length (data_bytes xs)) where
  pub data-few : d ≤ 4 * length xs
  data-few = omega (arith, data-most xs)

  -- no part stands too far
  pub sums-near : at + sums_at d + 4 * length xs < 2 ^ 63
  unfolding sums_at flag_bytes
  sums-near = omega (arith, data-few, asked.short)

  pub data-near : at + data_at d + 4 * length xs < 2 ^ 63
  unfolding data_at sums_at sum_count flag_bytes
  data-near = omega (arith, data-few, asked.short)

-- nothing of them lies within the output
pub parts-past : (xs : List ℕ) {d at : ℕ} {out : List ℕ} → d ≡ length (data_bytes xs) → length out ≤ at
    → Wrote (write_direct xs) at out out (record { byte = at + data_at d + d })
unfolding write_direct
parts-past xs is h = wrote-past h (omega (arith, ap data_at is, parts-length (length (data_bytes xs)) (joined last_bits xs) (data_bytes xs)))

-- where each part ends the next begins
pub parts-written : (xs : List ℕ) {d at : ℕ} {out out₁ out₂ out₃ out₄ : List ℕ} {flags sums end : Offset} → d ≡ length (data_bytes xs)
    → out₁ ≡ sets out at (bytes_of 4 d) → Wrote (flags_of xs) (at + 4) out₁ out₂ flags → Wrote (sums_of xs) (at + sums_at d) out₂ out₃ sums
    → Wrote (data_bytes xs) (at + data_at d) out₃ out₄ end → Wrote (write_direct xs) at out out₄ end
unfolding write_direct direct_parts word data_at sums_at
parts-written xs {d} {at} {out} {out₁} {out₂} {out₃} is header flags sums numbers =
    let bits = joined last_bits xs in
    let header-put : Wrote (bytes_of 4 (length (data_bytes xs))) at out out₁ (record { byte = at + 4 }) =
    record { ends = omega (arith, bytes-length 4 (length (data_bytes xs))); here = header ∙ ap (λ (k : ℕ). sets out at (bytes_of 4 k)) is } in
    let flags-put : Wrote (flags_of xs) (at + 4) out₁ out₂ (record { byte = at + sums_at d }) =
    record { ends = omega (arith, ap flag_bytes is, pack-length (flag_bytes (length (data_bytes xs))) bits); here = flags.here } in
    let sums-put : Wrote (sums_of xs) (at + sums_at d) out₂ out₃ (record { byte = at + data_at d }) =
    record { ends = omega (arith, ap sum_count is, sums-length (sum_count (length (data_bytes xs))) bits); here = sums.here } in
    wrote_after header-put (wrote_after flags-put (wrote_after sums-put numbers))
