-- What rank and select answer, by their tests. Assumes nothing.
use Prim.Native.Nat.{ℕ, ◌*◌, ◌≤◌, ◌<◌}
use mathlib.Core.Path.{◌≡◌}
use mathlib.Core.List.{List}
use lib.ListN.{length}
use borrow.Author.Tests.{le-leb, lt-leb}
use Rattle.meaning.specs.Answer.{given, refused}
use Rattle.meaning.specs.Bits.{low_bits}
use Rattle.meaning.specs.Limits.{most_bytes, no_sheet, no_place}
use Rattle.meaning.specs.Rank.{ones_before, one_at, rank, select}

module _ (bytes : List ℕ) (bit : ℕ) where
  pub rank-long : most_bytes < length bytes → rank bytes bit ≡ refused no_sheet
  unfolding rank
  rank-long h = rw (lt-leb (length bytes) most_bytes h)

  pub rank-past : length bytes ≤ most_bytes → 8 * length bytes < bit → rank bytes bit ≡ refused no_place
  unfolding rank
  rank-past h past = rw (le-leb (length bytes) most_bytes h, lt-leb bit (8 * length bytes) past)

  pub rank-within : length bytes ≤ most_bytes → bit ≤ 8 * length bytes → rank bytes bit ≡ given (ones_before (low_bits bytes) bit)
  unfolding rank
  rank-within h inside = rw (le-leb (length bytes) most_bytes h, le-leb bit (8 * length bytes) inside)

module _ (bytes : List ℕ) (k : ℕ) where
  pub select-long : most_bytes < length bytes → select bytes k ≡ refused no_sheet
  unfolding select
  select-long h = rw (lt-leb (length bytes) most_bytes h)

  pub select-within : length bytes ≤ most_bytes → select bytes k ≡ one_at no_place k (low_bits bytes)
  unfolding select
  select-within h = rw (le-leb (length bytes) most_bytes h)
