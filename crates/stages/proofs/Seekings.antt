-- A run sought in the lengths of a list (`seek_in`). Assumes nothing.
use Prim.Native.Nat.{ℕ, ◌+◌, ◌-◌, ◌≤◌, ◌<◌}
use mathlib.Core.Path.{◌≡◌, ◌∙◌}
use mathlib.Core.Bool.{true, false}
use mathlib.Core.List.{List}
use native.Mathlib.Omega.{arith}
use lib.ListN.{length, get_or}
use Rattle.std.specs.Prelude.{Ok, Err}
use Rattle.meaning.specs.Answer.{Answer, given}
use Rattle.meaning.specs.Stages.{seek}
use Rattle.stages.specs.Runs.{run_fits}
use Rattle.stages.specs.Seeks.{Seeks}
use Rattle.meaning.specs.declared.Refusal.TheVariants as refusal
use Rattle.stages.specs.declared.Sought.TheVariants as sought
use Rattle.stages.proofs.Seeks.{seek-breaks, seek-here, seek-later}
use Rattle.stages.proofs.Unrolls.{fits-so}

-- ---- in the lengths of a list: the first j of them have been passed, which end after `end` numbers of n
pub record Seeking (lengths : List ℕ) (n place done end j : ℕ) : Type 0 where
  pub within : end ≤ n
  pub passed : done + j ≤ end
  pub before : done ≤ place → end ≤ place
  pub so : (length_at : ℕ → Answer ℕ) (k m : ℕ) → ((i : ℕ) → i < length lengths → length_at (m + i) ≡ given (get_or lengths i 0)) → length lengths ≤ k
      → seek length_at n place k m done ≡ seek length_at n place (k - j) (m + j) end

module _ {lengths : List ℕ} {n place done end j : ℕ} (s : Seeking lengths n place done end j) where
  module _ (h : j < length lengths) where
    pub seeking-breaks : run_fits n end (get_or lengths j 0) ≡ false → Seeks lengths n place done (Err refusal.Broken)
    seeking-breaks f =
        record {
          told = λ length_at k m g b. s.so length_at k m g b ∙ seek-breaks length_at n place (k - j) (m + j) end (omega arith) (get_or lengths j 0) (g j h) f;
          within = tt;
        }

    module _ (fit : run_fits n end (get_or lengths j 0) ≡ true) where
      pub seeking-here : place < end + get_or lengths j 0 → Seeks lengths n place done (Ok (sought.At (record { number = j })))
      seeking-here c =
          record {
            told = λ length_at k m g b. s.so length_at k m g b
                ∙ seek-here length_at n place (k - j) (m + j) end (omega arith) (get_or lengths j 0) (g j h) fit c;
            within = h;
          }

      pub seeking-past : end + get_or lengths j 0 ≤ place → Seeking lengths n place done (end + get_or lengths j 0) (j + 1)
      seeking-past c =
          let (some, fits) = fits-so n end (get_or lengths j 0) fit in
          record {
            within = fits;
            passed = omega (arith, s.passed);
            before = λ b. c;
            so = λ length_at k m g b.
                let e : k - j - 1 ≡ k - (j + 1) = omega arith in
                let f : m + j + 1 ≡ m + (j + 1) = omega arith in
                s.so length_at k m g b ∙ seek-later length_at n place (k - j) (m + j) end (omega arith) (get_or lengths j 0) (g j h) fit c ∙ rw (e, f);
          }
