-- Bytes put after bytes, and what a loop still has to put. Assumes nothing.
use Prim.Native.Nat.{ℕ, ◌+◌, ◌≤◌}
use mathlib.Core.Path.{◌≡◌, refl, sym, ap, ◌∙◌}
use mathlib.Core.List.{List, [], ◌++◌}
use native.Mathlib.Nat.{add-zero}
use native.Mathlib.Omega.{arith}
use lib.ListN.{length, length-append}
use lib.Seq.{sets, length-sets}
use Rattle.meaning.specs.Places.{Wrote}
use Rattle.meaning.specs.declared.Offset.{Offset}
use Rattle.meaning.proofs.Stores.{sets-append, sets-swap, sets-past}

-- some bytes are written, and others after them
pub wrote_after : {xs ys : List ℕ} {at : ℕ} {mid end : Offset} {out out₁ out₂ : List ℕ} → Wrote xs at out out₁ mid → Wrote ys mid.byte out₁ out₂ end
    → Wrote (xs ++ ys) at out out₂ end
wrote_after {xs} {ys} {at} {out = out} p q =
    record { ends = omega (arith, p.ends, q.ends, length-append xs ys); here = q.here ∙ rw (p.here, p.ends) (sets-append xs ys out at) }

-- the same where those that come first are written last
pub wrote-before : (xs : List ℕ) {ys : List ℕ} {at : ℕ} {end : Offset} {out out₁ out₂ : List ℕ} → Wrote ys (at + length xs) out out₁ end
    → out₂ ≡ sets out₁ at xs → Wrote (xs ++ ys) at out out₂ end
wrote-before xs {ys} {at} {out = out} p e =
    record {
      ends = omega (arith, p.ends, length-append xs ys);
      here = e ∙ rw p.here (sets-swap xs ys out at (at + length xs) (omega arith) ∙ sets-append xs ys out at);
    }

-- nothing of what is written lies within the output
pub wrote-past : {xs : List ℕ} {at : ℕ} {end : Offset} {out : List ℕ} → length out ≤ at → end.byte ≡ at + length xs → Wrote xs at out out end
wrote-past {xs} {at} {out = out} h e = record { ends = e; here = sym (sets-past xs out at h) }

-- the same bytes in other words
pub wrote_as : {xs ys : List ℕ} {at : ℕ} {out out' : List ℕ} {end : Offset} → xs ≡ ys → Wrote xs at out out' end → Wrote ys at out out' end
wrote_as e p = rw e at p

-- ---- a loop: putting the rest makes the whole
pub record Left (whole : List ℕ) (at : ℕ) (out₀ rest out : List ℕ) (to : ℕ) : Type 0 where
  pub here : sets out to rest ≡ sets out₀ at whole
  pub ends : to + length rest ≡ at + length whole

pub left-start : (whole : List ℕ) (at : ℕ) (out₀ : List ℕ) → Left whole at out₀ whole out₀ at
left-start whole at out₀ = record { here = refl; ends = refl }

module _ {whole : List ℕ} {at : ℕ} {out₀ rest out : List ℕ} {to : ℕ} (left : Left whole at out₀ rest out to) where
  pub left-long : length out ≡ length out₀
  left-long = sym (length-sets out to rest) ∙ ap length left.here ∙ length-sets out₀ at whole

  -- no offset is past the end of the whole
  pub left-most : to ≤ at + length whole
  left-most = omega (arith, left.ends)

  pub left-turn : {front rest' out' : List ℕ} {to' : Offset} → rest ≡ front ++ rest' → Wrote front to out out' to'
      → Left whole at out₀ rest' out' to'.byte
  left-turn {front} {rest'} e p =
      record {
        here = rw (p.here, p.ends) (sets-append front rest' out to ∙ ap (sets out to) (sym e)) ∙ left.here;
        ends = omega (arith, p.ends, left.ends, ap length e, length-append front rest');
      }

  pub left_end : rest ≡ [] → Wrote whole at out₀ out (record { byte = to })
  left_end e =
      record { ends = sym (add-zero to) ∙ ap (λ (l : List ℕ). to + length l) (sym e) ∙ left.ends; here = ap (sets out to) (sym e) ∙ left.here }
