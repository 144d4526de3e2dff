-- Bytes put, and how many they are at most: by one function, by the turns of a loop, from the start of an output. Assumes nothing.
use Prim.Native.Nat.{ℕ, ◌+◌, ◌*◌, ◌≤◌, ◌<◌}
use mathlib.Core.Path.{◌≡◌, refl, ap, ap₂, ◌∙◌}
use mathlib.Core.List.{List, [], ◌∷◌, ◌++◌}
use native.Mathlib.Nat.{mul-suc}
use native.Mathlib.Numerals.{add-one}
use native.Mathlib.Omega.{arith}
use lib.ListN.{length, get_or, drop}
use lib.Seq.{sets, drop-cons}
use Rattle.leaves.proofs.Putting.{Left, left-start, left-turn, left_end}
use Rattle.texts.specs.Written.{Puts, Written}
use Rattle.texts.specs.declared.pieces.Page.{Page}

-- how many they are
pub widened : {xs : List ℕ} {few most : ℕ} {p q : Page} → Puts xs few p q → few ≤ most → Puts xs most p q
widened p h = record { wrote = p.wrote; short = omega (arith, p.short); same = p.same }

-- from an output's start, where the page was made of it
pub written : {xs ys : List ℕ} {most : ℕ} {p q : Page} {out' : List ℕ} → p.at.byte ≡ 0 → xs ≡ ys → Puts xs most p q → out' ≡ q.out.now
    → Written ys most p.out.now out' q.at.byte
written {p = p} start e put last =
    record {
      ends = omega (arith, put.wrote.ends, ap length e);
      here = last ∙ put.wrote.here ∙ ap₂ (sets p.out.now) start e;
      short = omega (arith, put.short);
    }

-- ---- n turns of a loop, each of which puts at most so many bytes
pub record Turning (n each : ℕ) (whole : List ℕ) (p₀ : Page) (rest : List ℕ) (p : Page) (i : ℕ) : Type 0 where
  pub below : i ≤ n
  pub left : Left whole p₀.at.byte p₀.out.now rest p.out.now p.at.byte
  pub short : p.at.byte ≤ p₀.at.byte + each * i
  pub same : p.out.ghost_name ≡ p₀.out.ghost_name

pub turns-start : (n each : ℕ) (whole : List ℕ) (p : Page) → Turning n each whole p whole p 0
turns-start n each whole p = record { below = omega arith; left = left-start whole p.at.byte p.out.now; short = omega arith; same = refl }

module _ {n each : ℕ} {whole : List ℕ} {p₀ : Page} {rest : List ℕ} {p : Page} {i : ℕ} (turns : Turning n each whole p₀ rest p i) where
  pub turns_next : i < n → {front rest' : List ℕ} {q : Page} → rest ≡ front ++ rest' → Puts front each p q → Turning n each whole p₀ rest' q (i + 1)
  turns_next h e put =
      record {
        below = omega arith;
        left = left-turn turns.left e put.wrote;
        short = omega (arith, turns.short, put.short, add-one i, mul-suc each i);
        same = put.same ∙ turns.same;
      }

  pub turns-end : n ≤ i → rest ≡ [] → Puts whole (each * n) p₀ p
  turns-end h e =
      let all : i ≡ n = omega (arith, turns.below) in
      record { wrote = left_end turns.left e; short = rw all at turns.short; same = turns.same }

-- the rest of a list by its next element
pub rest-next : (l : List ℕ) (i : ℕ) → i < length l → drop i l ≡ get_or l i 0 ∷ drop (i + 1) l
rest-next l i h = rw add-one (drop-cons l i 0 h)
