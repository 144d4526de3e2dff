-- A line's words put one after the other make the line. Assumes nothing.
use Prim.Native.Nat.{ℕ}
use mathlib.Core.Path.{◌≡◌, sym, ap, ◌∙◌}
use mathlib.Core.List.{List, [], ◌∷◌, ◌++◌, append_assoc, append-nil}
use Rattle.meaning.specs.Lists.{joined}
use Rattle.meaning.specs.Places.{Wrote}
use Rattle.meaning.specs.Texts.{line, line_feed, space}
use Rattle.meaning.specs.declared.Offset.{Offset}
use Rattle.leaves.proofs.Joined.{joined-append}
use Rattle.texts.specs.Listing.{words}
use Rattle.leaves.proofs.Putting.{wrote_after, wrote_as}

abbrev tail : List ℕ
tail = line_feed ∷ []

words-both : (vs ws : List (List ℕ)) → words (vs ++ ws) ++ tail ≡ words vs ++ (words ws ++ tail)
words-both vs ws = ap (λ (l : List ℕ). l ++ tail) (joined-append (λ w. space ∷ w) vs ws) ∙ append_assoc (words vs) (words ws) tail

-- a line's words after the first and the line feed have been put
pub record Rest (ws : List (List ℕ)) (at : ℕ) (out out' : List ℕ) (end : Offset) : Type 0 where
  pub put : Wrote (words ws ++ tail) at out out' end

module _ {at : ℕ} {mid end : Offset} {out out₁ out₂ : List ℕ} {ws : List (List ℕ)} where
  pub line_first : {w : List ℕ} → Wrote w at out out₁ mid → Rest ws mid.byte out₁ out₂ end → Wrote (line w ws) at out out₂ end
  unfolding line
  line_first p q = wrote_after p q.put

  -- a line that is put in two parts
  pub line-open : (w : List ℕ) (vs : List (List ℕ)) → Wrote (w ++ words vs) at out out₁ mid → Rest ws mid.byte out₁ out₂ end
      → Wrote (line w (vs ++ ws)) at out out₂ end
  unfolding line
  line-open w vs p q = wrote_as (append_assoc w (words vs) (words ws ++ tail) ∙ ap (λ (l : List ℕ). w ++ l) (sym (words-both vs ws))) (wrote_after p q.put)

  pub line-many : (vs : List (List ℕ)) → Wrote (words vs) at out out₁ mid → Rest ws mid.byte out₁ out₂ end → Rest (vs ++ ws) at out out₂ end
  line-many vs p q = record { put = wrote_as (sym (words-both vs ws)) (wrote_after p q.put) }

  pub line-next : {w : List ℕ} → Wrote (space ∷ w) at out out₁ mid → Rest ws mid.byte out₁ out₂ end → Rest (w ∷ ws) at out out₂ end
  unfolding joined
  line-next {w} p q = record { put = wrote_as (sym (append_assoc (space ∷ w) (words ws) tail)) (wrote_after p q.put) }

pub line-last : {at : ℕ} {end : Offset} {out out' : List ℕ} → Wrote (line_feed ∷ []) at out out' end → Rest [] at out out' end
unfolding joined
line-last p = record { put = p }

-- ---- words that no line feed follows
pub record Words (ws : List (List ℕ)) (at : ℕ) (out out' : List ℕ) (end : Offset) : Type 0 where
  pub put : Wrote (words ws) at out out' end

pub word-last : {w : List ℕ} {at : ℕ} {end : Offset} {out out' : List ℕ} → Wrote (space ∷ w) at out out' end → Words (w ∷ []) at out out' end
unfolding joined
word-last {w} p = record { put = wrote_as (sym (append-nil (space ∷ w))) p }

pub word_next : {w : List ℕ} {ws : List (List ℕ)} {at : ℕ} {mid end : Offset} {out out₁ out₂ : List ℕ}
    → Wrote (space ∷ w) at out out₁ mid → Words ws mid.byte out₁ out₂ end → Words (w ∷ ws) at out out₂ end
unfolding joined
word_next p q = record { put = wrote_after p q.put }
