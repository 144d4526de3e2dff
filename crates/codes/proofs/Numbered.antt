-- Which code a number is, and that each code is lawful. Assumes nothing.
use Prim.Native.Nat.{ℕ, ◌<◌}
use mathlib.Core.Path.{◌≡◌, refl, sym, ap, ◌∙◌}
use mathlib.Core.Bool.{Bool, true, false, cond}
use mathlib.Core.List.{List}
use native.Mathlib.Omega.{arith}
use lib.Dec.{eqb}
use lib.ListN.{length}
use borrow.Author.Tests.{ne_eqb, eq-eqb, eqb-true}
use Rattle.meaning.specs.Answer.{given}
use Rattle.meaning.specs.Codes.{code_of, code_vbyte, code_groups, code_g8iu, code_stream, code_gamma, code_delta, code_batches, code_direct}
use Rattle.meaning.specs.Codes.{Way, by_units, directly, look_code}
use Rattle.meaning.specs.Direct.{look_direct}
use Rattle.meaning.specs.Elias.{done_elias}
use Rattle.meaning.specs.Places.{Spare}
use Rattle.meaning.specs.Positions.{at_byte}
use Rattle.meaning.specs.declared.Position.{Position}
use Rattle.meaning.proofs.Codes.{by_number, by_code, spare-always}
use Rattle.meaning.proofs.Lawful.{Lawful}
use Rattle.meaning.proofs.Tests.{by-test, by_order}
use Rattle.vbyte.proofs.Laws.{lawful as vbyte}
use Rattle.groups.proofs.Laws.{lawful-groups, lawful-stream, lawful-batches}
use Rattle.g8iu.proofs.Laws.{lawful as g8iu}
use Rattle.elias.proofs.Laws.{lawful-gamma, lawful-delta}
use Rattle.codes.specs.Started.{is_direct}
use Rattle.direct.proofs.Laws.{lawful as direct-list}

module _ (c : ℕ) where
  pub code-1 : c ≡ 1 → code_of c ≡ code_vbyte
  unfolding code_of
  code-1 e = rw e

  pub code-2 : c ≡ 2 → code_of c ≡ code_groups
  unfolding code_of
  code-2 e = rw e

  pub code-3 : c ≡ 3 → code_of c ≡ code_g8iu
  unfolding code_of
  code-3 e = rw e

  pub code-4 : c ≡ 4 → code_of c ≡ code_stream
  unfolding code_of
  code-4 e = rw e

  pub code-5 : c ≡ 5 → code_of c ≡ code_gamma
  unfolding code_of
  code-5 e = rw e

  pub code-6 : c ≡ 6 → code_of c ≡ code_delta
  unfolding code_of
  code-6 e = rw e

  pub code-8 : c ≡ 8 → code_of c ≡ code_direct
  unfolding code_of
  code-8 e = rw e

  pub code-7 : (c ≡ 1 → ⊥) → (c ≡ 2 → ⊥) → (c ≡ 3 → ⊥) → (c ≡ 4 → ⊥) → (c ≡ 5 → ⊥) → (c ≡ 6 → ⊥) → (c ≡ 8 → ⊥) → code_of c ≡ code_batches
  unfolding code_of
  code-7 a b d e f g h = rw (ne_eqb c 1 a, ne_eqb c 2 b, ne_eqb c 3 d, ne_eqb c 4 e, ne_eqb c 5 f, ne_eqb c 6 g, ne_eqb c 8 h)

  -- every other code than the directly addressed list is looked up by units
  pub way-other : (c ≡ 8 → ⊥) → (code_of c).way ≡ by_units
  way-other h =
      by_number (λ d. d.way ≡ by_units) c (λ e. refl) (λ e. refl) (λ e. refl) (λ e. refl) (λ e. refl) (λ e. refl) refl (λ e. absurd (h e))

  -- every other code than Stream VByte and the directly addressed list begins with its first byte or bit
  pub start-other : (body : List ℕ) (n : ℕ) → (c ≡ 4 → ⊥) → (c ≡ 8 → ⊥) → (code_of c).start body n ≡ given (at_byte 0)
  start-other body n h k =
      by_number (λ d. d.start body n ≡ given (at_byte 0)) c (λ e. refl) (λ e. refl) (λ e. refl) (λ e. absurd (h e)) (λ e. refl) (λ e. refl) refl
      (λ e. absurd (k e))

  -- every other code than G8IU leaves nothing spare
  pub spare-other : (before : List ℕ) → (c ≡ 3 → ⊥) → Spare (code_of c).joins before 0
  spare-other before h =
      let none = spare-always before in
      by_number (λ d. Spare d.joins before 0) c (λ e. none) (λ e. none) (λ e. absurd (h e)) (λ e. none) (λ e. none) (λ e. none) none (λ e. none)

  -- the codes of Elias end with spare bits, and every other but Stream VByte and the directly addressed list with its last byte
  pub done-elias : (body : List ℕ) (p : Position) → 4 < c → c < 7 → (code_of c).done body p ≡ done_elias body p
  done-elias body p l h = by_order c 6 (λ a. rw (code-5 (omega arith))) (λ b. rw (code-6 (omega arith)))

  pub done-other : (body : List ℕ) (p : Position) → (c ≡ 4 → ⊥) → (c ≡ 5 → ⊥) → (c ≡ 6 → ⊥) → (c ≡ 8 → ⊥)
      → eqb p.head.byte (length body) ≡ (code_of c).done body p
  done-other body p h i j k =
      by_number (λ d. eqb p.head.byte (length body) ≡ d.done body p) c (λ e. refl) (λ e. refl) (λ e. refl) (λ e. absurd (h e)) (λ e. absurd (i e))
      (λ e. absurd (j e)) refl (λ e. absurd (k e))

-- ---- how a number is looked up
module _ (c : ℕ) where
  pub way-eight : is_direct (code_of c).way ≡ eqb c 8
  way-eight =
      by-test (eqb c 8) (λ t. rw (t, code-8 c (eqb-true c 8 t))) (λ f. rw (f, way-other c (λ e. not-both (eq-eqb c 8 e) f)))
    where
      not-both : {b : Bool} → b ≡ true → b ≡ false → ⊥
      not-both t f = let z : ◌≡◌ {A = ℕ} 0 1 = ap (λ b. cond b 0 1) (sym t ∙ f) in omega arith

  pub way-units : is_direct (code_of c).way ≡ false → (code_of c).way ≡ by_units
  way-units h = by_way (code_of c).way h
    where
      by_way : (w : Way) → is_direct w ≡ false → w ≡ by_units
      by_way by_units e = refl
      by_way (directly look) e = let z : ◌≡◌ {A = ℕ} 0 1 = ap (λ b. cond b 0 1) e in absurd (omega arith)

  pub look-eight : is_direct (code_of c).way ≡ true → (body : List ℕ) (n : ℕ) → look_code (code_of c) body n ≡ look_direct body
  unfolding look_code
  look-eight h body n = rw (code-8 c (eqb-true c 8 (sym way-eight ∙ h)))

-- each code is lawful
pub laws : (c : ℕ) → Lawful (code_of c)
laws c = by_code Lawful vbyte lawful-groups g8iu lawful-stream lawful-gamma lawful-delta lawful-batches direct-list c
