-- What the loop of a writing knows, for both forms. Assumes nothing.
use mathlib.Core.Path.{◌≡◌, refl, sym, ap, ◌∙◌}
use Prim.Native.Nat.{ℕ, ◌+◌, ◌*◌, ◌≤◌, ◌<◌}
use native.Mathlib.Omega.{arith}
use mathlib.Core.List.{List, [], ◌++◌, append-nil}
use lib.ListN.{length, get_or, drop, length-append}
use lib.Seq.{sets}
use Rattle.meaning.specs.Bits.{bits_high, pack}
use Rattle.meaning.specs.Limits.{number_limit}
use Rattle.meaning.specs.Places.{Source, Wrote}
use Rattle.meaning.specs.declared.Offset.{Offset}
use Rattle.elias.specs.Carry.{waiting, reach, Free, Pushed}
use Rattle.elias.specs.Says.{bits_of_word, code_with}
use Rattle.elias.specs.declared.output.Pending.{Pending}
use Rattle.elias.specs.declared.word.Form.{Form}
use Rattle.leaves.proofs.Joined.{joined-rest, joined-past}
use Rattle.elias.proofs.Forms.{most-bits, write-of}
use Rattle.elias.proofs.Laws.{words}
use Rattle.elias.proofs.Numbers.{high-length}
use Rattle.elias.proofs.Pack.{pack-length}

-- the bits of a list
abbrev stream : Form → List ℕ → List ℕ
stream f xs = words (bits_of_word f) xs

-- the numbers before the i-th have been pushed: what the output will hold is settled
pub record Writes (f : Form) (list : List ℕ) (at : ℕ) (out₀ out : List ℕ) (wait : Pending) (i : ℕ) : Type 0 where
  pub asked : Source list at
  pub few : wait.count < 8
  pub near : reach wait ≤ 8 * at + 65 * i
  pub reached : reach wait + length (stream f (drop i list)) ≡ 8 * at + length (stream f list)
  pub same : sets out wait.at.byte (pack (waiting wait ++ stream f (drop i list))) ≡ sets out₀ at (pack (stream f list))

module _ {f : Form} {list : List ℕ} {at : ℕ} {out₀ : List ℕ} where
  pub write-start : Source list at → Writes f list at out₀ out₀ (record { at = record { byte = at }; bits = 0; count = 0 }) 0
  unfolding bits_high
  write-start s = record { asked = s; few = omega arith; near = omega arith; reached = omega arith; same = refl }

  module _ {out : List ℕ} {wait : Pending} {i : ℕ} (w : Writes f list at out₀ out wait i) where
    pub write-room : {v : ℕ} → i < length list → 0 < v → v ≤ number_limit → Free wait (length (bits_of_word f v))
    write-room {v} h some few = record { few = w.few; low = omega (arith, w.near, w.asked.short, most-bits f v some few) }

    -- the next number's codeword was pushed
    pub write-turn : {out' : List ℕ} {r : Pending} → i < length list → get_or list i 0 < number_limit
        → Pushed (bits_of_word f (get_or list i 0 + 1)) wait out out' r → Writes f list at out₀ out' r (i + 1)
    write-turn h small p =
        let x = get_or list i 0 in
        let g = bits_of_word f (x + 1) in
        let next : stream f (drop i list) ≡ g ++ stream f (drop (i + 1) list) = joined-rest (λ n. bits_of_word f (n + 1)) list 0 i h in
        let size : length (stream f (drop i list)) ≡ length g + length (stream f (drop (i + 1) list)) =
        ap length next ∙ length-append g (stream f (drop (i + 1) list)) in
        record {
          asked = w.asked;
          few = p.few;
          near = omega (arith, w.near, p.reached, most-bits f (x + 1) (omega arith) (omega arith));
          reached = omega (arith, w.reached, p.reached);
          same = p.same (stream f (drop (i + 1) list)) ∙ ap (λ (l : List ℕ). sets out wait.at.byte (pack (waiting wait ++ l))) (sym next) ∙ w.same;
        }

    -- no more numbers have been pushed than there are: the bits that wait can be put
    pub write-rest : i ≤ length list → Free wait 0
    write-rest h = record { few = w.few; low = omega (arith, w.near, w.asked.short) }

    pub write-end : {out' : List ℕ} {r : Offset} → length list ≤ i → Wrote (pack (waiting wait)) wait.at.byte out out' r
        → Wrote ((code_with f).write list) at out₀ out' r
    write-end h e =
        let none : stream f (drop i list) ≡ [] = joined-past (λ n. bits_of_word f (n + 1)) list i h in
        let count : length (waiting wait) ≡ wait.count = high-length wait.count wait.bits in
        let all : length (stream f (drop i list)) ≡ 0 = ap length none in
        let last : waiting wait ≡ waiting wait ++ stream f (drop i list) =
        sym (append-nil (waiting wait)) ∙ ap (λ (l : List ℕ). waiting wait ++ l) (sym none) in
        rw (write-of f list)
        (record {
          ends = omega (arith, e.ends, pack-length (waiting wait), pack-length (stream f list), w.reached);
          here = e.here ∙ ap (λ (l : List ℕ). sets out wait.at.byte (pack l)) last ∙ w.same;
        })
