-- The steps of writing by a plan, over plain lists and numbers: each takes what the callees ensure to what the function ensures. Assumes nothing.
use Prim.Native.Nat.{ℕ, zero, suc, ◌+◌, ◌-◌, ◌*◌, ◌^◌, ◌≤◌, ◌<◌}
use mathlib.Core.Path.{◌≡◌, refl, sym, ap, ap₂, ◌∙◌}
use mathlib.Core.List.{List, ◌++◌, append_assoc, map}
use native.Mathlib.Omega.{arith}
use lib.ListN.{length, take, drop, length-append, length-take}
use lib.Seq.{sets}
use Rattle.meaning.specs.Bytes.{word}
use Rattle.meaning.specs.Codes.{code_of}
use Rattle.meaning.specs.Limits.{number_limit, most_numbers}
use Rattle.meaning.specs.Places.{Below, part, Wrote}
use Rattle.meaning.specs.Plan.{Plan, bad, code, reference, differences, runs, plan_at}
use Rattle.meaning.specs.Stages.{least, less_before, run_values, run_lengths, write}
use Rattle.meaning.specs.declared.Offset.{Offset}
use Rattle.meaning.proofs.Stores.{sets-append, sets-swap, take-sets, part-sets, part_same}
use Rattle.words.proofs.Words.{word-length}
use Rattle.leaves.proofs.Parts.{part_length}
use Rattle.codes.proofs.Numbered.{laws}
use Rattle.stages.specs.Runs.{RunsMade}
use Rattle.stages.specs.Room.{room, cap}
use Rattle.stages.proofs.Most.{cap-least, worst-cap, worst-grows, most, less-length, gaps-length}
use Rattle.stages.proofs.Parts.{part-below, shorter}
use Rattle.stages.proofs.Rooms.{room-least, room-grows}
use Rattle.stages.proofs.Runs.{runs-few}
use Rattle.plan_write.specs.Written.{Fit, FitRuns, Written}

-- ---- sizes
cap-grows : (l k n : ℕ) → k ≤ n → cap l k ≤ cap l n
unfolding cap
cap-grows zero k n h = omega arith
cap-grows (suc l) k n h = omega (arith, cap-grows l k n h)

-- a plan writes no more than its cap
write-cap : (l : ℕ) (bytes : List ℕ) (pos : ℕ) (ys : List ℕ) (n : ℕ) → Below number_limit ys → length ys ≤ n → n ≤ most_numbers
    → length (write (plan_at l bytes pos) ys) ≤ cap l n
write-cap l bytes pos ys n b h few =
    let p = plan_at l bytes pos in
    omega (arith, most laws p ys b (omega arith), worst-grows laws p (length ys) n h, worst-cap laws l bytes pos n)

-- ---- the room that is asked for
module _ {l n from at len : ℕ} (f : Fit l n from at len) where
  pub fit-list : from + n ≤ len
  fit-list = omega (arith, f.within, room-least l n)

  pub fit-code : at + 9 * n + 4 < 2 ^ 63
  fit-code = omega (arith, f.below, cap-least l n)

  -- under a stage: its inner plan, one more list behind the list, and a header
  module _ {l' : ℕ} (e : l ≡ suc l') where
    opened : (room l n ≡ n + n + room l' n) × (cap l n ≡ 8 + (cap l' n + cap l' n))
    unfolding room cap
    opened = rw e (refl, refl)

    pub fit-more : from + 2 * n ≤ len
    fit-more = omega (arith, opened, f.within, room-least l' n)

    pub fit-inner : {at' len' : ℕ} → at' ≤ at + 4 → len' ≡ len → Fit l' n (from + n) at' len'
    fit-inner h q =
        record {
          within = omega (arith, opened, f.within);
          below = omega (arith, opened, f.below);
          small = omega (arith, opened, f.small);
          few = f.few;
        }

    pub fit-runs : FitRuns l' n from at len
    fit-runs =
        record {
          within = omega (arith, opened, f.within);
          below = omega (arith, opened, f.below);
          small = omega (arith, opened, f.small);
          few = f.few;
        }

module _ {l n from at len : ℕ} (f : FitRuns l n from at len) where
  pub fit-three : from + 3 * n ≤ len
  fit-three = omega (arith, f.within, room-least l n)

  -- the two lists that a run stage makes: no longer than its list, and no further than the values' body
  pub fit-part : {k from' at' len' : ℕ} → k ≤ n → from' ≤ from + 2 * n → at' ≤ at + 8 + cap l n → len' ≡ len → Fit l k from' at' len'
  fit-part {k} h i j q =
      record {
        within = omega (arith, f.within, room-grows l k n h);
        below = omega (arith, f.below, cap-grows l k n h);
        small = omega (arith, f.small, cap-grows l k n h);
        few = omega (arith, f.few);
      }

-- ---- what is written
pub written-bad : {p : Plan} {xs w o : List ℕ} {keep : ℕ} {at : Offset} → p ≡ bad → Written p xs keep at.byte w w o o at
unfolding write
written-bad e = rw e (record { ends = omega arith; bytes = refl; kept = refl })

pub written-code : {p : Plan} {c keep at : ℕ} {xs w o o' : List ℕ} {r : Offset} → p ≡ code c → Wrote ((code_of c).write xs) at o o' r
    → Written p xs keep at w w o o' r
unfolding write
written-code e s = rw e (record { ends = s.ends; bytes = s.here; kept = refl })

pub written-stage : {p q : Plan} {keep at : ℕ} {xs w w' o o' : List ℕ} {r : Offset} → p ≡ q → Written q xs keep at w w' o o' r
    → Written p xs keep at w w' o o' r
written-stage e s = rw e s

-- the inner plan writes a list that was made behind the list
module _ {l l' n from at : ℕ} {w : List ℕ} (f : Fit l n from at (length w)) (one : l ≡ suc l') where
  inner : (q : Plan) (ys : List ℕ) (at' : ℕ) {r : Offset} {w₁ w₂ o o' : List ℕ} → length ys ≡ length (part w from n) → w₁ ≡ sets w (from + n) ys
      → Written q (part w₁ (from + n) n) (from + n + n) at' w₁ w₂ o o' r → Written q ys (from + n) at' w w₂ o o' r
  inner q ys at' {r} {w₁} {w₂} {o} {o'} same ew s =
      let fits = fit-more f one in
      let len : length ys ≡ n = same ∙ part_length w from n (omega arith) in
      let e : part w₁ (from + n) n ≡ ys
      = ap (λ (m : List ℕ). part m (from + n) n) ew ∙ ap (λ (k : ℕ). part (sets w (from + n) ys) (from + n) k) (sym len)
      ∙ part-sets ys w (from + n) (omega arith) in
      record {
        ends = s.ends ∙ ap (λ (l : List ℕ). at' + length (write q l)) e;
        bytes = s.bytes ∙ ap (λ (l : List ℕ). sets o at' (write q l)) e;
        kept = shorter (from + n) (from + n + n) w₂ w₁ (omega arith) s.kept ∙ ap (take (from + n)) ew
            ∙ take-sets ys w (from + n) (from + n) (omega arith);
      }

  pub written-differences : {p q : Plan} {r : Offset} {w₁ w₂ o o' : List ℕ} → p ≡ differences q
      → w₁ ≡ sets w (from + n) (less_before 0 (part w from n))
      → Written q (part w₁ (from + n) n) (from + n + n) at w₁ w₂ o o' r
      → Written p (part w from n) (from + n) at w w₂ o o' r
  unfolding write
  written-differences {p} {q} e ew s =
      let ys : List ℕ = less_before 0 (part w from n) in
      let t = inner q ys at (gaps-length (part w from n)) ew s in
      rw e (record { ends = t.ends; bytes = t.bytes; kept = t.kept })

  pub written-reference : {p q : Plan} {m : ℕ} {r : Offset} {w₁ w₂ o o₁ o₂ : List ℕ} → p ≡ reference q
      → m ≡ least (part w from n) → o₁ ≡ sets o at (word m) → w₁ ≡ sets w (from + n) (map (λ (x : ℕ). x - m) (part w from n))
      → Written q (part w₁ (from + n) n) (from + n + n) (at + 4) w₁ w₂ o₁ o₂ r
      → Written p (part w from n) (from + n) at w w₂ o o₂ r
  unfolding write
  written-reference {p} {q} {m} {r} {w₁} {w₂} {o} e em eo ew s =
      let xs : List ℕ = part w from n in
      let ys : List ℕ = map (λ (x : ℕ). x - m) xs in
      let t = inner q ys (at + 4) (less-length m xs) ew s in
      let all : word m ++ write q ys ≡ write (reference q) xs = ap (λ (z : ℕ). word z ++ write q (map (λ (x : ℕ). x - z) xs)) em in
      rw e (record {
        ends = omega (arith, t.ends, ap length all, length-append (word m) (write q ys), word-length m);
        bytes = t.bytes ∙ ap₂ (λ (l : List ℕ) (k : ℕ). sets l (at + k) (write q ys)) eo (sym (word-length m))
            ∙ sets-append (word m) (write q ys) o at ∙ ap (sets o at) all;
        kept = t.kept;
      })

-- ---- runs
-- a run stage's bytes: the two headers, the values' body and the lengths' body, the second header put last but one
runs-bytes : (o hd vb lb : List ℕ) {o₁ o₂ o₃ o₄ : List ℕ} (hl : ℕ → List ℕ) (at e : ℕ) → length hd ≡ 4 → ((x : ℕ) → length (hl x) ≡ 4)
    → o₁ ≡ sets o at hd → o₂ ≡ sets o₁ (at + 8) vb → e ≡ at + 8 + length vb → o₃ ≡ sets o₂ (at + 4) (hl (e - (at + 8))) → o₄ ≡ sets o₃ e lb
    → o₄ ≡ sets o at (hd ++ (hl (length vb) ++ (vb ++ lb)))
runs-bytes o hd vb lb {o₁} {o₂} {o₃} hl at e h₄ l₄ e₁ e₂ ee e₃ e₄ =
    let len : e - (at + 8) ≡ length vb = omega arith in
    let h₂ : List ℕ = hl (length vb) in
    let lh : length h₂ ≡ 4 = l₄ (length vb) in
    let a₃ : o₃ ≡ sets (sets o at (hd ++ h₂)) (at + 8) vb
    = e₃ ∙ ap (λ (x : ℕ). sets o₂ (at + 4) (hl x)) len ∙ ap (λ (l : List ℕ). sets l (at + 4) h₂) (e₂ ∙ ap (λ (l : List ℕ). sets l (at + 8) vb) e₁)
    ∙ sets-swap h₂ vb (sets o at hd) (at + 4) (at + 8) (omega arith)
    ∙ ap (λ (l : List ℕ). sets l (at + 8) vb) (ap (λ (x : ℕ). sets (sets o at hd) (at + x) h₂) (sym h₄) ∙ sets-append hd h₂ o at) in
    let p₈ : at + 8 ≡ at + length (hd ++ h₂) = omega (arith, length-append hd h₂) in
    let a₃' : o₃ ≡ sets o at ((hd ++ h₂) ++ vb) = a₃ ∙ ap (λ (x : ℕ). sets (sets o at (hd ++ h₂)) x vb) p₈ ∙ sets-append (hd ++ h₂) vb o at in
    let pe : e ≡ at + length ((hd ++ h₂) ++ vb) = omega (arith, length-append (hd ++ h₂) vb, length-append hd h₂) in
    e₄ ∙ ap₂ (λ (l : List ℕ) (x : ℕ). sets l x lb) a₃' pe ∙ sets-append ((hd ++ h₂) ++ vb) lb o at
    ∙ ap (sets o at) (append_assoc (hd ++ h₂) vb lb ∙ append_assoc hd h₂ (vb ++ lb))

-- the values' body of a run stage ends after the headers, and no further than its cap
pub record Ended (l n at e : ℕ) : Type 0 where
  pub after : at + 8 ≤ e
  pub before : e ≤ at + 8 + cap l n

module _ {l n from at k : ℕ} {w w₁ : List ℕ} (f : FitRuns l n from at (length w)) (m : RunsMade (part w from n) from n w w₁ k) where
  -- no more runs than numbers
  pub runs_fit : k ≤ n
  runs_fit = omega (arith, m.many, runs-few (part w from n), part_length w from n (omega (arith, f.within)))

  pub values-end : (bytes : List ℕ) (pos : ℕ) {keep : ℕ} {e : Offset} {w₂ o o' : List ℕ} → Below number_limit w₁
      → Written (plan_at l bytes pos) (part w₁ (from + 2 * n) k) keep (at + 8) w₁ w₂ o o' e → Ended l n at e.byte
  values-end bytes pos b s =
      let ys : List ℕ = part w₁ (from + 2 * n) k in
      let few : length ys ≤ n = omega (arith, runs_fit, length-take k (drop (from + 2 * n) w₁)) in
      let c = write-cap l bytes pos ys n (part-below w₁ (from + 2 * n) k b) few f.few in
      record { after = omega (arith, s.ends); before = omega (arith, s.ends) }

  pub written-runs : {p q q' : Plan} {a b : ℕ} {e r : Offset} {w₂ w₃ o o₁ o₂ o₃ o₄ : List ℕ} → q ≡ q'
      → a ≡ k → o₁ ≡ sets o at (word a)
      → Written p (part w₁ (from + 2 * n) k) (from + 2 * n + k) (at + 8) w₁ w₂ o₁ o₂ e
      → b ≡ e.byte - (at + 8) → o₃ ≡ sets o₂ (at + 4) (word b)
      → Written q (part w₂ (from + n) k) (from + n + k) e.byte w₂ w₃ o₃ o₄ r
      → Written (runs p q') (part w from n) (from + n) at w w₃ o o₄ r
  unfolding write
  written-runs {p} {q} {q'} {a} {b} {e} {r} {w₂} {w₃} {o} {o₁} {o₂} {o₃} eq ea eo s eb eo₃ t =
      let few = runs_fit in
      let xs : List ℕ = part w from n in
      let vs : List ℕ = run_values xs in
      let ls : List ℕ = run_lengths xs in
      let vb : List ℕ = write p vs in
      let lb : List ℕ = write q ls in
      let ev : part w₁ (from + 2 * n) k ≡ vs = m.values in
      let el : part w₂ (from + n) k ≡ ls = part_same w₂ w₁ (from + n) k (from + 2 * n + k) (omega arith) s.kept ∙ m.lengths in
      let ends₁ : e.byte ≡ at + 8 + length vb = s.ends ∙ ap (λ (l : List ℕ). at + 8 + length (write p l)) ev in
      let ends₂ : r.byte ≡ e.byte + length lb = t.ends ∙ ap (λ (l : List ℕ). e.byte + length (write q l)) el in
      let sizes = length-append (word (length vs)) (word (length vb) ++ (vb ++ lb)) in
      let sizes₂ = length-append (word (length vb)) (vb ++ lb) in
      rw (sym eq) (record {
        ends = omega (arith, length-append vb lb, word-length (length vs), word-length (length vb));
        bytes = runs-bytes o (word k) vb lb word at e.byte (word-length k) word-length
            (eo ∙ ap (λ (x : ℕ). sets o at (word x)) ea) (s.bytes ∙ ap (λ (l : List ℕ). sets o₁ (at + 8) (write p l)) ev) ends₁
            (eo₃ ∙ ap (λ (x : ℕ). sets o₂ (at + 4) (word x)) eb) (t.bytes ∙ ap (λ (l : List ℕ). sets o₃ e.byte (write q l)) el)
            ∙ ap (λ (x : ℕ). sets o at (word x ++ (word (length vb) ++ (vb ++ lb)))) m.many;
        kept = shorter (from + n) (from + n + k) w₃ w₂ (omega arith) t.kept
            ∙ shorter (from + n) (from + 2 * n + k) w₂ w₁ (omega arith) s.kept ∙ m.kept;
      })
